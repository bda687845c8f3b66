-- What is asked on the way of a scan that heals.
use Rattle.std.specs.Prelude.{◌≡◌, ◌⊎◌, ℕ, ◌<◌, true, Option, Some}
use Rattle.jffs_flash.specs.Device.{Device, with_image}
use Rattle.jffs_flash.specs.Image.{erased}
use Rattle.jffs_flash.specs.Sizes.{is_geometry}
use Rattle.jffs_log.specs.declared.scanning.FoundLog.{FoundLog}
use Rattle.jffs_log.specs.declared.scanning.ScanWhy.{ScanWhy}
use Rattle.jffs_log.specs.declared.scanning.ScanWhy.TheVariants.{Device as DeviceFailed, Memory}
use Rattle.jffs_log.specs.ScanFound.{IsFound}
use Rattle.jffs_log.specs.Heal.{was_begun}

-- a sector of a volume
pub record IsAsked (sector : ℕ) (device : Device) : Type 0 where
  pub sizes : is_geometry device.sectors device.sector_size ≡ true
  pub inside : sector < device.sectors

-- the device or memory failed, and nothing but the count of faults has changed
pub record HasStopped (why : ScanWhy) (old new : Device) : Type 0 where
  pub cause : ((why ≡ DeviceFailed) × (old.faults < new.faults))
      ⊎ ((why ≡ Memory) × (new.faults ≡ old.faults))
  pub rest : new ≡ record old { faults = new.faults }

-- the erase of that sector is to be ended, and this is the log without it
pub record IsEnded (sector : ℕ) (device : Device) (found : FoundLog) : Type 0 where
  pub begun : was_begun device.sectors device.sector_size device.image sector ≡ true
  pub is : IsFound device.sectors device.sector_size
      (erased device.sector_size sector device.image)
      found.index found.tree found.clean found.limits
