-- A sector whose erase was cut off: how it is known, and the image once the erase is ended.
use Rattle.std.specs.Prelude.{◌≡◌, ◌⊎◌, ℕ, ◌*◌, Bool, true, false, not, ◌&&◌, ◌==◌, nat_le, nat_lt}
use Rattle.std.specs.Prelude.{List, length, Option, Some, None, is_ok, Result, Ok, Err}
use Rattle.std.specs.Prelude.{if◌then◌else◌}
use Rattle.std.specs.List.{list_all}
use Rattle.std.specs.Option.{option_map_or}
use Rattle.jffs_node.specs.declared.read.Why.{Why}
use Rattle.jffs_node.specs.declared.read.Why.TheVariants.{Magic}
use Rattle.jffs_flash.specs.declared.dooming.TheConstants.{DOOM_LEN}
use Rattle.jffs_flash.specs.Image.{window, erased, IsHalfErased}
use Rattle.jffs_flash.specs.Device.{Device, with_image, EraseFails}
use Rattle.jffs_flash.specs.Wear.{no_erase, one_erase}
use Rattle.jffs_log.specs.declared.scanning.ScanWhy.{ScanWhy}
use Rattle.jffs_log.specs.declared.scanning.ScanWhy.TheVariants.{BadRecord}
use Rattle.jffs_log.specs.Image.{Sector, starts, oldest_of, erased_count}
use Rattle.jffs_log.specs.Volume.{split, sectors_in}
use Rattle.jffs_log.specs.Scan.{Scanned, scan}
use Rattle.jffs_log.specs.ScanFound.{IsCause, scan_of}
use Rattle.jffs_log.specs.Shown.{restored}
use Rattle.jffs_log.specs.LogIndex.{live_in}
use Rattle.jffs_log.specs.Wear.{sector_after}

-- what a scan gives of the image
abbrev pub scan_in : ℕ → ℕ → List ℕ → Result Scanned ScanWhy
scan_in count len image = scan len (split count len image)

abbrev pub is_magic : Why → Bool
is_magic Magic = true
is_magic why = false

-- the sector where a scan stops at a first record that is closed and has another magic
abbrev pub stopped_by : ScanWhy → Option ℕ
stopped_by (BadRecord sector place why) =
    if place == 0 && is_magic why then Some sector else None
stopped_by why = None

abbrev pub stopped_at : Result Scanned ScanWhy → Option ℕ
stopped_at (Ok scanned) = None
stopped_at (Err why) = stopped_by why

-- the first bytes of that sector are cleared whole
abbrev pub is_cleared : ℕ → ℕ → List ℕ → Bool
is_cleared len k image = list_all (λ b. b == 0) (window (k * len) DOOM_LEN image)

-- how many records of that sector live, where a scan finds a log
abbrev pub live_found : ℕ → Result Scanned ScanWhy → ℕ
live_found k (Ok scanned) = live_in k scanned.tree scanned.log
live_found k (Err why) = 0

-- It was not in an erase: some of its magic is left, and with the right one a record of it lives.
abbrev pub is_damaged : ℕ → ℕ → List ℕ → ℕ → Bool
is_damaged count len image k =
    not (is_cleared len k image)
    && nat_lt 0 (live_found k (scan_in count len (restored len k image)))

-- it is the last of a run of erased sectors, of two at least, and the log begins after it
abbrev pub is_last_erased : ℕ → List Sector → Bool
is_last_erased k sectors =
    nat_le 2 (erased_count sectors) && nat_lt (erased_count sectors) (length sectors)
    && oldest_of (starts sectors) == sector_after (length sectors) k

-- its erase is to be ended: it is not damaged, and once it is erased a scan finds a log after it
abbrev pub was_begun : ℕ → ℕ → List ℕ → ℕ → Bool
was_begun count len image k =
    not (is_damaged count len image k)
    && is_ok (scan_in count len (erased len k image))
    && is_last_erased k (sectors_in count len (erased len k image))

abbrev pub only_if : (ℕ → Bool) → Option ℕ → Option ℕ
only_if test None = None
only_if test (Some k) = if test k then Some k else None

-- the sector whose erase is to be ended, where there is one
abbrev pub begun_erase : ℕ → ℕ → List ℕ → Option ℕ
begun_erase count len image =
    only_if (was_begun count len image) (stopped_at (scan_in count len image))

-- the image once it is
abbrev pub healed : ℕ → ℕ → List ℕ → List ℕ
healed count len image =
    option_map_or (λ k. erased len k image) (begun_erase count len image) image

-- the same of a device
abbrev pub begun_on : Device → Option ℕ
begun_on device = begun_erase device.sectors device.sector_size device.image

abbrev pub healed_device : Device → Device
healed_device device =
    with_image device (healed device.sectors device.sector_size device.image)

-- the erase of that sector is ended, where there is one
abbrev pub erase_of : Option ℕ → ℕ → ℕ
erase_of None = no_erase
erase_of (Some k) = one_erase k

-- No log was found. The image is as it was, unless the erase that was to be ended failed.
pub record IsUnhealed (device : Device) (why : ScanWhy) (after : Device) : Type 0 where
  pub cause : IsCause why device.faults after.faults (scan_of (healed_device device))
  pub rest : (after ≡ record device { faults = after.faults })
      ⊎ ((k : ℕ) × (begun_on device ≡ Some k)
      × EraseFails (IsHalfErased (k * device.sector_size) device.sector_size device.image)
      device after)
