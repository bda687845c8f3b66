-- A device of which each byte can be read only so often.
use Rattle.std.specs.Prelude.{ℕ, List, length, replicate}
use Rattle.jffs_flash.specs.Device.{Device}

-- the device inside, which never fails, how often each of its bytes can still be read, and how many
-- reads failed
pub record Limited : Type 0 where
  pub inner : Device
  pub left : List ℕ
  pub faults : ℕ

-- each byte of the device can be read that often
abbrev pub limited_to : ℕ → Device → Limited
limited_to reads device =
    record { inner = device; left = replicate (length device.image) reads; faults = 0 }

-- the device as its callers see it
abbrev pub limited_device : Limited → Device
limited_device limited = record limited.inner { faults = limited.faults }
