-- A device whose bytes stand in memory and in a store.
use Rattle.std.specs.Prelude.{◌≡◌, ℕ, ◌==◌, if◌then◌else◌, List, Option, Some}
use Rattle.jffs_flash.specs.Device.{Device}

-- how many erases are among so many failures
abbrev pub erases_among : ℕ → ℕ → ℕ
erases_among faults failed_erases = if faults == 0 then 0 else failed_erases

-- the device with other counts of its failures
abbrev pub with_counts : Device → ℕ → ℕ → Device
with_counts held faults failed_erases =
    record held { faults = faults; failed_erases = failed_erases }

-- the device that callers see: the bytes in memory, and the failures of the store
abbrev pub seen_device : Device → ℕ → ℕ → Device
seen_device held faults failed_erases =
    with_counts held faults (erases_among faults failed_erases)

-- the store holds the image that stands in memory, and no call failed
pub record IsKept (stored : Option (List ℕ)) (held : Device) (faults : ℕ) : Type 0 where
  pub sound : faults ≡ 0
  pub same : stored ≡ Some held.image

-- the store holds some image that such a call may have left
pub record IsLeftAs (stored : Option (List ℕ)) (Leaves : List ℕ → Type 0) : Type 0 where
  pub image : List ℕ
  pub same : stored ≡ Some image
  pub left : Leaves image
