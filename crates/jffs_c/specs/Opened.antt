-- What opening a medium gives.
use Rattle.std.specs.Prelude.{◌≡◌, ◌*◌, ◌⊎◌, ℕ, List, length, false, Option, Some, None}
use Rattle.jffs_flash.specs.Device.{Device, device_of}
use Rattle.jffs_flash.specs.Sizes.{is_geometry}
use Rattle.jffs_node.specs.declared.read.Why.{Why}
use Rattle.jffs_node.specs.declared.read.Why.TheVariants as rule
use Rattle.jffs_log.specs.declared.scanning.ScanWhy.{ScanWhy}
use Rattle.jffs_log.specs.declared.scanning.ScanWhy.TheVariants as why
use Rattle.jffs_log.specs.Heal.{begun_on, healed_device, IsUnhealed}
use Rattle.jffs_core.specs.Past.{IsFresh}
use Rattle.jffs_c.specs.declared.code.Code.{Code}
use Rattle.jffs_c.specs.declared.code.Code.TheVariants as code
use Rattle.jffs_c.specs.declared.handle.Slot.{Slot}
use Rattle.jffs_c.specs.declared.opening.Refusal.{Refusal}
use Rattle.jffs_c.specs.declared.opening.Refused.{Refused}
use Rattle.jffs_c.specs.declared.volume.Phase.{Phase}
use Rattle.jffs_c.specs.declared.volume.Phase.TheVariants.{Ready, Carrying}
use Rattle.jffs_c.specs.declared.volume.Volume.{Volume}
use Rattle.jffs_c.specs.Codes.{number_of}

-- the calls that end an erase are left, where there is one
abbrev pub phase_after : Option ℕ → Phase
phase_after None = Ready
phase_after (Some sector) = Carrying

-- a core that is just mounted, on a medium of these bytes in whole sectors of this size, on which
-- the erase that was cut off is ended, where there is one
pub record IsOpened (bytes : List ℕ) (sector_size : ℕ) (volume : Volume) : Type 0 where
  pub sectors : ℕ
  pub whole : length bytes ≡ sectors * sector_size
  pub fresh : IsFresh (healed_device (device_of sectors sector_size bytes)) volume.core
  pub phase : volume.phase ≡ phase_after (begun_on (device_of sectors sector_size bytes))

-- a slot has such a volume
pub record HasOpened (bytes : List ℕ) (sector_size : ℕ) (slot : Slot) : Type 0 where
  pub volume : Volume
  pub held : slot.held ≡ Some volume
  pub opened : IsOpened bytes sector_size volume

-- the number of a rule that a record breaks
abbrev pub number_of_rule : Why → ℕ
number_of_rule rule.Magic = 1
number_of_rule rule.Kind = 2
number_of_rule rule.Flags = 3
number_of_rule rule.Name = 4
number_of_rule rule.Form = 5
number_of_rule rule.Spare = 6
number_of_rule rule.Size = 7
number_of_rule rule.Pad = 8

-- only a code is told
abbrev pub told_plainly : Code → Refused
told_plainly answer = record {
  code = answer;
  refusal = record { sector = 0; place = 0; rule = 0 };
}

-- what is told of why no log was found: its code, and of a bad record where it stands and the rule
-- that it breaks; the device fails only where memory is wanting for a call
abbrev pub told_of : ScanWhy → Refused
told_of (why.BadRecord sector place broken) = record {
  code = code.BadRecord;
  refusal = record { sector = sector; place = place; rule = number_of_rule broken };
}
told_of why.Geometry = told_plainly code.Geometry
told_of why.NoErased = told_plainly code.NoErased
told_of why.Scattered = told_plainly code.Scattered
told_of why.BadOrder = told_plainly code.BadOrder
told_of why.BadTree = told_plainly code.BadTree
told_of why.Device = told_plainly code.Memory
told_of why.Memory = told_plainly code.Memory

-- no log was found on a medium of these bytes in whole sectors of this size, for this reason
pub record HasNoLog (bytes : List ℕ) (sector_size : ℕ) (why : ScanWhy) : Type 0 where
  pub sectors : ℕ
  pub left : Device
  pub whole : length bytes ≡ sectors * sector_size
  pub refused : IsUnhealed (device_of sectors sector_size bytes) why left

-- the bytes aren't those of a volume in sectors of this size, however many they are
abbrev pub HasNoGeometry : List ℕ → ℕ → Type 0
HasNoGeometry bytes sector_size = (sectors : ℕ) → length bytes ≡ sectors * sector_size
    → is_geometry sectors sector_size ≡ false

-- why no volume is opened: its sizes, memory, or what a scan says
abbrev pub IsNotOpened : List ℕ → ℕ → Refused → Type 0
IsNotOpened bytes sector_size refused =
    ((refused ≡ told_plainly code.Geometry) × HasNoGeometry bytes sector_size)
    ⊎ (refused ≡ told_plainly code.Memory)
    ⊎ ((why : ScanWhy) × HasNoLog bytes sector_size why × (refused ≡ told_of why))

-- Done, and no refusal is written; or the number of the code of why no volume is opened, and its
-- refusal is
abbrev pub TellsRefusal : List ℕ → ℕ → Refusal → Refusal → ℕ → Type 0
TellsRefusal bytes sector_size old new answer =
    ((answer ≡ number_of code.Done) × (new ≡ old))
    ⊎ ((refused : Refused) × IsNotOpened bytes sector_size refused
    × (answer ≡ number_of refused.code) × (new ≡ refused.refusal))
