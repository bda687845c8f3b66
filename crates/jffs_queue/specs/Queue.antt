-- A device whose calls somebody else carries out: what the medium holds, and the calls that are to
-- come.
use Rattle.std.specs.Prelude.{◌≡◌, ◌⊎◌, ℕ, ◌+◌, ◌*◌, ◌^◌, ◌<◌, ◌≤◌, Bool, true, false, ◌&&◌, nat_le, nat_lt}
use Rattle.std.specs.Prelude.{List, ◌∷◌, [], ◌++◌, fold, length}
use Rattle.std.specs.List.{AllByRecursion}
use Rattle.jffs_flash.specs.Device.{Device}
use Rattle.jffs_flash.specs.Image.{window, programmed, erased}
use Rattle.jffs_flash.specs.declared.dooming.TheConstants.{DOOM_LEN}
use Rattle.jffs_flash.specs.Dooming.{doom}
use Rattle.jffs_queue.specs.declared.call.Call.{Call}
use Rattle.jffs_queue.specs.declared.call.Call.TheVariants.{Erase, Program}

-- what a call leaves of an image
abbrev pub after_call : ℕ → List ℕ → Call → List ℕ
after_call sector_size image (Erase sector) = erased sector_size sector image
after_call sector_size image (Program at bytes) = programmed at bytes.items image

-- what these calls leave of an image, carried out one after another
abbrev pub carried_out : ℕ → List Call → List ℕ → List ℕ
carried_out sector_size calls image = fold (after_call sector_size) image calls

-- a call of which a device of these sizes has the range
abbrev pub IsInside : ℕ → ℕ → Call → Type 0
IsInside sectors sector_size (Erase sector) = sector < sectors
IsInside sectors sector_size (Program at bytes) = at + length bytes.items ≤ sectors * sector_size

-- the program of these bytes
abbrev pub IsProgram : ℕ → List ℕ → Call → Type 0
IsProgram at bytes (Erase sector) = ⊥
IsProgram at bytes (Program from some) = (from ≡ at) × (some.items ≡ bytes)

-- A buffer that had the bytes of an image from an offset on has those that a call leaves of it.
abbrev pub IsLaidOver : ℕ → Call → ℕ → List ℕ → List ℕ → Type 0
IsLaidOver sector_size call from old new = (sectors : ℕ) (image : List ℕ)
    → length image ≡ sectors * sector_size → IsInside sectors sector_size call
    → from + length old ≤ length image → old ≡ window from (length old) image
    → new ≡ window from (length old) (after_call sector_size image call)

-- The sizes of the device, what the medium holds, the calls that wait, and how often a call failed,
-- erases counted once more.
pub record Queued : Type 0 where
  pub sectors : ℕ
  pub sector_size : ℕ
  pub medium : List ℕ
  pub calls : List Call
  pub faults : ℕ
  pub failed_erases : ℕ

-- a device whose medium holds this image, for which nothing waits
abbrev pub queued_of : ℕ → ℕ → List ℕ → Queued
queued_of sectors sector_size image =
    record {
      sectors = sectors;
      sector_size = sector_size;
      medium = image;
      calls = [];
      faults = 0;
      failed_erases = 0;
    }

-- the medium has the bytes of its sectors, the calls that wait stay within it, and erases that
-- failed are among the failures
pub record IsQueue (queued : Queued) : Type 0 where
  pub whole : length queued.medium ≡ queued.sectors * queued.sector_size
  pub inside : AllByRecursion (IsInside queued.sectors queued.sector_size) queued.calls
  pub counted : queued.failed_erases ≤ queued.faults

-- the device as its callers see it: as it is once the calls that wait are carried out
abbrev pub seen_device : Queued → Device
seen_device queued =
    record {
      sectors = queued.sectors;
      sector_size = queued.sector_size;
      image = carried_out queued.sector_size queued.calls queued.medium;
      faults = queued.faults;
      failed_erases = queued.failed_erases;
    }

-- one more call waits, and nothing else changed
abbrev pub Adds : Call → Queued → Queued → Type 0
Adds call old new = new ≡ record old { calls = old.calls ++ call ∷ [] }

-- the first bytes of the sector can be cleared by a program of their own
abbrev pub can_doom : ℕ → ℕ → Bool
can_doom sector sector_size = nat_le DOOM_LEN sector_size && nat_lt (sector * sector_size) (2 ^ 32)

-- that program
pub record IsDoom (sector sector_size : ℕ) (call : Call) : Type 0 where
  pub can : can_doom sector sector_size ≡ true
  pub is : IsProgram (sector * sector_size) doom call

-- one more erase waits, and before it, where it can be, the doom of its sector
abbrev pub AddsErase : ℕ → Queued → Queued → Type 0
AddsErase sector old new =
    ((call : Call) × IsDoom sector old.sector_size call
    × (new ≡ record old { calls = old.calls ++ call ∷ Erase sector ∷ [] }))
    ⊎ ((can_doom sector old.sector_size ≡ false) × Adds (Erase sector) old new)

-- the medium has one more call
abbrev pub with_call : Queued → Call → Queued
with_call queued call =
    record queued { medium = after_call queued.sector_size queued.medium call }
