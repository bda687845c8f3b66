-- A flash device as its callers see it, and what its calls leave of it.
use Rattle.std.specs.Prelude.{◌≡◌, ℕ, ◌+◌, ◌*◌, ◌<◌, List, length, replicate, Result, MatchResult}
use Rattle.jffs_flash.specs.Image.{erased_byte, programmed, IsHalfProgrammed, erased, IsHalfErased}

-- how many sectors it has, how many bytes each, all bytes, the sectors one after another, how many
-- calls failed so far, and how many erases among them: the sector of such a one may hold any bytes
pub record Device : Type 0 where
  pub sectors : ℕ
  pub sector_size : ℕ
  pub image : List ℕ
  pub faults : ℕ
  pub failed_erases : ℕ

-- its bytes are those of its sectors
abbrev pub IsWhole : Device → Type 0
IsWhole device = length device.image ≡ device.sectors * device.sector_size

-- the same device with other bytes
abbrev pub with_image : Device → List ℕ → Device
with_image device image = record device { image = image }

-- the device that holds these bytes, and never failed
abbrev pub device_of : ℕ → ℕ → List ℕ → Device
device_of sectors sector_size image =
    record {
      sectors = sectors;
      sector_size = sector_size;
      image = image;
      faults = 0;
      failed_erases = 0;
    }

-- the device whose sectors are all erased
abbrev pub erased_device : ℕ → ℕ → Device
erased_device sectors sector_size =
    device_of sectors sector_size (replicate (sectors * sector_size) erased_byte)

-- A call failed and left such an image: the count has risen, and nothing else changed.
pub record Fails (Leaves : List ℕ → Type 0) (old new : Device) : Type 0 where
  pub left : Leaves new.image
  pub faults : old.faults < new.faults
  pub rest : new ≡ record old { image = new.image; faults = new.faults }

-- the same of an erase
pub record EraseFails (Leaves : List ℕ → Type 0) (old new : Device) : Type 0 where
  pub left : Leaves new.image
  pub faults : old.faults < new.faults
  pub rest : new
      ≡ record old {
        image = new.image;
        faults = new.faults;
        failed_erases = old.failed_erases + 1;
      }

-- no call was made
abbrev pub Unchanged : Device → Device → Type 0
Unchanged old new = new ≡ old

-- a read changes no byte
abbrev pub Reads : {A E : Type 0} → Result A E → Device → Device → Type 0
Reads result old new =
    MatchResult result (λ _. Unchanged old new) (λ _. Fails (λ image. image ≡ old.image) old new)

-- these bytes are programmed from an offset on, or some of their bits
abbrev pub Programs : {A E : Type 0} → ℕ → List ℕ → Result A E → Device → Device → Type 0
Programs at bytes result old new = MatchResult result
    (λ _. new ≡ with_image old (programmed at bytes old.image))
    (λ _. Fails (IsHalfProgrammed at bytes old.image) old new)

-- a sector is erased, or holds any bytes
abbrev pub Erases : {A E : Type 0} → ℕ → Result A E → Device → Device → Type 0
Erases sector result old new = MatchResult result
    (λ _. new ≡ with_image old (erased old.sector_size sector old.image))
    (λ _. EraseFails (IsHalfErased (sector * old.sector_size) old.sector_size old.image) old new)
