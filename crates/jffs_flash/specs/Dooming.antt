-- A device that dooms each sector before it is erased: its first bytes are cleared.
use Rattle.std.specs.Prelude.{◌≡◌, ◌⊎◌, ℕ, ◌+◌, ◌-◌, ◌*◌, ◌≤◌, List, length, replicate, Result}
use Rattle.std.specs.Prelude.{MatchResult}
use Rattle.jffs_flash.specs.declared.dooming.TheConstants.{DOOM_LEN}
use Rattle.jffs_flash.specs.Device.{Device, Fails, Unchanged, with_image}
use Rattle.jffs_flash.specs.Image.{programmed, IsHalfProgrammed}
use Rattle.jffs_flash.specs.Wear.{Wear}

-- the bytes that are programmed over the first ones of the sector
abbrev pub doom : List ℕ
doom = replicate DOOM_LEN 0

-- the device as its callers see it: where a doom failed the erase did
abbrev pub with_failed_dooms : ℕ → Device → Device
with_failed_dooms failed_dooms inner =
    record inner { failed_erases = inner.failed_erases + failed_dooms }

-- what its callers had it erase and program: the dooms are left out
abbrev pub without_dooms : ℕ → Wear → Wear
without_dooms dooms inner = record inner { bytes = inner.bytes - DOOM_LEN * dooms }

-- a sector that has room for the doom begins here
pub record IsDoomAt (sector : ℕ) (device : Device) (at : ℕ) : Type 0 where
  pub begins : at ≡ sector * device.sector_size
  pub room : DOOM_LEN ≤ device.sector_size
  pub inside : at + device.sector_size ≤ length device.image

-- the first bytes of the sector are cleared, or some of their bits, or it wasn't tried
abbrev pub IsDoomed : {A E : Type 0} → ℕ → Result A E → Device → Device → Type 0
IsDoomed sector result old new = MatchResult result
    (λ _. Unchanged old new
    ⊎ ((at : ℕ) × IsDoomAt sector old at × (new ≡ with_image old (programmed at doom old.image))))
    (λ _. (at : ℕ) × IsDoomAt sector old at × Fails (IsHalfProgrammed at doom old.image) old new)
