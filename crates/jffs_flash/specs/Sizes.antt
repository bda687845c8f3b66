-- Which sizes a volume may have.
use Rattle.std.specs.Prelude.{ℕ, Bool, ◌&&◌, nat_le, ◌==◌, [], ◌∷◌}
use Rattle.std.specs.List.{list_any}
use Rattle.jffs_flash.specs.declared.sizes.TheConstants.{MIN_SECTORS, MAX_SECTORS}

-- a sector may have that many bytes
abbrev pub is_sector_size : ℕ → Bool
is_sector_size z = list_any (λ y. y == z) (1024 ∷ 2048 ∷ 4096 ∷ 8192 ∷ 16384 ∷ [])

-- a volume may have that many sectors of that many bytes
abbrev pub is_geometry : ℕ → ℕ → Bool
is_geometry sectors sector_size =
    nat_le MIN_SECTORS sectors && nat_le sectors MAX_SECTORS && is_sector_size sector_size
