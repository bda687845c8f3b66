-- The sectors of an image as a ring: those of the log, the oldest first, and then the erased ones.
use Rattle.std.specs.Prelude.{◌≡◌, ◌⊎◌, ℕ, ◌+◌, ◌<◌, ◌≤◌, true, false, List, ◌++◌, length}
use Rattle.std.specs.List.{enumerate_from, AllByRecursion}
use Rattle.jffs_log.specs.Image.{Sector, turned}

-- Begun at the first, the sectors are those of the log and then the erased ones, of which there is
-- one.
pub record IsRing (first : ℕ) (sectors : List Sector) (held blank : List (ℕ × Sector)) :
    Type 0 where
  pub inside : first < length sectors
  pub order : turned first (enumerate_from 0 sectors) ≡ held ++ blank
  pub used : AllByRecursion (λ s. s.1.erased ≡ false) held
  pub unused : AllByRecursion (λ s. s.1.erased ≡ true) blank
  pub some : 1 ≤ length blank

-- The sector of this number is that many after the first of the ring.
abbrev pub IsAt : ℕ → ℕ → ℕ → ℕ → Type 0
IsAt first many j k = ((first + j ≡ k) × (k < many)) ⊎ ((first + j ≡ k + many) × (k < first))

-- the sector after the first
abbrev pub IsNext : ℕ → ℕ → ℕ → Type 0
IsNext first many next = ((next ≡ first + 1) × (next < many)) ⊎ ((first + 1 ≡ many) × (next ≡ 0))
