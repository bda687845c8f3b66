-- The sectors of a flat image.
use Rattle.std.specs.Prelude.{ℕ, zero, suc, ◌*◌, List, [], ◌∷◌, take, drop, map}
use Rattle.jffs_flash.specs.Image.{window}
use Rattle.jffs_log.specs.Image.{Sector, sector_of}

-- the bytes of the first sectors, sector by sector
abbrev pub split : ℕ → ℕ → List ℕ → List (List ℕ)
split zero len image = []
split (suc more) len image = take len image ∷ split more len (drop len image)

-- the bytes of one sector
abbrev pub sector_bytes : ℕ → ℕ → List ℕ → List ℕ
sector_bytes len k image = window (k * len) len image

-- what the sectors read as
abbrev pub sectors_in : ℕ → ℕ → List ℕ → List Sector
sectors_in count len image = map sector_of (split count len image)
