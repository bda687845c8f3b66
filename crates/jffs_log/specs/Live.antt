-- The log of a flat image, and what a scan needs of the sectors before it looks at versions and
-- tree.
use Rattle.std.specs.Prelude.{◌≡◌, ℕ, ◌*◌, ◌<◌, true, List, length, replicate}
use Rattle.std.specs.List.{list_any, AllByRecursion}
use Rattle.jffs_node.specs.declared.node.Node.{Node}
use Rattle.jffs_node.specs.declared.read.Read.{Read}
use Rattle.jffs_node.specs.declared.read.Read.TheVariants.{Closed, Free, Torn, Bad}
use Rattle.jffs_log.specs.Image.{Sector, Placed, log_of, is_one_run}
use Rattle.jffs_log.specs.Sector.{HoldsNodes}
use Rattle.jffs_log.specs.Volume.{sectors_in, sector_bytes}
use Rattle.jffs_flash.specs.Image.{erased_byte}

-- the records of a flat image, the oldest first
abbrev pub live_log : ℕ → ℕ → List ℕ → List Placed
live_log count len image = log_of (sectors_in count len image)

-- no bad record follows the records
abbrev pub IsGoodEnding : Read → Type 0
IsGoodEnding (Closed n length) = Unit {0}
IsGoodEnding Free = Unit {0}
IsGoodEnding Torn = Unit {0}
IsGoodEnding (Bad why) = ⊥

-- no bad record, and the erased sectors are one run
pub record IsReadable (sectors : List Sector) : Type 0 where
  pub sound : AllByRecursion (λ s. IsGoodEnding s.reading.ending) sectors
  pub erased : list_any (λ s. s.erased) sectors ≡ true
  pub run : is_one_run sectors ≡ true

-- the sector of that number holds these nodes, and then that many erased bytes
pub record IsOpenSector (count len : ℕ) (image : List ℕ) (k : ℕ) (nodes : List Node) (free : ℕ) :
    Type 0 where
  pub whole : length image ≡ count * len
  pub below : k < count
  pub holds : HoldsNodes (sector_bytes len k image) nodes (replicate free erased_byte)
