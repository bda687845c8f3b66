-- Which sector of a log may be erased.
use Rattle.std.specs.Prelude.{◌≡◌, ℕ, ◌*◌, ◌≤◌, false, List, length}
use Rattle.std.specs.List.{AllByRecursion}
use Rattle.jffs_node.specs.declared.node.Node.{Node}
use Rattle.jffs_tree.specs.Origin.{tree_of}
use Rattle.jffs_log.specs.Image.{starts, oldest_of, log_sectors, records_in_first}
use Rattle.jffs_log.specs.Volume.{sectors_in}
use Rattle.jffs_log.specs.LogIndex.{lives_in}
use Rattle.jffs_log.specs.History.{IsLawfulHistory}

-- That sector may be erased: it is the oldest one of a lawful log, not its tail, and no record of
-- it lives.
pub record MayErase (count len : ℕ) (image : List ℕ) (past : List Node) (k : ℕ) : Type 0 where
  pub history : IsLawfulHistory count len image past
  pub whole : length image ≡ count * len
  pub oldest : k ≡ oldest_of (starts (sectors_in count len image))
  pub several : 2 ≤ length (log_sectors (sectors_in count len image))
  pub dead : AllByRecursion (λ p. lives_in (tree_of past) p ≡ false)
      (records_in_first (log_sectors (sectors_in count len image)))
