-- What an erase that was cut off may leave of a log, and that healing finds the tree of that log.
use Rattle.std.specs.Prelude.{◌≡◌, ℕ, ◌+◌, ◌*◌, ◌≤◌, ◌<◌, Bool, true, false, ◌&&◌, ◌==◌, List, length}
use Rattle.std.specs.Prelude.{take, bytes_eq, Ok}
use Rattle.jffs_node.specs.declared.node.Node.{Node}
use Rattle.jffs_node.specs.declared.layout.TheConstants.{GATE_AT, GATE_CLOSED}
use Rattle.jffs_node.specs.Record.{magic}
use Rattle.jffs_node.specs.Reading.{byte_at}
use Rattle.jffs_inodes.specs.Inodes.{Tree}
use Rattle.jffs_tree.specs.Origin.{tree_of}
use Rattle.jffs_flash.specs.Dooming.{doom}
use Rattle.jffs_flash.specs.Image.{IsHalfProgrammed, IsHalfErased}
use Rattle.jffs_log.specs.Volume.{sector_bytes}
use Rattle.jffs_log.specs.Scan.{Scanned}
use Rattle.jffs_log.specs.LogIndex.{live_in}
use Rattle.jffs_log.specs.Erasable.{MayErase}
use Rattle.jffs_log.specs.History.{IsLawfulHistory}
use Rattle.jffs_log.specs.Heal.{scan_in, is_damaged, healed}

-- a record begins here: its gate is closed, and its magic is right
abbrev pub begins_record : List ℕ → Bool
begins_record bytes =
    byte_at GATE_AT bytes == GATE_CLOSED && bytes_eq (take (length magic) bytes) magic

-- a scan finds a log of which no record in that sector lives
pub record IsFoundDead (count len : ℕ) (image : List ℕ) (k : ℕ) : Type 0 where
  pub scanned : Scanned
  pub found : scan_in count len image ≡ Ok scanned
  pub dead : live_in k scanned.tree scanned.log ≡ 0

-- What the sector holds can be told from a log's: where a record begins it, all of its records are
-- dead as they were; and else they are dead too, as a scan finds them that is shown the right magic,
-- or that magic is cleared whole.
pub record IsHealable (count len : ℕ) (image : List ℕ) (k : ℕ) : Type 0 where
  pub as_record : begins_record (sector_bytes len k image) ≡ true → IsFoundDead count len image k
  pub otherwise : begins_record (sector_bytes len k image) ≡ false
      → is_damaged count len image k ≡ false

-- a scan finds this tree
pub record FindsTree (tree : Tree) (count len : ℕ) (image : List ℕ) : Type 0 where
  pub scanned : Scanned
  pub found : scan_in count len image ≡ Ok scanned
  pub tree_is : scanned.tree ≡ tree

-- Whatever bytes such a sector holds while it is erased, that are healable: healing finds the tree.
abbrev pub ErasesAreHealed : Type 0
ErasesAreHealed = (count len : ℕ) (old new : List ℕ) (past : List Node) (k : ℕ)
    → MayErase count len old past k → IsHalfErased (k * len) len old new
    → IsHealable count len new k → FindsTree (tree_of past) count len (healed count len new)

-- While it is doomed each sector is healable, whichever bits of its magic are cleared.
abbrev pub DoomsAreHealable : Type 0
DoomsAreHealable = (count len : ℕ) (old new : List ℕ) (past : List Node) (k : ℕ)
    → MayErase count len old past k → IsHalfProgrammed (k * len) doom old new
    → IsHealable count len new k

-- What is doomed, or erased, once more is as what was once.
abbrev pub DoomsGoOn : Type 0
DoomsGoOn = (at : ℕ) (old between new : List ℕ) → at + length doom ≤ length old
    → IsHalfProgrammed at doom old between → IsHalfProgrammed at doom between new
    → IsHalfProgrammed at doom old new

abbrev pub ErasesGoOn : Type 0
ErasesGoOn = (at len : ℕ) (old between new : List ℕ) → at + len ≤ length old
    → IsHalfErased at len old between → IsHalfErased at len between new
    → IsHalfErased at len old new

-- A lawful log is left as it is.
abbrev pub LawfulStay : Type 0
LawfulStay = (count len : ℕ) (image : List ℕ) (past : List Node)
    → IsLawfulHistory count len image past → healed count len image ≡ image
