-- What a decision keeps.
use Rattle.std.specs.Prelude.{◌≡◌, ◌≤◌, ◌<◌, ◌^◌, ℕ, true, List, ◌∷◌, length, get_or, Some, Ok}
use Rattle.std.specs.Prelude.{IsTrue}
use Rattle.std.specs.List.{AllByRecursion}
use Rattle.jffs_node.specs.declared.node.Node.{Node}
use Rattle.jffs_node.specs.Path.{IsPath}
use Rattle.jffs_node.specs.Record.{dsize, is_lawful}
use Rattle.jffs_tree.specs.declared.wish.Limits.{Limits}
use Rattle.jffs_tree.specs.declared.wish.NewNode.{NewNode}
use Rattle.jffs_tree.specs.declared.wish.Wish.{Wish}
use Rattle.jffs_tree.specs.declared.wish.Wish.TheVariants.{MakeDir, Create, Write, Truncate, Rename}
use Rattle.jffs_tree.specs.declared.wish.Wish.TheVariants.{Remove, Copy, Unmount}
use Rattle.jffs_inodes.specs.Held.{Entry}
use Rattle.jffs_tree.specs.State.{state_of_past}
use Rattle.jffs_tree.specs.Origin.{entry}
use Rattle.jffs_tree.specs.Check.{makes_tree}
use Rattle.jffs_tree.specs.Decide.{decide, with, cleaning_copy}

-- Lawful nodes that keep the rules of a tree, the newest first.
pub record IsLawfulPast (past : List Node) : Type 0 where
  pub each : AllByRecursion (λ n. IsTrue (is_lawful n)) past
  pub tree : makes_tree past ≡ true

-- a number for a new inode: above that of the root and those of all nodes
pub record IsNewInode (past : List Node) (inode : ℕ) : Type 0 where
  pub low : 2 ≤ inode
  pub high : inode < 2 ^ 32
  pub above : AllByRecursion (λ n. n.inode < inode) past

abbrev pub AreLimitsOf : List Node → Limits → Type 0
AreLimitsOf past limits = (inode : ℕ) → limits.next_inode ≡ Some inode → IsNewInode past inode

-- What the types of a wish give: each new path is a path, and data are bytes.
abbrev pub IsWish : Wish → Type 0
IsWish (MakeDir path) = IsPath path
IsWish (Create path) = IsPath path
IsWish (Write path offset bytes) = (k : ℕ) → get_or bytes k 0 < 256
IsWish (Truncate path size) = Unit {0}
IsWish (Rename source target) = IsPath target
IsWish (Remove path) = Unit {0}
IsWish (Copy source parent name offset bytes) = Unit {0}
IsWish Unmount = Unit {0}

-- a version, a writer and a number of a request, each in its field
pub record AreNumbers (version writer seq : ℕ) : Type 0 where
  pub first : 1 ≤ version
  pub version_fits : version < 2 ^ 32
  pub writer_fits : writer < 2 ^ 16
  pub seq_fits : seq < 2 ^ 32

-- A decided node is lawful, keeps the rules, and has no more data than a node may carry.
abbrev pub DecidedNodesKeepRules : Type 0
DecidedNodesKeepRules =
    (past : List Node) (limits : Limits) (wish : Wish) (n : NewNode) (version writer seq : ℕ)
    → IsLawfulPast past → AreLimitsOf past limits → IsWish wish → AreNumbers version writer seq
    → decide past limits wish ≡ Ok n
    → IsLawfulPast (with n version writer seq ∷ past) × (length n.bytes ≤ limits.data_max)

-- So is the copy that cleaning makes of a node whose inode is present, and it has no more data than
-- that node.
abbrev pub CleaningCopiesKeepRules : Type 0
CleaningCopiesKeepRules = (past : List Node) (n : Node) (e : Entry) (version writer seq : ℕ)
    → IsLawfulPast past → entry past n.inode ≡ Some e → AreNumbers version writer seq
    → IsLawfulPast (with (cleaning_copy (state_of_past past) n) version writer seq ∷ past)
    × (length (cleaning_copy (state_of_past past) n).bytes ≤ dsize n)
