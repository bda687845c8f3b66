-- The inodes of a tree, and what one more node makes of one of them.
use Rattle.std.specs.Prelude.{ℕ, ◌+◌, Bool, not, ◌==◌, List, [], ◌∷◌, length, Option, Some}
use Rattle.std.specs.Prelude.{option_map, if◌then◌else◌, ◌≡◌, nat_le, IsTrue, ◌||◌, unwrap_or}
use Rattle.std.specs.Ordering.{nat_cmp}
use Rattle.std.specs.FinMap.Entries as entries
use Rattle.jffs_node.specs.declared.node.Node.{Node}
use Rattle.jffs_node.specs.Record.{dsize}
use Rattle.jffs_inodes.specs.Held.{Held, held_after, IsSmall}

-- the inodes that are present, in the order of their numbers
abbrev pub Tree : Type 0
Tree = List (ℕ × Held)

-- what a tree has of an inode
abbrev pub held_in : Tree → ℕ → Option Held
held_in tree i = entries.find nat_cmp i tree

-- the tree with an inode put in, over one that has its number
abbrev pub with_inode : Tree → ℕ → Held → Tree
with_inode tree i h = entries.put nat_cmp i h tree

-- The inodes stand in the order of their numbers.
abbrev pub AreOrdered : Tree → Type 0
AreOrdered tree = IsTrue (entries.is_sorted nat_cmp tree)

-- the tree of inodes that stand in any order; of two with one number the first
abbrev pub in_order : List (ℕ × Held) → Tree
in_order [] = []
in_order (e ∷ es) = with_inode (in_order es) e.0 e.1

-- the tree without an inode
abbrev pub without_inode : Tree → ℕ → Tree
without_inode tree i = entries.where_key nat_cmp (λ j. not (i == j)) tree

-- the tree with a node written over its inode, present or not
abbrev pub put_node : Tree → Node → Tree
put_node tree n = with_inode tree n.inode (held_after n (held_in tree n.inode))

-- There are no bytes after the range of the node, unless it keeps their offsets.
abbrev pub keeps_offsets_in : Tree → Node → Bool
keeps_offsets_in tree n = (dsize n == n.rsize)
    || nat_le (length (unwrap_or (option_map (λ h. h.entry.bytes) (held_in tree n.inode)) []))
    (n.offset + n.rsize)

-- The inodes stand in order, the node's is as the node makes it, and each other is as it was.
pub record WritesInode (old new : Tree) (n : Node) : Type 0 where
  pub ordered : AreOrdered new
  pub found : (i : ℕ) → held_in new i
      ≡ (if n.inode == i then Some (held_after n (held_in old i)) else held_in old i)

-- Under its name the node can be written over its inode in a tree, present or not.
pub record IsWritable (tree : Tree) (n : Node) (name : List ℕ) : Type 0 where
  pub named : n.name ≡ Some name
  pub small : IsSmall n
  pub offsets : IsTrue (keeps_offsets_in tree n)
