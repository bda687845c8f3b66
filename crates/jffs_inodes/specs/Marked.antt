-- The marks that the inodes of a tree ask for, and how they move with a node.
use Rattle.std.specs.Prelude.{ℕ, ◌+◌, false, ◌==◌, Option, Some, option_map}
use Rattle.std.specs.Prelude.{if◌then◌else◌, ◌≡◌, flat_map, count_by, ◌≤◌}
use Rattle.std.specs.Option.{option_map_or, option_to_list}
use Rattle.jffs_node.specs.declared.node.Node.{Node}
use Rattle.jffs_node.specs.Record.{dsize, file_max}
use Rattle.jffs_inodes.specs.Held.{Held, versions_held}
use Rattle.jffs_inodes.specs.Inodes.{Tree, held_in}
use Rattle.jffs_marks.specs.Marks.{Counts, mark_of}

-- how many bytes of an inode the version wrote
abbrev pub bytes_by : ℕ → Held → ℕ
bytes_by v h = count_by (λ w. w == v) (flat_map option_to_list h.writers)

-- how many bytes the node's data bring to its version
abbrev pub brought_by : ℕ → Node → ℕ
brought_by v n = if v == n.version then dsize n else 0

-- There are marks for all bytes of an inode, and for the data of the node that is to be written
-- over it.
abbrev pub HasMarks : Counts → Node → Held → Type 0
HasMarks counts n h = (v : ℕ) → bytes_by v h + brought_by v n ≤ mark_of counts v n.inode

-- In the node's inode the marks for its bytes before and for the node's data have become those for
-- its bytes after. Elsewhere they are the same.
pub record MovesMarks (old new : Counts) (n : Node) (before after : Held) : Type 0 where
  pub here : (v : ℕ) → mark_of new v n.inode + (bytes_by v before + brought_by v n)
      ≡ mark_of old v n.inode + bytes_by v after
  pub elsewhere : (v i : ℕ) → (i == n.inode) ≡ false → mark_of new v i ≡ mark_of old v i

-- There are marks for all bytes of an inode.
abbrev pub HasByteMarks : Counts → ℕ → Held → Type 0
HasByteMarks counts inode h = (v : ℕ) → bytes_by v h ≤ mark_of counts v inode

-- The marks for all bytes of an inode are gone. Elsewhere they are the same.
pub record LosesByteMarks (old new : Counts) (inode : ℕ) (h : Held) : Type 0 where
  pub here : (v : ℕ) → mark_of new v inode + bytes_by v h ≡ mark_of old v inode
  pub elsewhere : (v i : ℕ) → (i == inode) ≡ false → mark_of new v i ≡ mark_of old v i

-- how many bytes of an inode in a tree the version wrote
abbrev pub bytes_by_in : Tree → ℕ → ℕ → ℕ
bytes_by_in tree v i = option_map_or (λ h. bytes_by v h) (held_in tree i) 0

-- `HasMarks` and `MovesMarks` of the node's inode in a tree, present or not
abbrev pub HasMarksIn : Counts → Node → Tree → Type 0
HasMarksIn counts n tree =
    (v : ℕ) → bytes_by_in tree v n.inode + brought_by v n ≤ mark_of counts v n.inode

pub record MovesMarksIn (old new : Counts) (n : Node) (before after : Tree) : Type 0 where
  pub here : (v : ℕ) → mark_of new v n.inode + (bytes_by_in before v n.inode + brought_by v n)
      ≡ mark_of old v n.inode + bytes_by_in after v n.inode
  pub elsewhere : (v i : ℕ) → (i == n.inode) ≡ false → mark_of new v i ≡ mark_of old v i

-- how often the tree holds the version in an inode: once as its newest, once for each byte
abbrev pub held_marks : Tree → ℕ → ℕ → ℕ
held_marks tree v i =
    option_map_or (λ h. count_by (λ w. w == v) (versions_held (i, h))) (held_in tree i) 0

-- the marks are those of the tree
abbrev pub AreMarksOf : Tree → Counts → Type 0
AreMarksOf tree counts = (v i : ℕ) → mark_of counts v i ≡ held_marks tree v i

-- The inode's newest version, where it is present. No version has more marks there than a file has
-- bytes, and that one.
pub record HasNewest (tree : Tree) (inode : ℕ) (newest : Option ℕ) : Type 0 where
  pub held : option_map (λ v. Some v) newest ≡ option_map (λ h. h.newest) (held_in tree inode)
  pub few : (v : ℕ) → held_marks tree v inode ≤ file_max + 1
