-- What one more node makes of a tree.
use Rattle.std.specs.Prelude.{Bool, true, not, ◌&&◌, ◌||◌, ◌==◌, is_some, if◌then◌else◌}
use Rattle.jffs_node.specs.declared.node.Node.{Node}
use Rattle.std.specs.Option.{option_map_or}
use Rattle.jffs_node.specs.Record.{dsize, kind_byte, is_lawful, is_unmount, numbers_hold}
use Rattle.jffs_inodes.specs.Inodes.{Tree, held_in, without_inode, put_node, keeps_offsets_in}

-- the tree after the node
abbrev pub tree_after : Tree → Node → Tree
tree_after tree n =
    if is_unmount n.kind then tree
    else (if n.deleted then without_inode tree n.inode else put_node tree n)

-- whether it takes memory: one that takes an inode away, or an unmount node, takes none
abbrev pub takes_memory : Node → Bool
takes_memory n = not (is_unmount n.kind) && not n.deleted

-- its inode has its kind, where it is present
abbrev pub keeps_kind_in : Tree → Node → Bool
keeps_kind_in tree n = n.deleted
    || option_map_or (λ h. kind_byte h.entry.kind == kind_byte n.kind) (held_in tree n.inode) true

-- What a node must keep to be taken in: only an unmount node is without a name; the numbers suit
-- each other; and no byte after its range moves.
abbrev pub suits_tree : Tree → Node → Bool
suits_tree tree n =
    (is_unmount n.kind || is_some n.name) && numbers_hold n (dsize n) && keeps_offsets_in tree n

-- whether it is a lawful node of its inode's kind that moves no byte after its range
abbrev pub can_apply : Tree → Node → Bool
can_apply tree n = is_lawful n && keeps_kind_in tree n && keeps_offsets_in tree n
