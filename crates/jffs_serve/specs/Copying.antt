-- Which copies a cleaner asks for.
use Rattle.std.specs.Prelude.{◌≡◌, ◌⊎◌, ℕ, ◌/◌, ◌^◌, ◌-◌, nat_lt, List, [], ◌∷◌, ◌++◌, length}
use Rattle.std.specs.Prelude.{Option, Some, None}
use Rattle.std.specs.Prelude.{if◌then◌else◌}
use Rattle.std.specs.List.{filter_map}
use Rattle.jffs_node.specs.declared.node.Node.{Node}
use Rattle.jffs_node.specs.Reading.{reading_of}
use Rattle.jffs_tree.specs.declared.wish.Wish.{Wish}
use Rattle.jffs_tree.specs.declared.wish.Wish.TheVariants.{Copy}
use Rattle.jffs_inodes.specs.Inodes.{Tree}
use Rattle.jffs_tree.specs.Origin.{state_in}
use Rattle.jffs_tree.specs.Look.{holds_version}
use Rattle.jffs_tree.specs.Decide.{cleaning_copy}
use Rattle.jffs_tree.specs.declared.wish.NewNode.{NewNode}
use Rattle.jffs_serve.specs.declared.copies.Copying.{Copying}
use Rattle.jffs_node.specs.declared.layout.TheConstants.{HEADER_LEN}
use Rattle.jffs_log.specs.declared.sector.TheConstants.{RECORDS_PER_SECTOR}

-- the copy of a node with this version, which says what the new node does
abbrev pub copying_as : ℕ → NewNode → Option Copying
copying_as source n = elim n.name as (λ _. Option Copying) [
  | None ↦ None
  | Some name ↦ Some (record {
    source = source;
    parent = n.parent;
    name = name;
    offset = n.offset;
    bytes = n.bytes;
  })
]

-- the copy of a node that lives in the tree: what cleaning would copy there now
abbrev pub copy_in : Tree → Node → Option Copying
copy_in tree n =
    if holds_version tree n.inode n.version
    then copying_as n.version (cleaning_copy (state_in tree) n) else None

-- the most bytes of a record in an image of this length: a quarter of it, and no more than a number
-- of 32 bits may say
abbrev pub record_max : ℕ → ℕ
record_max len =
    if nat_lt (len / RECORDS_PER_SECTOR) (2 ^ 32) then len / RECORDS_PER_SECTOR else 2 ^ 32 - 1

-- the nodes of an image's records, as a sector is read
abbrev pub nodes_in : List ℕ → List Node
nodes_in image = (reading_of (length image / HEADER_LEN) (record_max (length image)) image).nodes

-- the copies of those nodes that live in the tree, in their order
abbrev pub copies_of : Tree → List Node → List Copying
copies_of tree nodes = filter_map (copy_in tree) nodes

-- the wish for a copy
abbrev pub wish_of : Copying → Wish
wish_of c = Copy c.source c.parent c.name c.offset c.bytes

-- nothing was added, or the copy of a node that lives in the tree
abbrev pub KeepsCopy : Tree → Node → List Copying → List Copying → Type 0
KeepsCopy tree n before now = (now ≡ before)
    ⊎ ((copy : Copying) × (copy_in tree n ≡ Some copy) × (now ≡ before ++ copy ∷ []))
