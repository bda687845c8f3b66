-- What is decided on a wish: why it is refused, or which node it makes. Of a state, and of who
-- holds which live version.
use Rattle.std.specs.Prelude.{ℕ, ◌+◌, ◌-◌, min, max, Bool, true, false, not, ◌&&◌, ◌||◌, ◌==◌}
use Rattle.std.specs.Prelude.{nat_lt, List, [], ◌∷◌, length, take, drop, get_or, Option, Some, None}
use Rattle.std.specs.Prelude.{is_none, is_some, unwrap_or, Result, Ok, Err, bytes_eq, if◌then◌else◌}
use Rattle.std.specs.Option.{option_map_or}
use Rattle.std.specs.List.{list_any}
use Rattle.jffs_node.specs.declared.node.Node.{Node}
use Rattle.jffs_node.specs.declared.node.Kind.{Kind}
use Rattle.jffs_node.specs.declared.node.Kind.TheVariants.{File, Directory, Unmount as UnmountNode}
use Rattle.jffs_node.specs.Record.{dsize, file_max, is_directory}
use Rattle.jffs_tree.specs.declared.wish.Wish.{Wish}
use Rattle.jffs_tree.specs.declared.wish.Wish.TheVariants.{MakeDir, Create, Write, Truncate, Rename}
use Rattle.jffs_tree.specs.declared.wish.Wish.TheVariants.{Remove, Copy, Unmount}
use Rattle.jffs_tree.specs.declared.wish.Cause.{Cause}
use Rattle.jffs_tree.specs.declared.wish.Cause.TheVariants.{RootFixed, NoParent, NameTaken}
use Rattle.jffs_tree.specs.declared.wish.Cause.TheVariants.{NotFound, IsDirectory, DataLong}
use Rattle.jffs_tree.specs.declared.wish.Cause.TheVariants.{FileLong, NotEmpty, NotNeeded, Stale}
use Rattle.jffs_tree.specs.declared.wish.Cause.TheVariants.{InodesSpent, VersionsSpent}
use Rattle.jffs_tree.specs.declared.wish.Limits.{Limits}
use Rattle.jffs_tree.specs.declared.wish.NewNode.{NewNode}
use Rattle.jffs_tree.specs.declared.cleaning.CopySource.{CopySource}
use Rattle.jffs_inodes.specs.Held.{Entry, Held, is_current}
use Rattle.jffs_tree.specs.State.{State, at, resolve, is_directory_in, state_of_past}
use Rattle.jffs_inodes.specs.Inodes.{Tree}
use Rattle.jffs_tree.specs.Origin.{tree_of, state_in, holder, stated_size}

abbrev pub is_copy_wish : Wish → Bool
is_copy_wish (Copy source parent name offset bytes) = true
is_copy_wish _ = false

abbrev pub is_unmount_wish : Wish → Bool
is_unmount_wish Unmount = true
is_unmount_wish _ = false

-- the first cause whose test holds, else the node
abbrev pub unless : List (Bool × Cause) → NewNode → Result NewNode Cause
unless [] n = Ok n
unless (c ∷ causes) n = if c.0 then Err c.1 else unless causes n

abbrev pub is_root : List (List ℕ) → Bool
is_root path = length path == 0

abbrev pub last_name : List (List ℕ) → List ℕ
last_name path = get_or path (length path - 1) []

-- the inode of the path without its last name
abbrev pub parent_in : State → List (List ℕ) → Option ℕ
parent_in s path = resolve s (take (length path - 1) path)

abbrev pub has_parent : State → List (List ℕ) → Bool
has_parent s path = option_map_or (is_directory_in s) (parent_in s path) false

abbrev pub is_there : State → List (List ℕ) → Bool
is_there s path = is_some (resolve s path)

abbrev pub inode_at : State → List (List ℕ) → ℕ
inode_at s path = unwrap_or (resolve s path) 0

-- whether it is a directory that has names
abbrev pub has_names : State → ℕ → Bool
has_names s i = is_directory_in s i && list_any (λ e. e.1.parent == i) s

abbrev pub nobody : Entry
nobody = record { kind = File; parent = 0; name = []; bytes = [] }

abbrev pub entry_of : State → ℕ → Entry
entry_of s i = unwrap_or (at s i) nobody

-- a node that only says what an inode is
abbrev pub plain : ℕ → Entry → NewNode
plain i e = record {
  kind = e.kind;
  deleted = false;
  copy = false;
  inode = i;
  parent = e.parent;
  offset = 0;
  rsize = 0;
  size = stated_size e;
  name = Some e.name;
  bytes = [];
}

abbrev pub write_node : ℕ → Entry → ℕ → List ℕ → NewNode
write_node i e offset bytes =
    let old = length e.bytes in
    if length bytes == 0 then record (plain i e) { offset = min offset old }
    else record (plain i e) {
      offset = offset;
      rsize = min (length bytes) (old - offset);
      size = Some (max old (offset + length bytes));
      bytes = bytes;
    }

abbrev pub truncate_node : ℕ → Entry → ℕ → NewNode
truncate_node i e size =
    let old = length e.bytes in
    record (plain i e) { offset = min size old; rsize = old - min size old; size = Some size }

abbrev pub copy_node : ℕ → Entry → ℕ → List ℕ → NewNode
copy_node i e offset bytes =
    record (plain i e) { copy = true; offset = offset; rsize = length bytes; bytes = bytes }

abbrev pub unmount_node : NewNode
unmount_node = record {
  kind = UnmountNode;
  deleted = false;
  copy = false;
  inode = 0;
  parent = 0;
  offset = 0;
  rsize = 0;
  size = None;
  name = None;
  bytes = [];
}

abbrev pub held_entry : Option (ℕ × Held) → Entry
held_entry None = nobody
held_entry (Some h) = h.1.entry

abbrev pub held_inode : Option (ℕ × Held) → ℕ
held_inode None = 0
held_inode (Some h) = h.0

-- what may stand against a new file or directory
abbrev pub causes_of_new : State → Limits → List (List ℕ) → List (Bool × Cause)
causes_of_new s limits path =
    (is_root path, RootFixed)
    ∷ (not (has_parent s path), NoParent)
    ∷ (is_there s path, NameTaken)
    ∷ (is_none limits.next_inode, InodesSpent)
    ∷ (is_none limits.next_version, VersionsSpent)
    ∷ []

-- the node of a new file or directory
abbrev pub new_node : State → Limits → Kind → List (List ℕ) → NewNode
new_node s limits kind path = plain (unwrap_or limits.next_inode 0) (record {
  kind = kind;
  parent = unwrap_or (parent_in s path) 0;
  name = last_name path;
  bytes = [];
})

abbrev pub decide_new : State → Limits → Kind → List (List ℕ) → Result NewNode Cause
decide_new s limits kind path = unless (causes_of_new s limits path) (new_node s limits kind path)

-- what may stand against a copy of what holds its source
abbrev pub causes_of_copy : Option (ℕ × Held) → Limits → ℕ → List ℕ → ℕ → List ℕ
    → List (Bool × Cause)
causes_of_copy source limits parent name offset bytes =
    let e = held_entry source in
    (nat_lt limits.data_max (length bytes), DataLong)
    ∷ (is_none source, NotNeeded)
    ∷ (not ((e.parent == parent) && bytes_eq e.name name && is_current e offset bytes), Stale)
    ∷ (is_none limits.next_version, VersionsSpent)
    ∷ []

abbrev pub decide_copy : Option (ℕ × Held) → Limits → ℕ → List ℕ → ℕ → List ℕ → Result NewNode Cause
decide_copy source limits parent name offset bytes =
    unless (causes_of_copy source limits parent name offset bytes)
    (copy_node (held_inode source) (held_entry source) offset bytes)

-- what may stand against a wish, each with its cause, in the order in which they are tried
abbrev pub causes_for : State → (ℕ → Option (ℕ × Held)) → Limits → Wish → List (Bool × Cause)
causes_for s holds limits (MakeDir path) = causes_of_new s limits path
causes_for s holds limits (Create path) = causes_of_new s limits path
causes_for s holds limits (Write path offset bytes) =
    (not (is_there s path), NotFound)
    ∷ (is_directory_in s (inode_at s path), IsDirectory)
    ∷ (nat_lt limits.data_max (length bytes), DataLong)
    ∷ (nat_lt file_max (offset + length bytes), FileLong)
    ∷ (is_none limits.next_version, VersionsSpent)
    ∷ []
causes_for s holds limits (Truncate path size) =
    (not (is_there s path), NotFound)
    ∷ (is_directory_in s (inode_at s path), IsDirectory)
    ∷ (nat_lt file_max size, FileLong)
    ∷ (is_none limits.next_version, VersionsSpent)
    ∷ []
causes_for s holds limits (Rename source target) =
    let e = entry_of s (inode_at s source) in
    (is_root source || is_root target, RootFixed)
    ∷ (not (has_parent s target), NoParent)
    ∷ (is_there s target, NameTaken)
    ∷ (not (is_there s source), NotFound)
    ∷ (is_directory e.kind && not (e.parent == unwrap_or (parent_in s target) 0), IsDirectory)
    ∷ (is_none limits.next_version, VersionsSpent)
    ∷ []
causes_for s holds limits (Remove path) =
    (is_root path, RootFixed)
    ∷ (not (is_there s path), NotFound)
    ∷ (has_names s (inode_at s path), NotEmpty)
    ∷ (is_none limits.next_version, VersionsSpent)
    ∷ []
causes_for s holds limits (Copy source parent name offset bytes) =
    causes_of_copy (holds source) limits parent name offset bytes
causes_for s holds limits Unmount = (is_none limits.next_version, VersionsSpent) ∷ []

-- the node of a wish against which nothing stands
abbrev pub node_for : State → (ℕ → Option (ℕ × Held)) → Limits → Wish → NewNode
node_for s holds limits (MakeDir path) = new_node s limits Directory path
node_for s holds limits (Create path) = new_node s limits File path
node_for s holds limits (Write path offset bytes) =
    write_node (inode_at s path) (entry_of s (inode_at s path)) offset bytes
node_for s holds limits (Truncate path size) =
    truncate_node (inode_at s path) (entry_of s (inode_at s path)) size
node_for s holds limits (Rename source target) =
    plain (inode_at s source) (record (entry_of s (inode_at s source)) {
      parent = unwrap_or (parent_in s target) 0;
      name = last_name target;
    })
node_for s holds limits (Remove path) =
    record (plain (inode_at s path) (entry_of s (inode_at s path))) { deleted = true; size = None }
node_for s holds limits (Copy source parent name offset bytes) =
    copy_node (held_inode (holds source)) (held_entry (holds source)) offset bytes
node_for s holds limits Unmount = unmount_node

-- the first cause that stands against a wish, else its node
abbrev pub decide_in : State → (ℕ → Option (ℕ × Held)) → Limits → Wish → Result NewNode Cause
decide_in s holds limits wish =
    unless (causes_for s holds limits wish) (node_for s holds limits wish)

-- whether an accepted wish's node carries bytes, and so needs memory
abbrev pub carries_bytes : Wish → Bool
carries_bytes (Write path offset bytes) = not (length bytes == 0)
carries_bytes (Copy source parent name offset bytes) = not (length bytes == 0)
carries_bytes (MakeDir path) = false
carries_bytes (Create path) = false
carries_bytes (Truncate path size) = false
carries_bytes (Rename source target) = false
carries_bytes (Remove path) = false
carries_bytes Unmount = false

-- of a tree, as a contract has it
abbrev pub decide_on : Tree → Limits → Wish → Result NewNode Cause
decide_on tree limits wish = decide_in (state_in tree) (λ v. holder tree v) limits wish

-- of a list of nodes, the newest first
abbrev pub decide : List Node → Limits → Wish → Result NewNode Cause
decide past limits wish = decide_in (state_of_past past) (λ v. holder (tree_of past) v) limits wish

abbrev pub with : NewNode → ℕ → ℕ → ℕ → Node
with n version writer seq = record {
  kind = n.kind;
  deleted = n.deleted;
  copy = n.copy;
  inode = n.inode;
  parent = n.parent;
  version = version;
  offset = n.offset;
  rsize = n.rsize;
  writer = writer;
  seq = seq;
  size = n.size;
  name = n.name;
  bytes = n.bytes;
}

-- what cleaning knows of a node's record
abbrev pub source_of : Node → CopySource
source_of n =
    record { inode = n.inode; version = n.version; offset = n.offset; len = dsize n }

-- The copy that cleaning makes of a live record: it says anew what the file has now where the
-- source wrote, up to the file's end.
abbrev pub copy_of_source : State → CopySource → NewNode
copy_of_source s source =
    let e = entry_of s source.inode in
    let offset = min source.offset (length e.bytes) in
    copy_node source.inode e offset (take source.len (drop offset e.bytes))

-- the copy of a node's record
abbrev pub cleaning_copy : State → Node → NewNode
cleaning_copy s n = copy_of_source s (source_of n)
