-- Which node a byte comes from, and which nodes are live. `past` has the newest node first.
use Rattle.std.specs.Prelude.{◌≡◌, ℕ, ◌+◌, ◌-◌, Bool, true, false, not, ◌&&◌, ◌==◌, nat_le, nat_lt}
use Rattle.std.specs.Prelude.{List, [], ◌∷◌, length, map, flat_map, take, drop, count_by, Option}
use Rattle.std.specs.Prelude.{Some, None, option_map, if◌then◌else◌, IsTrue}
use Rattle.std.specs.List.{range_with_len, list_any, find}
use Rattle.std.specs.Option.{option_map_or}
use Rattle.jffs_node.specs.declared.node.Node.{Node}
use Rattle.jffs_node.specs.Record.{dsize, name_bytes, is_unmount, is_file}
use Rattle.jffs_inodes.specs.Held.{Entry, bytes_of, written, Held, versions_held}
use Rattle.jffs_tree.specs.State.{State, state_of_past}
use Rattle.jffs_inodes.specs.Inodes.{Tree}

-- whether the node speaks of the inode
abbrev pub concerns : ℕ → Node → Bool
concerns i n = not (is_unmount n.kind) && (n.inode == i)

-- what the nodes make of one inode: what `state_of_past` has there
abbrev pub entry : List Node → ℕ → Option Entry
entry [] i = None
entry (n ∷ past) i =
    if concerns i n then (if n.deleted then None else Some (written n (entry past i)))
    else entry past i

abbrev pub size_in : List Node → ℕ → ℕ
size_in past i = length (bytes_of (entry past i))

-- whether the node's data stand at the offset
abbrev pub writes : Node → ℕ → Bool
writes n p = nat_le n.offset p && nat_lt p (n.offset + dsize n)

-- where it stood before the node, if the node didn't write it
abbrev pub offset_before : Node → ℕ → ℕ
offset_before n p = if nat_lt p n.offset then p else ((p - dsize n) + n.rsize)

-- The node that wrote the byte at offset p of a file. Padding has none.
abbrev pub origin : List Node → ℕ → ℕ → Option Node
origin [] i p = None
origin (n ∷ past) i p =
    if not (concerns i n) then origin past i p else (
    if n.deleted then None else (
    if writes n p then Some n else (
    if nat_lt (offset_before n p) (size_in past i) then origin past i (offset_before n p)
    else None)))

-- Where in the data of its origin the byte at offset p stood.
abbrev pub origin_offset : List Node → ℕ → ℕ → ℕ
origin_offset [] i p = p
origin_offset (n ∷ past) i p =
    if not (concerns i n) then origin_offset past i p else (
    if writes n p then p - n.offset else origin_offset past i (offset_before n p))

-- the last node of an inode that is present
abbrev pub newest : List Node → ℕ → Option Node
newest [] i = None
newest (n ∷ past) i = if concerns i n then (if n.deleted then None else Some n) else newest past i

abbrev pub version_of : Option Node → Option ℕ
version_of o = option_map (λ n. n.version) o

-- byte by byte
abbrev pub writers_of : List Node → ℕ → List (Option ℕ)
writers_of past i = map (λ p. version_of (origin past i p)) (range_with_len 0 (size_in past i))

abbrev pub has_size : Option Node → Bool
has_size o = option_map_or (λ n. option_map_or (λ _. true) n.size false) o false

abbrev pub held : List Node → (ℕ × Entry) → ℕ × Held
held past e = (
  e.0,
  record {
    entry = e.1;
    writers = writers_of past e.0;
    newest = version_of (newest past e.0);
    states_size = has_size (newest past e.0);
  },
)

-- the tree of the nodes: a contract says `self.now ≡ tree_of past`
abbrev pub tree_of : List Node → Tree
tree_of past = map (held past) (state_of_past past)

abbrev pub state_in : Tree → State
state_in tree = map (λ h. (h.0, h.1.entry)) tree

abbrev pub live_versions : List Node → List ℕ
live_versions past = flat_map versions_held (tree_of past)

-- what the tree holds of the inode of a live version
abbrev pub holder : Tree → ℕ → Option (ℕ × Held)
holder tree v = find (λ h. list_any (λ w. w == v) (versions_held h)) tree

-- how often a version is live: once as the newest, once for each byte
abbrev pub marks : List Node → ℕ → ℕ
marks past v = count_by (λ w. w == v) (live_versions past)

abbrev pub is_live : List Node → ℕ → Bool
is_live past v = list_any (λ w. w == v) (live_versions past)

-- whether some version from the first to the last, both included, is live
abbrev pub any_live : List Node → ℕ → ℕ → Bool
any_live past first last = list_any (λ w. nat_le first w && nat_le w last) (live_versions past)

-- the size that a node of this kind states
abbrev pub stated_size : Entry → Option ℕ
stated_size e = if is_file e.kind then Some (length e.bytes) else None

-- a copy that says what is so
pub record IsTrueCopy (past : List Node) (c : Node) (e : Entry) : Type 0 where
  pub flag : IsTrue c.copy
  pub stands : IsTrue (not (is_unmount c.kind) && not c.deleted)
  pub present : entry past c.inode ≡ Some e
  pub kind : c.kind ≡ e.kind
  pub parent : c.parent ≡ e.parent
  pub name : name_bytes c ≡ e.name
  pub size : c.size ≡ stated_size e
  pub range : c.rsize ≡ dsize c
  pub reaches : IsTrue (nat_le (c.offset + dsize c) (length e.bytes))
  pub bytes : c.bytes ≡ take (dsize c) (drop c.offset e.bytes)
