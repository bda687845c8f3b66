-- What is kept of an inode, and what one more node makes of it.
use Rattle.std.specs.Prelude.{ℕ, ◌+◌, ◌-◌, Bool, ◌&&◌, List, [], ◌++◌, length, take, drop}
use Rattle.std.specs.Prelude.{replicate, Option, Some, None, option_map, bytes_eq, ◌≡◌, nat_le}
use Rattle.std.specs.Prelude.{flat_map, ◌≢◌, ◌≤◌, ◌||◌, IfSome, unwrap_or, is_some}
use Rattle.std.specs.Option.{option_to_list}
use Rattle.jffs_node.specs.declared.node.Node.{Node}
use Rattle.jffs_node.specs.declared.node.Kind.{Kind}
use Rattle.jffs_node.specs.Record.{name_bytes, dsize, file_max}
use Rattle.std.specs.List.{list_all}

-- what a state has of an inode
pub record Entry : Type 0 where
  pub kind : Kind
  pub parent : ℕ
  pub name : List ℕ
  pub bytes : List ℕ

abbrev pub bytes_of : Option Entry → List ℕ
bytes_of None = []
bytes_of (Some e) = e.bytes

-- Padding, splicing and sizing of any list, d standing where nothing stood. Of bytes they are
-- `padded`, `splice` and `sized`, with 0.
abbrev pub padded_with : {A : Type 0} → A → ℕ → List A → List A
padded_with d k c = c ++ replicate (k - length c) d

abbrev pub spliced_with : {A : Type 0} → A → ℕ → ℕ → List A → List A → List A
spliced_with d o r b c = take o (padded_with d o c) ++ b ++ drop (o + r) (padded_with d o c)

abbrev pub sized_with : {A : Type 0} → A → Option ℕ → List A → List A
sized_with d None c = c
sized_with d (Some k) c = take k (padded_with d k c)

-- zeros are added up to a length
abbrev pub padded : ℕ → List ℕ → List ℕ
padded k c = c ++ replicate (k - length c) 0

-- what a node's range becomes in the bytes c
abbrev pub splice : List ℕ → Node → List ℕ
splice c n =
    take n.offset (padded n.offset c) ++ n.bytes ++ drop (n.offset + n.rsize) (padded n.offset c)

-- the second form says how long the file is then
abbrev pub sized : Option ℕ → List ℕ → List ℕ
sized None c = c
sized (Some k) c = take k (padded k c)

-- what a node that isn't deleted makes of its inode
abbrev pub written : Node → Option Entry → Entry
written n old = record {
  kind = n.kind;
  parent = n.parent;
  name = name_bytes n;
  bytes = sized n.size (splice (bytes_of old) n);
}

-- What a tree holds of an inode: its entry; of each byte the version that wrote it last; of its
-- newest node the version and the form.
pub record Held : Type 0 where
  pub entry : Entry
  pub writers : List (Option ℕ)
  pub newest : Option ℕ
  pub states_size : Bool

-- The live versions of a present inode: its newest node, and whoever wrote one of its bytes last.
abbrev pub versions_held : ℕ × Held → List ℕ
versions_held h = option_to_list h.1.newest ++ flat_map option_to_list h.1.writers

-- the last writers, after the node: it is that of its own data, and padding has none
abbrev pub writers_after : Node → List (Option ℕ) → List (Option ℕ)
writers_after n ws =
    sized_with None n.size
    (spliced_with None n.offset n.rsize (replicate (dsize n) (Some n.version)) ws)

abbrev pub held_after : Node → Option Held → Held
held_after n old = record {
  entry = written n (option_map (λ h. h.entry) old);
  writers = writers_after n (unwrap_or (option_map (λ h. h.writers) old) []);
  newest = Some n.version;
  states_size = is_some n.size;
}

-- It makes no file too long, and the size that it states reaches its data.
pub record IsSmall (n : Node) : Type 0 where
  pub range : n.offset + dsize n ≤ file_max
  pub size : unwrap_or n.size 0 ≤ file_max
  pub inside : IfSome n.size (λ s. n.offset + dsize n ≤ s)

-- Under its name the node can be written over what is kept of its inode.
pub record IsWritableOver (old : Held) (n : Node) (name : List ℕ) : Type 0 where
  pub named : n.name ≡ Some name
  pub small : IsSmall n
  pub offsets : dsize n ≢ n.rsize → length old.entry.bytes ≤ n.offset + n.rsize

-- each byte has a last writer, unless the newest node states the size
abbrev pub bytes_are_written : Held → Bool
bytes_are_written h = h.states_size || list_all is_some h.writers

-- the current bytes from the offset on begin with these
abbrev pub is_current : Entry → ℕ → List ℕ → Bool
is_current e offset bytes =
    nat_le offset (length e.bytes) && bytes_eq (take (length bytes) (drop offset e.bytes)) bytes
