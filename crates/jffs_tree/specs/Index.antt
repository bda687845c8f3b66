-- The index of children: for each inode where it stands, in the order of directory, name and inode.
use Rattle.std.specs.Prelude.{◌≡◌, ℕ, Bool, true, false, not, ◌&&◌, ◌==◌, List, [], ◌∷◌, flat_map}
use Rattle.std.specs.Prelude.{Option, Some, None, IsSome, option_map, bytes_eq, if◌then◌else◌}
use Rattle.std.specs.List.{list_any, AllByRecursion}
use Rattle.std.specs.Option.{option_map_or, option_to_list, option_cmp}
use Rattle.std.specs.Ordering.{ordering_then, nat_cmp}
use Rattle.std.specs.Cmp.Lexicographic.{slice_cmp}
use Rattle.std.specs.BTreeMap.{is_at}
use Rattle.std.specs.declared.cmp.Ordering.{Ordering}
use Rattle.jffs_inodes.specs.Inodes.{Tree, held_in}

-- A directory, a name in it and the inode that stands there. A key without a name is before all
-- names of its directory.
abbrev pub ChildKey : Type 0
ChildKey = ℕ × Option (List ℕ) × ℕ

abbrev pub key_cmp : ChildKey → ChildKey → Ordering
key_cmp a b = ordering_then
    (ordering_then (nat_cmp a.0 b.0) (option_cmp (slice_cmp nat_cmp) a.1 b.1)) (nat_cmp a.2 b.2)

-- whether the index has the key
abbrev pub has_child : List ChildKey → ChildKey → Bool
has_child keys q = list_any (is_at (key_cmp q)) keys

abbrev pub is_named : List ℕ → Option (List ℕ) → Bool
is_named name None = false
is_named name (Some other) = bytes_eq name other

-- whether a key is of the same name and directory as another
abbrev pub namesakes : ChildKey → ChildKey → Bool
namesakes o k = (k.0 == o.0) && option_map_or (λ name. is_named name k.1) o.1 false

-- No key is of the same name and directory as the one before it.
abbrev pub apart_from : Option ChildKey → List ChildKey → Bool
apart_from before [] = true
apart_from before (k ∷ keys) =
    not (option_map_or (λ o. namesakes o k) before false) && apart_from (Some k) keys

-- whether the tree's inode stands at the key
abbrev pub stands_at : Tree → ChildKey → Bool
stands_at tree q = option_map_or (λ h. (h.entry.parent == q.0) && is_named h.entry.name q.1)
    (held_in tree q.2) false

-- The index has just the keys where the inodes of the tree stand.
abbrev pub IsIndexOf : Tree → List ChildKey → Type 0
IsIndexOf tree keys = (q : ChildKey) → has_child keys q ≡ stands_at tree q

-- each key has a name
abbrev pub HaveNames : List ChildKey → Type 0
HaveNames keys = AllByRecursion (λ q. IsSome q.1) keys

-- what a key says of a directory: a name with its inode, or nothing
abbrev pub name_under : ℕ → ChildKey → List (List ℕ × ℕ)
name_under p q = if q.0 == p then option_to_list (option_map (λ name. (name, q.2)) q.1) else []

-- the names that an index has in a directory
abbrev pub names_under : ℕ → List ChildKey → List (List ℕ × ℕ)
names_under p keys = flat_map (name_under p) keys
