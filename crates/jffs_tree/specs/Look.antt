-- What a look into a tree finds.
use Rattle.std.specs.Prelude.{◌≡◌, ℕ, Bool, false, ◌&&◌, ◌==◌, nat_le, count_by, flat_map, List, []}
use Rattle.std.specs.Prelude.{length, Option, Some, map, option_map, unwrap_or, if◌then◌else◌}
use Rattle.std.specs.List.{AllByRecursion, list_any, filter}
use Rattle.std.specs.Ordering.{nat_cmp, ordering_then}
use Rattle.std.specs.Cmp.Lexicographic.{slice_cmp}
use Rattle.std.specs.declared.cmp.Ordering.{Ordering}
use Rattle.std.specs.Option.{option_map_or}
use Rattle.jffs_node.specs.declared.node.Node.{Node}
use Rattle.jffs_node.specs.declared.node.Kind.{Kind}
use Rattle.jffs_node.specs.declared.node.Kind.TheVariants.{Directory}
use Rattle.jffs_tree.specs.State.{State, root, is_directory_in}
use Rattle.jffs_inodes.specs.Inodes.{Tree, held_in}
use Rattle.jffs_tree.specs.Origin.{state_in}
use Rattle.jffs_inodes.specs.Held.{versions_held}

-- the root is a directory in every tree
abbrev pub kind_in : Tree → ℕ → Option Kind
kind_in tree i =
    if i == root then Some Directory else option_map (λ h. h.entry.kind) (held_in tree i)

-- the bytes of a file; a directory has none
abbrev pub bytes_in : Tree → ℕ → List ℕ
bytes_in tree i = unwrap_or (option_map (λ h. h.entry.bytes) (held_in tree i)) []

abbrev pub size_of : Tree → ℕ → Option ℕ
size_of tree i =
    if i == root then Some 0 else option_map (λ h. length h.entry.bytes) (held_in tree i)

abbrev pub parent_name_in : Tree → ℕ → Option (ℕ × List ℕ)
parent_name_in tree i = option_map (λ h. (h.entry.parent, h.entry.name)) (held_in tree i)

abbrev pub holds_version : Tree → ℕ → ℕ → Bool
holds_version tree i v =
    option_map_or (λ h. list_any (λ w. w == v) (versions_held (i, h))) (held_in tree i) false

-- how often a version is live in a tree
abbrev pub marks_in : Tree → ℕ → ℕ
marks_in tree v = count_by (λ w. w == v) (flat_map versions_held tree)

-- whether some version from the first to the last is live in a tree
abbrev pub any_live_in : Tree → ℕ → ℕ → Bool
any_live_in tree first last =
    list_any (λ w. nat_le first w && nat_le w last) (flat_map versions_held tree)

-- each node of the version is of the inode, as it is where versions rise
abbrev pub IsVersionOf : List Node → ℕ → ℕ → Type 0
IsVersionOf past v i = AllByRecursion (λ n. n.version ≡ v → n.inode ≡ i) past

abbrev pub writers_in : Tree → ℕ → List (Option ℕ)
writers_in tree i = unwrap_or (option_map (λ h. h.writers) (held_in tree i)) []

-- the inodes with that parent, each under its name
abbrev pub children : ℕ → State → List (List ℕ × ℕ)
children i s = map (λ e. (e.1.name, e.0)) (filter (λ e. e.1.parent == i) s)

-- the names in a directory; a file has none
abbrev pub names_in : Tree → ℕ → List (List ℕ × ℕ)
names_in tree i = if is_directory_in (state_in tree) i then children i (state_in tree) else []

-- by the name's bytes, equal names by inode
abbrev pub name_cmp : (List ℕ × ℕ) → (List ℕ × ℕ) → Ordering
name_cmp a b = ordering_then (slice_cmp nat_cmp a.0 b.0) (nat_cmp a.1 b.1)
