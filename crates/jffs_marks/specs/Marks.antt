-- How often each version is live in each inode: a list of counts, kept besides the inodes.
use Rattle.std.specs.Prelude.{◌≡◌, ◌<◌, ◌≤◌, ◌+◌, ℕ, ◌==◌, ◌&&◌, List, length, slice_get, true}
use Rattle.std.specs.Prelude.{false, Some, sum_by, unwrap_or, if◌then◌else◌}
use Rattle.std.specs.List.{filter, AllWithin}
use Rattle.std.specs.List.Sorted.{IsStrictlySortedBy, IsPartitionPoint}
use Rattle.std.specs.Ordering.{nat_cmp, ordering_then, is_lt}
use Rattle.std.specs.declared.cmp.Ordering.{Ordering}
use Rattle.std.specs.declared.cmp.Ordering.TheVariants.{Less, Greater}
use Rattle.std.specs.declared.cmp.Reverse.{Reverse}
use Rattle.std.specs.Map.{lookup, keys_of}
use Rattle.std.specs.BTreeMap.{is_at}

-- a version and an inode
abbrev pub MarkKey : Type 0
MarkKey = Reverse ℕ × ℕ

abbrev pub mark_key : ℕ → ℕ → MarkKey
mark_key v i = (record { 0 = v }, i)

-- how many marks each version has in each inode
abbrev pub Counts : Type 0
Counts = List (MarkKey × ℕ)

-- by version, the newest first, then by inode
abbrev pub mark_cmp : MarkKey → MarkKey → Ordering
mark_cmp a b = ordering_then (nat_cmp b.0.0 a.0.0) (nat_cmp a.1 b.1)

-- the marks of a version in an inode
abbrev pub mark_of : Counts → ℕ → ℕ → ℕ
mark_of counts v i = unwrap_or (lookup (is_at (mark_cmp (mark_key v i))) counts) 0

-- all marks of a version
abbrev pub marks_of : Counts → ℕ → ℕ
marks_of counts v = sum_by (λ e. e.1) (filter (λ e. e.0.0.0 == v) counts)

-- They stand in order. What is kept may be zero.
pub record AreKept (counts : Counts) : Type 0 where
  pub ordered : IsStrictlySortedBy mark_cmp (keys_of counts)

-- The entry at the index is that of the key.
abbrev pub IsKeyAt : Counts → MarkKey → ℕ → Type 0
IsKeyAt counts key i = slice_get (keys_of counts) i ≡ Some key

-- The key has no entry, and belongs at the index: it is after those before it alone.
pub record BelongsAt (counts : Counts) (key : MarkKey) (i : ℕ) : Type 0 where
  pub within : i ≤ length counts
  pub between : IsPartitionPoint (λ e. mark_cmp e.0 key ≡ Less)
      (λ e. mark_cmp e.0 key ≡ Greater) counts i

-- The entries before the first index stand before the key, and none from the second on does.
pub record IsPlaceWithin (counts : Counts) (key : MarkKey) (from to : ℕ) : Type 0 where
  pub ends : (from ≤ to) × (to ≤ length counts)
  pub low : AllWithin (λ e. is_lt (mark_cmp e.0 key) ≡ true) counts 0 from
  pub high : AllWithin (λ e. is_lt (mark_cmp e.0 key) ≡ false) counts to (length counts)

-- The entries before the index, and no others, are of versions from `first` on.
pub record SplitsAt (counts : Counts) (first i : ℕ) : Type 0 where
  pub within : i ≤ length counts
  pub parts : IsPartitionPoint (λ e. first ≤ e.0.0.0) (λ e. e.0.0.0 < first) counts i

-- the same marks everywhere
abbrev pub SameMarks : Counts → Counts → Type 0
SameMarks old new = (v i : ℕ) → mark_of new v i ≡ mark_of old v i

-- the higher have `count` more of one version in one inode, and the same elsewhere
abbrev pub HaveMore : Counts → Counts → ℕ → ℕ → ℕ → Type 0
HaveMore lower higher version inode count =
    (v i : ℕ) → mark_of lower v i + (if (v == version) && (i == inode) then count else 0)
    ≡ mark_of higher v i
