-- A file as its fragments: ranges of offsets, each written by one node. What no node wrote (a hole,
-- padding) is in none.
use Rattle.std.specs.Prelude.{◌≡◌, ◌≢◌, ◌<◌, ◌≤◌, ◌⊎◌, ℕ, ◌+◌, ◌-◌, not, ◌&&◌, ◌==◌, nat_le, nat_lt}
use Rattle.std.specs.Prelude.{List, [], ◌∷◌, ◌++◌, length, map, replicate, take, drop, sum_by}
use Rattle.std.specs.Prelude.{Option, Some, None, if◌then◌else◌}
use Rattle.std.specs.List.{AllByRecursion, filter}
use Rattle.std.specs.Map.{lookup, set_value, values_of}
use Rattle.std.specs.BTreeMap.{is_at}
use Rattle.std.specs.Ordering.{nat_cmp}
use Rattle.std.specs.declared.cmp.Ordering.{Ordering}
use Rattle.std.specs.declared.cmp.Reverse.{Reverse}
use Rattle.jffs_node.specs.declared.node.Node.{Node}
use Rattle.jffs_node.specs.Record.{dsize, file_max}
use Rattle.jffs_marks.specs.Marks.{Counts, mark_of}
use Rattle.jffs_inodes.specs.Held.{spliced_with, sized_with, IsSmall}
use Rattle.jffs_inodes.specs.declared.fragment.Fragment.{Fragment}

-- fragments, each under its first offset
abbrev pub Fragments : Type 0
Fragments = List (ℕ × Fragment)

-- what is seen of a map of fragments
pub record FragmentMap : Type 0 where
  pub entries : Fragments

-- the fragment that begins at an offset, by the order of the offsets
abbrev pub get : (ℕ → ℕ → Ordering) → FragmentMap → ℕ → Option Fragment
get cmp m first = lookup (is_at (cmp first)) m.entries

-- the order of a map whose last fragment stands first
abbrev pub late_cmp : Reverse ℕ → Reverse ℕ → Ordering
late_cmp a b = nat_cmp b.0 a.0

-- the entries of such a map, from the file's first fragment on
abbrev pub ascending : List (Reverse ℕ × Fragment) → Fragments
ascending [] = []
ascending (e ∷ es) = ascending es ++ (e.0.0, e.1) ∷ []

-- the byte at an offset and the version that wrote it; none where no node did
abbrev pub Cell : Type 0
Cell = Option (ℕ × ℕ)

abbrev pub byte_of : Cell → ℕ
byte_of None = 0
byte_of (Some c) = c.0

abbrev pub writer_of : Cell → Option ℕ
writer_of None = None
writer_of (Some c) = Some c.1

abbrev pub cells_of : Fragment → List Cell
cells_of f = map (λ b. Some (b, f.writer)) f.bytes

abbrev pub end_of : (ℕ × Fragment) → ℕ
end_of e = e.0 + length e.1.bytes

-- the cells from an offset on, up to the size
abbrev pub laid : ℕ → ℕ → Fragments → List Cell
laid at size [] = replicate (size - at) None
laid at size (e ∷ es) = replicate (e.0 - at) None ++ (cells_of e.1 ++ laid (end_of e) size es)

-- None is empty, none reaches into the next, and none past the size.
abbrev pub AreLaid : ℕ → ℕ → Fragments → Type 0
AreLaid at size [] = at ≤ size
AreLaid at size (e ∷ es) = (at ≤ e.0) × (0 < length e.1.bytes) × AreLaid (end_of e) size es

-- no fragment reaches across the offset
abbrev pub AreCut : ℕ → Fragments → Type 0
AreCut p es = AllByRecursion (λ e. (end_of e ≤ p) ⊎ (p ≤ e.0)) es

-- no fragment holds the offset
abbrev pub NoneHolds : ℕ → Fragments → Type 0
NoneHolds p es = AllByRecursion (λ e. (end_of e ≤ p) ⊎ (p < e.0)) es

-- From an offset on a file of these fragments has these bytes, where it is long enough.
abbrev pub Says : Fragments → ℕ → List ℕ → Type 0
Says es at bytes =
    (size : ℕ) → AreLaid 0 size es → at + length bytes ≤ size
    → take (length bytes) (drop at (map byte_of (laid 0 size es))) ≡ bytes

-- those that begin before an offset, from one on, and outside a range
abbrev pub before : ℕ → Fragments → Fragments
before p es = filter (λ e. nat_lt e.0 p) es

abbrev pub from : ℕ → Fragments → Fragments
from p es = filter (λ e. nat_le p e.0) es

abbrev pub outside : ℕ → ℕ → Fragments → Fragments
outside p q es = filter (λ e. not (nat_le p e.0 && nat_lt e.0 q)) es

-- how many of a fragment's bytes a version wrote
abbrev pub part_by : ℕ → Fragment → ℕ
part_by v f = if f.writer == v then length f.bytes else 0

abbrev pub amount_by : ℕ → Fragments → ℕ
amount_by v es = sum_by (part_by v) (values_of es)

-- no fragment is longer than a file
abbrev pub AreShort : Fragments → Type 0
AreShort es = AllByRecursion (λ e. length e.1.bytes ≤ file_max) es

-- the fragment of a node's data, if it has any
abbrev pub fragment_of : Node → Fragments
fragment_of n =
    if dsize n == 0 then [] else (n.offset, record { bytes = n.bytes; writer = n.version }) ∷ []

-- with a node's data instead of what stands from its offset to an end
abbrev pub with_node_data : ℕ → Node → Fragments → Fragments
with_node_data end n es = before n.offset es ++ (fragment_of n ++ from end es)

-- There are marks for all of an inode's fragments.
abbrev pub HasAmounts : Counts → ℕ → Fragments → Type 0
HasAmounts counts i es = (v : ℕ) → amount_by v es ≤ mark_of counts v i

-- In an inode the marks for some fragments have become those for others.
abbrev pub MovesAmounts : Counts → Counts → ℕ → Fragments → Fragments → Type 0
MovesAmounts old new inode was now =
    (v i : ℕ) → mark_of new v i + (if i == inode then amount_by v was else 0)
    ≡ mark_of old v i + (if i == inode then amount_by v now else 0)

-- The same cells, and cut wherever they were.
pub record SameCells (old new : Fragments) : Type 0 where
  pub stay : (size : ℕ) → AreLaid 0 size old → AreLaid 0 size new
  pub cells : (size : ℕ) → AreLaid 0 size old → laid 0 size new ≡ laid 0 size old
  pub amounts : (v : ℕ) → amount_by v new ≡ amount_by v old
  pub cuts : (q : ℕ) → AreCut q old → AreCut q new

-- A node can be written over a file of the size: nothing gets too long, and no byte after its range
-- moves.
pub record FitsFile (n : Node) (size : ℕ) : Type 0 where
  pub small : size ≤ file_max
  pub node : IsSmall n
  pub offsets : dsize n ≢ n.rsize → size ≤ n.offset + n.rsize

-- A node's fragment stands in the place of the one that had the range of its data.
pub record Swaps (n : Node) (was now : FragmentMap) (gone : Fragment) : Type 0 where
  pub there : get nat_cmp was n.offset ≡ Some gone
  pub long : length gone.bytes ≡ dsize n
  pub entries : now.entries
      ≡ set_value (is_at (nat_cmp n.offset)) was.entries
      (record { bytes = n.bytes; writer = n.version })

-- The cells are those before, spliced and sized as the node says.
pub record IsFileAfter (n : Node) (size : ℕ) (was : Fragments) (after : ℕ) (now : Fragments) :
    Type 0 where
  pub ordered : AreLaid 0 after now
  pub small : after ≤ file_max
  pub cells : laid 0 after now
      ≡ sized_with None n.size
      (spliced_with None n.offset n.rsize (map (λ b. Some (b, n.version)) n.bytes)
      (laid 0 size was))
