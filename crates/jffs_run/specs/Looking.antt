-- What becomes of a reader.
use Rattle.std.specs.Prelude.{◌≡◌, ◌≢◌, ℕ, List, length, Some, None}
use Rattle.jffs_node.specs.declared.node.Kind.TheVariants.{File}
use Rattle.jffs_tree.specs.State.{resolve}
use Rattle.jffs_tree.specs.Origin.{state_in}
use Rattle.jffs_tree.specs.Look.{kind_in, bytes_in}
use Rattle.jffs_index.specs.declared.rule.History.{History}
use Rattle.jffs_index.specs.Histories.{view_of, BeginsWith}
use Rattle.jffs_index.specs.Shown.{Shown}
use Rattle.jffs_index.specs.Outcomes.{outcome_at}
use Rattle.jffs_text.specs.declared.script.ReaderStatement.{ReaderStatement}
use Rattle.jffs_run.specs.Ends.{EachFrom, HasAt}
use Rattle.jffs_run.specs.declared.reader.ReaderEnd.{ReaderEnd}
use Rattle.jffs_run.specs.declared.reader.ReaderEnd.TheVariants.{NotSeen, NoFile, Bytes}

-- a view shows the answer that a reader waits for
abbrev pub ShowsAnswer : Shown → ReaderStatement → Type 0
ShowsAnswer shown statement = outcome_at shown.outcomes statement.writer statement.seq ≢ None

-- the inode is a file
abbrev pub IsFileIn : Shown → ℕ → Type 0
IsFileIn shown inode = kind_in shown.tree inode ≡ Some File

-- what a path reads in a view: nothing is said of an end that is NotSeen
abbrev pub FitsPath : Shown → List (List ℕ) → ReaderEnd → Type 0
FitsPath shown path NotSeen = Unit {0}
FitsPath shown path NoFile =
    (inode : ℕ) → resolve (state_in shown.tree) path ≡ Some inode → IsFileIn shown inode → ⊥
FitsPath shown path (Bytes bytes) =
    (inode : ℕ) × (resolve (state_in shown.tree) path ≡ Some inode) × IsFileIn shown inode
    × (bytes.items ≡ bytes_in shown.tree inode)

-- an end other than NotSeen is what the path reads in a view that shows the answer
abbrev pub FitsView : Shown → ReaderStatement → ReaderEnd → Type 0
FitsView shown statement NotSeen = Unit {0}
FitsView shown statement end = ShowsAnswer shown statement × FitsPath shown statement.path end

-- the reader of this statement read that in a view of a beginning of the history
abbrev pub SeenIn : History → ReaderStatement → ReaderEnd → Type 0
SeenIn history statement end =
    (first : History) × BeginsWith history first × FitsView (view_of first) statement end

-- so did the reader of the statement at this slot
abbrev pub HasSeen : History → List ReaderStatement → ℕ → ReaderEnd → Type 0
HasSeen history statements slot end =
    (statement : ReaderStatement) × HasAt statements slot statement × SeenIn history statement end

-- there is an end for each statement, and so did the reader of each
pub record HaveSeen (history : History) (statements : List ReaderStatement)
    (ends : List ReaderEnd) : Type 0 where
  pub every : length ends ≡ length statements
  pub each : EachFrom (HasSeen history statements) 0 ends

-- where as many answers were published as were given, this is the published history
abbrev pub IsWhole : History → ℕ → History → Type 0
IsWhole published answered history = (view_of published).answered ≡ answered → history ≡ published
