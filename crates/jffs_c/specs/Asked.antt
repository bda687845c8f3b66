-- What a change comes to that may be.
use Rattle.std.specs.Prelude.{◌≡◌, ◌⊎◌, List, ℕ, Ok}
use Rattle.jffs_node.specs.Path.{path_of}
use Rattle.jffs_tree.specs.declared.wish.Wish.{Wish}
use Rattle.jffs_tree.specs.declared.wish.Cause.{Cause}
use Rattle.jffs_tree.specs.declared.wish.Cause.TheVariants as cause
use Rattle.jffs_tree.specs.declared.wish.Outcome.{Outcome}
use Rattle.jffs_tree.specs.declared.wish.Outcome.TheVariants as outcome
use Rattle.jffs_core.specs.CoreState.{IsSameButCapacity}
use Rattle.jffs_core.specs.Asking.{HasAsked}
use Rattle.jffs_c.specs.declared.code.Code.{Code}
use Rattle.jffs_c.specs.declared.code.Code.TheVariants as code
use Rattle.jffs_c.specs.declared.volume.Volume.{Volume}
use Rattle.jffs_c.specs.Seen.{IsFaultOf}

-- the code of a cause
abbrev pub code_of_cause : Cause → Code
code_of_cause cause.RootFixed = code.RootFixed
code_of_cause cause.NoParent = code.NoParent
code_of_cause cause.NameTaken = code.NameTaken
code_of_cause cause.NotFound = code.NotFound
code_of_cause cause.IsDirectory = code.IsDirectory
code_of_cause cause.DataLong = code.DataLong
code_of_cause cause.FileLong = code.FileLong
code_of_cause cause.NotEmpty = code.NotEmpty
code_of_cause cause.NotNeeded = code.NotNeeded
code_of_cause cause.Stale = code.Stale
code_of_cause cause.InodesSpent = code.InodesSpent
code_of_cause cause.VersionsSpent = code.VersionsSpent
code_of_cause cause.Memory = code.Memory
code_of_cause cause.NoSpace = code.NoSpace
code_of_cause cause.Device = code.Device
code_of_cause cause.Failed = code.Failed

-- the code of an outcome
abbrev pub code_of : Outcome → Code
code_of (outcome.Appended inode version) = code.Done
code_of (outcome.Copied version) = code.Done
code_of outcome.Closed = code.Done
code_of (outcome.Refused why) = code_of_cause why

-- nothing was asked, for this reason, and nothing is changed
abbrev pub IsUnasked : Type 0 → Volume → Volume → Type 0
IsUnasked why old new = why × IsSameButCapacity old.core new.core

-- the core was asked, and the answer is the code of what it answered
pub record IsAsked (wish : Wish) (old new : Volume) (answer : Code) : Type 0 where
  pub outcome : Outcome
  pub told : answer ≡ code_of outcome
  pub answered : HasAsked wish outcome old.core new.core

-- the core was asked this, or memory for its answer was refused
abbrev pub Asks : Wish → Volume → Volume → Code → Type 0
Asks wish old new answer =
    IsUnasked (answer ≡ code.Memory) old new ⊎ IsAsked wish old new answer

-- the core was asked a wish of the path that these bytes spell; or they spell none, or memory was
-- refused
abbrev pub AsksAt : List ℕ → (List (List ℕ) → Wish) → Volume → Volume → Code → Type 0
AsksAt bytes wish old new answer =
    IsUnasked (IsFaultOf bytes answer) old new
    ⊎ ((path : List (List ℕ)) × (path_of bytes ≡ Ok path) × IsAsked (wish path) old new answer)

-- the core was asked a wish of the two paths that these bytes spell; or one of them spells none, or
-- memory was refused
abbrev pub AsksBetween : List ℕ → List ℕ → (List (List ℕ) → List (List ℕ) → Wish) → Volume → Volume
    → Code → Type 0
AsksBetween from to wish old new answer =
    IsUnasked (IsFaultOf from answer ⊎ IsFaultOf to answer) old new
    ⊎ ((source target : List (List ℕ)) × (path_of from ≡ Ok source) × (path_of to ≡ Ok target)
    × IsAsked (wish source target) old new answer)
