-- What an owner is told of a wish, in words of files and directories.
use Rattle.std.specs.Prelude.{◌≡◌, ◌⊎◌, ℕ, Bool, true, false, not, ◌||◌, List, Result, Ok, Err}
use Rattle.jffs_tree.specs.Decide.{decide_on, is_copy_wish, is_unmount_wish}
use Rattle.jffs_tree.specs.declared.wish.NewNode.{NewNode}
use Rattle.jffs_tree.specs.State.{State}
use Rattle.jffs_tree.specs.Done.{done, IsFreeFor}
use Rattle.jffs_tree.specs.declared.wish.Wish.{Wish}
use Rattle.jffs_tree.specs.declared.wish.Cause.{Cause}
use Rattle.jffs_tree.specs.declared.wish.Cause.TheVariants.{Memory}
use Rattle.jffs_tree.specs.declared.wish.Outcome.{Outcome}
use Rattle.jffs_tree.specs.declared.wish.Outcome.TheVariants.{Appended, Copied, Closed, Refused}
use Rattle.jffs_core.specs.CoreState.{CoreState, IsSameButCapacity}
use Rattle.jffs_core.specs.Past.{IsOpened}
use Rattle.jffs_core.specs.Run.{is_failure}
use Rattle.jffs_core.specs.Done.{done_by, IsFreeBy, ScanFinds}
use Rattle.jffs_core.specs.Asking.{HasAsked}
use Rattle.jffs_core.specs.Trees.{KeepsTree}
use Rattle.jffs_session.specs.Session.{files}

-- a scan of what a failed core has left finds such files
abbrev pub Finds : (State → Type 0) → CoreState → Type 0
Finds Is c =
    (image : List ℕ) → IsOpened c image
    → ScanFinds Is c.index.sectors c.index.sector_size image

-- The core answered a request with this wish; or memory lacked for that, and nothing was asked.
abbrev pub Asks : Wish → Outcome → CoreState → CoreState → Type 0
Asks wish o old new =
    HasAsked wish o old new ⊎ ((o ≡ Refused Memory) × IsSameButCapacity old new)

-- what was asked for is decided, and nothing stands against it
abbrev pub IsAllowed : Wish → CoreState → Type 0
IsAllowed wish c = (n : NewNode) × (decide_on c.tree c.limits wish ≡ Ok n)

-- what is answered Appended was allowed, and only a copy and an unmount are granted otherwise
abbrev pub GrantsAllowed : Outcome → Wish → CoreState → Type 0
GrantsAllowed (Appended inode version) wish c = IsAllowed wish c
GrantsAllowed (Copied version) wish c = is_copy_wish wish ≡ true
GrantsAllowed Closed wish c = is_unmount_wish wish ≡ true
GrantsAllowed (Refused cause) wish c = Unit {0}

-- neither a copy nor an unmount
abbrev pub is_change : Wish → Bool
is_change wish = not (is_copy_wish wish || is_unmount_wish wish)

-- what was asked for is done, a new entry with a number that was free; and a change was allowed
pub record IsDone (wish : Wish) (old : CoreState) (after : State) : Type 0 where
  pub allowed : is_change wish ≡ true → IsAllowed wish old
  pub inode : ℕ
  pub free : IsFreeFor wish (files old) inode
  pub is : after ≡ done inode (files old) wish

-- nothing is changed, or that is done
abbrev pub IsDoneOrNot : Wish → CoreState → State → Type 0
IsDoneOrNot wish old s = (s ≡ files old) ⊎ IsDone wish old s

-- What an answer says of the files, of a core that worked. It fails only by the answer Device; then
-- a scan finds what was asked for done, or nothing changed.
pub record IsTold (wish : Wish) (o : Outcome) (old new : CoreState) : Type 0 where
  pub fails : new.failed ≡ is_failure o
  pub allowed : GrantsAllowed o wish old
  pub free : IsFreeBy o wish (files old)
  pub done : new.failed ≡ false → files new ≡ done_by (files old) wish o
  pub finds : new.failed ≡ true → Finds (IsDoneOrNot wish old) new

abbrev pub is_refused : Outcome → Bool
is_refused (Refused cause) = true
is_refused _ = false

-- a core that had failed refuses, and has failed still
pub record StaysFailed (o : Outcome) (new : CoreState) : Type 0 where
  pub refused : is_refused o ≡ true
  pub fails : new.failed ≡ true

-- whether a cause says that the device failed
abbrev pub is_stop : Cause → Bool
is_stop cause = is_failure (Refused cause)

-- What a call that was to do this comes to, of a core that worked. Where it was refused, no file is
-- changed, unless the device failed; then a scan finds that it was done, or nothing changed.
abbrev pub Moves : (State → Type 0) → Result Unit Cause → CoreState → CoreState → Type 0
Moves Does (Ok given) old new = (new.failed ≡ false) × Does (files new)
Moves Does (Err cause) old new =
    (new.failed ≡ is_stop cause) × (new.failed ≡ false → files new ≡ files old)
    × (new.failed ≡ true → Finds (λ s. (s ≡ files old) ⊎ Does s) new)

-- so is a change
abbrev pub Changes : Wish → Result Unit Cause → CoreState → CoreState → Type 0
Changes wish r old new = Moves (IsDone wish old) r old new

-- A wish was answered so, and then no file was changed.
pub record IsCarriedOut (wish : Wish) (o : Outcome) (old new : CoreState) : Type 0 where
  pub between : CoreState
  pub answered : Asks wish o old between
  pub tree : KeepsTree between new

-- A change was asked for once: it was granted where that is said; and where not, it was refused for
-- that cause, or the device failed.
abbrev pub CarriesOut : Wish → Result Unit Cause → CoreState → CoreState → Type 0
CarriesOut wish (Ok given) old new =
    (o : Outcome) × (is_refused o ≡ false) × IsCarriedOut wish o old new
CarriesOut wish (Err cause) old new =
    IsCarriedOut wish (Refused cause) old new
    ⊎ ((new.failed ≡ true) × ((o : Outcome) × IsCarriedOut wish o old new))

-- No file is changed; and where the device failed, a scan finds the same files.
pub record LeavesFiles (old new : CoreState) : Type 0 where
  pub same : new.failed ≡ false → files new ≡ files old
  pub finds : new.failed ≡ true → Finds (λ s. s ≡ files old) new
