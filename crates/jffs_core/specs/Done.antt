-- What an answer says was done, in words of files and directories.
use Rattle.std.specs.Prelude.{◌≡◌, ◌⊎◌, ℕ, false, List, Ok}
use Rattle.jffs_node.specs.declared.node.Node.{Node}
use Rattle.jffs_tree.specs.State.{State}
use Rattle.jffs_tree.specs.Origin.{state_in}
use Rattle.jffs_tree.specs.Done.{done, IsFreeFor}
use Rattle.jffs_tree.specs.declared.wish.Wish.{Wish}
use Rattle.jffs_tree.specs.declared.wish.Outcome.{Outcome}
use Rattle.jffs_tree.specs.declared.wish.Outcome.TheVariants.{Appended, Refused}
use Rattle.jffs_tree.specs.declared.wish.Cause.TheVariants.{Device}
use Rattle.jffs_line.specs.declared.request.Request.{Request}
use Rattle.jffs_log.specs.Volume.{split}
use Rattle.jffs_log.specs.Scan.{Scanned, scan}
use Rattle.jffs_core.specs.CoreState.{CoreState}
use Rattle.jffs_core.specs.History.{contents}
use Rattle.jffs_core.specs.Past.{Represents, IsOpened}
use Rattle.jffs_core.specs.Answering.{Answers}

-- The state after an answer: Appended says that what was asked for is done, and with any other
-- answer no file or directory is changed.
abbrev pub done_by : State → Wish → Outcome → State
done_by s wish (Appended inode version) = done inode s wish
done_by s wish _ = s

-- the inode that an answer names for a new entry is free
abbrev pub IsFreeBy : Outcome → Wish → State → Type 0
IsFreeBy (Appended inode version) wish s = IsFreeFor wish s inode
IsFreeBy _ wish s = Unit {0}

-- An answer leaves the contents as it says, whatever room was made for it.
abbrev pub AnswersAreDone : Type 0
AnswersAreDone =
    (mounted past : List Node) (old new : CoreState) (q : Request) (o : Outcome)
    (before : Represents mounted past old) (answer : Answers mounted past old new q o)
    → contents mounted answer.stands.grown.added
    ≡ done_by (contents mounted before.grown.added) q.wish o

-- A new entry never takes the place of another.
abbrev pub AnswersAreFree : Type 0
AnswersAreFree =
    (mounted past : List Node) (old new : CoreState) (q : Request) (o : Outcome)
    (before : Represents mounted past old) → Answers mounted past old new q o
    → IsFreeBy o q.wish (contents mounted before.grown.added)

-- The tree of a core that works is as its answer says.
abbrev pub TreesAreDone : Type 0
TreesAreDone =
    (mounted past : List Node) (old new : CoreState) (q : Request) (o : Outcome)
    → Represents mounted past old → Answers mounted past old new q o
    → old.failed ≡ false → new.failed ≡ false
    → state_in new.tree ≡ done_by (state_in old.tree) q.wish o

-- a scan of an image finds such a state
pub record ScanFinds (Is : State → Type 0) (count len : ℕ) (image : List ℕ) : Type 0 where
  pub scanned : Scanned
  pub found : scan len (split count len image) ≡ Ok scanned
  pub state_is : Is (state_in scanned.tree)

-- the state before a wish, or that with the wish done
abbrev pub IsDoneOrNot : State → Wish → State → Type 0
IsDoneOrNot before wish s = (s ≡ before)
    ⊎ ((inode : ℕ) × IsFreeFor wish before inode × (s ≡ done inode before wish))

-- After the answer Device a scan finds the contents, or them with what was asked for done.
abbrev pub DeviceIsDoneOrNot : Type 0
DeviceIsDoneOrNot =
    (mounted past : List Node) (old new : CoreState) (q : Request) (image : List ℕ)
    (before : Represents mounted past old)
    → Answers mounted past old new q (Refused Device) → IsOpened new image
    → ScanFinds (IsDoneOrNot (contents mounted before.grown.added) q.wish) new.index.sectors
    new.index.sector_size image
