-- What a run did, in words of files and directories.
use Rattle.std.specs.Prelude.{◌≡◌, ◌⊎◌, ℕ, true, false, List, [], ◌∷◌, ◌++◌, Contains}
use Rattle.jffs_tree.specs.State.{State}
use Rattle.jffs_tree.specs.Origin.{state_in}
use Rattle.jffs_tree.specs.Done.{done, IsFreeFor}
use Rattle.jffs_tree.specs.declared.wish.Cause.TheVariants.{Device as DeviceFailed}
use Rattle.jffs_tree.specs.declared.wish.Outcome.TheVariants.{Refused}
use Rattle.jffs_flash.specs.Device.{Device}
use Rattle.jffs_log.specs.Image.{past_of}
use Rattle.jffs_core.specs.CoreState.{CoreState}
use Rattle.jffs_core.specs.Past.{IsFresh}
use Rattle.jffs_core.specs.Done.{done_by, IsFreeBy, ScanFinds}
use Rattle.jffs_core.specs.Run.{is_failure}
use Rattle.jffs_serve.specs.Replies.{Reply}
use Rattle.jffs_run.specs.Account.{Account}
use Rattle.jffs_run.specs.Headline.{IsRun}
use Rattle.jffs_run.specs.Turns.{InRun}
use Rattle.jffs_run.specs.Opened.{IsOpenedAs}

-- The state after these requests, one after another: what was answered Appended is done, and
-- nothing else.
abbrev pub done_by_all : State → List Reply → State
done_by_all s [] = s
done_by_all s (r ∷ replies) = done_by_all (done_by s r.request.wish r.step.outcome) replies

-- the inode that each answer names for a new entry is free at its turn
abbrev pub AllFree : State → List Reply → Type 0
AllFree s [] = Unit {0}
AllFree s (r ∷ replies) =
    IsFreeBy r.step.outcome r.request.wish s
    × AllFree (done_by s r.request.wish r.step.outcome) replies

-- the state that a scan found before the run, with what was granted of these requests done
abbrev pub granted_done : {before : Device} {start : CoreState} → IsFresh before start → List Reply
    → State
granted_done fresh replies = done_by_all (state_in fresh.scanned.tree) replies

-- In a run whose device works to the end, a scan of the device that is left finds what a scan found
-- before the run, with the granted requests done in the order of their answers.
abbrev pub GrantedIsDone : Type 0
GrantedIsDone =
    (before : Device) (start : CoreState) (account : Account) (fresh : IsFresh before start)
    (run : IsRun start account) → run.core.failed ≡ false
    → ScanFinds (λ s. s ≡ granted_done fresh run.replies) account.device.sectors
    account.device.sector_size account.device.image

-- In any run no new entry takes the place of another.
abbrev pub RunsAreFree : Type 0
RunsAreFree =
    (before : Device) (start : CoreState) (account : Account) (fresh : IsFresh before start)
    (run : IsRun start account) → AllFree (state_in fresh.scanned.tree) run.replies

-- A scan of the image as it is with any one answer that tells of no failure finds what a scan found
-- before the run, with the granted requests up to there done.
abbrev pub EachIsDone : Type 0
EachIsDone =
    (before : Device) (start : CoreState) (account : Account) (fresh : IsFresh before start)
    (run : IsRun start account)
    → (first later : List Reply) (r : Reply) → run.replies ≡ first ++ r ∷ later
    → is_failure r.step.outcome ≡ false
    → (turn : InRun run (past_of fresh.scanned.log) first r later)
    × ScanFinds (λ s. s ≡ granted_done fresh (first ++ r ∷ [])) turn.within.now.index.sectors
    turn.within.now.index.sector_size turn.within.now.image

-- one of these requests, answered Device, is done besides
pub record IsDoneToo (replies : List Reply) (before s : State) : Type 0 where
  pub reply : Reply
  pub among : Contains replies reply
  pub device : reply.step.outcome ≡ Refused DeviceFailed
  pub inode : ℕ
  pub free : IsFreeFor reply.request.wish before inode
  pub is : s ≡ done inode before reply.request.wish

-- Over a device that failed a scan finds, once it is opened, the granted requests done, and at most
-- the one that was answered Device besides.
abbrev pub FailedIsDoneOrNot : Type 0
FailedIsDoneOrNot =
    (before : Device) (start : CoreState) (account : Account) (opened : Device)
    (fresh : IsFresh before start) (run : IsRun start account) → run.core.failed ≡ true
    → IsOpenedAs before account.device run.core opened
    → ScanFinds
    (λ s. (s ≡ granted_done fresh run.replies)
    ⊎ IsDoneToo run.replies (granted_done fresh run.replies) s)
    opened.sectors opened.sector_size opened.image
