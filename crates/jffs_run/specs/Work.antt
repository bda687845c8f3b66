-- How much is copied, programmed and erased for an answer of a run.
use Rattle.std.specs.Prelude.{◌≡◌, ◌+◌, ◌≤◌, false, List, ◌∷◌, ◌++◌}
use Rattle.jffs_node.specs.declared.node.Node.{Node}
use Rattle.jffs_log.specs.Image.{past_of}
use Rattle.jffs_core.specs.CoreState.{CoreState}
use Rattle.jffs_core.specs.Past.{IsFresh}
use Rattle.jffs_core.specs.Answering.{turn_of}
use Rattle.jffs_core.specs.Calls.{written}
use Rattle.jffs_core.specs.Work.{AreLittle}
use Rattle.jffs_flash.specs.Device.{Device}
use Rattle.jffs_serve.specs.Replies.{Reply}
use Rattle.jffs_run.specs.Account.{Account}
use Rattle.jffs_run.specs.Headline.{IsRun}
use Rattle.jffs_run.specs.Turns.{InRun}

-- One answer: these nodes were copied and these added, no more was programmed for them, by the
-- device's own count, than their records take and their gates once more, and no more sectors erased
-- than held the log.
pub record IsLittleWork (taken copies own : List Node) (was now : CoreState) : Type 0 where
  pub copied : AreLittle (turn_of taken was now) copies
  pub programmed : now.failed ≡ false → now.wear.bytes ≤ was.wear.bytes + written (own ++ copies)
  pub erased : now.index.erases ≤ was.index.erases + was.index.held

-- So it is with each answer of a run.
abbrev pub RunsWorkLittle : Type 0
RunsWorkLittle =
    (before : Device) (start : CoreState) (account : Account) (fresh : IsFresh before start)
    (run : IsRun start account)
    → (first later : List Reply) (r : Reply) → run.replies ≡ first ++ r ∷ later
    → (turn : InRun run (past_of fresh.scanned.log) first r later)
    × IsLittleWork turn.within.taken turn.within.replied.answer.answers.step.copies
    turn.within.replied.answer.answers.step.own turn.within.was turn.within.now
