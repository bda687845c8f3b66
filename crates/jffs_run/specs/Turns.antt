-- What is so at each turn of a run.
use Rattle.std.specs.Prelude.{◌≡◌, true, false, List, ◌∷◌, ◌++◌, map}
use Rattle.jffs_node.specs.declared.node.Node.{Node}
use Rattle.jffs_tree.specs.declared.wish.Cause.TheVariants.{NoSpace, Failed}
use Rattle.jffs_tree.specs.declared.wish.NewNode.{NewNode}
use Rattle.jffs_tree.specs.declared.wish.Outcome.TheVariants.{Refused}
use Rattle.jffs_log.specs.Image.{past_of}
use Rattle.jffs_core.specs.CoreState.{CoreState}
use Rattle.jffs_core.specs.Past.{IsFresh, FindsContents}
use Rattle.jffs_core.specs.Step.{HadNoRoom}
use Rattle.jffs_core.specs.Run.{is_failure}
use Rattle.jffs_core.specs.Answering.{turn_of}
use Rattle.jffs_flash.specs.Device.{Device}
use Rattle.jffs_serve.specs.Replies.{Reply, answer_in}
use Rattle.jffs_serve.specs.Chain.{after_reply}
use Rattle.jffs_serve.specs.ChainLaws.{Within, any_failure}
use Rattle.jffs_run.specs.Account.{Account}
use Rattle.jffs_run.specs.Headline.{IsRun}

-- one turn of a run, from the log that was mounted, with the run's own turns before it and after it
pub record InRun {start : CoreState} {account : Account} (run : IsRun start account)
    (mounted : List Node) (before : List Reply) (r : Reply) (later : List Reply) : Type 0 where
  pub after : List Node
  pub within : Within mounted mounted start before r later run.core after

-- What is answered NoSpace had no room at that very turn.
abbrev pub NoSpaceMeansNoRoom : Type 0
NoSpaceMeansNoRoom =
    (before : Device) (start : CoreState) (account : Account) (fresh : IsFresh before start)
    (run : IsRun start account)
    → (first later : List Reply) (r : Reply) → run.replies ≡ first ++ r ∷ later
    → r.step.outcome ≡ Refused NoSpace
    → (turn : InRun run (past_of fresh.scanned.log) first r later) × (n : NewNode)
    × HadNoRoom (turn_of turn.within.taken turn.within.was turn.within.now) r.request n

-- After an answer that tells of a failure each is Failed.
abbrev pub FailedStaysFailed : Type 0
FailedStaysFailed = (before : Device) (start : CoreState) (account : Account)
    (fresh : IsFresh before start) (run : IsRun start account)
    → (first later : List Reply) (r : Reply) → run.replies ≡ first ++ r ∷ later
    → any_failure (map answer_in first) ≡ true → r.step.outcome ≡ Refused Failed

-- A scan of the image as it is with an answer that tells of no failure finds what the fresh nodes
-- up to there make.
abbrev pub AnswersAreDurable : Type 0
AnswersAreDurable =
    (before : Device) (start : CoreState) (account : Account) (fresh : IsFresh before start)
    (run : IsRun start account)
    → (first later : List Reply) (r : Reply) → run.replies ≡ first ++ r ∷ later
    → is_failure r.step.outcome ≡ false
    → (turn : InRun run (past_of fresh.scanned.log) first r later)
    × FindsContents (past_of fresh.scanned.log) (after_reply turn.within.replied) turn.within.now
