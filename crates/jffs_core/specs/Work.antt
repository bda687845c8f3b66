-- How much is copied and programmed for an answer.
use Rattle.std.specs.Prelude.{◌≡◌, ◌+◌, ◌*◌, ◌≤◌, false, List, ◌++◌, length}
use Rattle.jffs_node.specs.declared.node.Node.{Node}
use Rattle.jffs_tree.specs.declared.wish.Cause.{Cause}
use Rattle.jffs_tree.specs.declared.wish.Outcome.{Outcome}
use Rattle.jffs_tree.specs.declared.wish.Outcome.TheVariants.{Refused}
use Rattle.jffs_line.specs.declared.request.Request.{Request}
use Rattle.jffs_log.specs.Cleaning.{used}
use Rattle.jffs_log.specs.Work.{live_and_free}
use Rattle.jffs_core.specs.CoreState.{CoreState}
use Rattle.jffs_core.specs.Calls.{written}
use Rattle.jffs_core.specs.Answering.{Answers}
use Rattle.jffs_core.specs.Step.{Turn, IsStep, MakesRoom, session_of}
use Rattle.jffs_node.specs.declared.layout.TheConstants.{HEADER_LEN}

-- These copies take no more bytes than the live records of the log did when the request was taken,
-- with what was free in the tail; each takes 64 bytes at least.
pub record AreLittle (t : Turn) (copies : List Node) : Type 0 where
  pub bytes : used copies ≤ live_and_free (session_of t)
  pub count : HEADER_LEN * length copies ≤ used copies

-- So little is copied before any answer.
abbrev pub AnswersCopyLittle : Type 0
AnswersCopyLittle =
    (t : Turn) (q : Request) (o : Outcome) (after : List Node) (step : IsStep t q o after)
    → AreLittle t step.copies

-- By the device's own count no more is programmed for an answer, while the core works, than the
-- records of its copies and of its own node take, each with its gate once more.
abbrev pub AnswersProgramLittle : Type 0
AnswersProgramLittle =
    (mounted past : List Node) (old new : CoreState) (q : Request) (o : Outcome)
    (answer : Answers mounted past old new q o)
    → new.failed ≡ false
    → new.wear.bytes ≤ old.wear.bytes + written (answer.step.own ++ answer.step.copies)

-- A request that is refused adds no node, unless it was to make room for a fresh one.
abbrev pub RefusedAddNothing : Type 0
RefusedAddNothing =
    (t : Turn) (q : Request) (cause : Cause) (after : List Node)
    → IsStep t q (Refused cause) after → (MakesRoom t q → ⊥) → after ≡ t.past
