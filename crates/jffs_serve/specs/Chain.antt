-- The states of a core from turn to turn.
use Rattle.std.specs.Prelude.{◌≡◌, ◌≤◌, true, false, List, [], ◌∷◌}
use Rattle.jffs_node.specs.declared.node.Node.{Node}
use Rattle.jffs_log.specs.LogIndex.{HasSizes}
use Rattle.jffs_core.specs.CoreState.{CoreState, IsSameButCapacity}
use Rattle.jffs_core.specs.Past.{RepresentsWorking, Represents}
use Rattle.jffs_core.specs.Calls.{FailsIn, KeepsTwo}
use Rattle.jffs_core.specs.Erases.{ErasesAtMost}
use Rattle.jffs_core.specs.Answering.{AnswersWith, KeepsAnswer, is_closed}
use Rattle.jffs_serve.specs.Replies.{Reply}

-- the session stays closed, with the same log in the same image
abbrev pub KeepsClosed : CoreState → CoreState → Type 0
KeepsClosed old new =
    (new.closed ≡ true) × (new.index ≡ old.index) × (new.image ≡ old.image)

-- What may pass between two answers: dead sectors are erased, the oldest sector is read for a job.
-- The core represents the history that it represented, on a device of the same sizes, and what it
-- erased held the log. Where the session was closed, nothing is erased. Where the core had failed,
-- nothing is changed; where it works on, no call of the device failed, and two erased sectors stay
-- so; where it fails now, one did, and no node was in hand. Nothing is programmed.
pub record KeepsHistory (old new : CoreState) : Type 0 where
  pub sizes : HasSizes old.index.sectors old.index.sector_size new.index
  pub erases : ErasesAtMost 0 old new
  pub closed : old.closed ≡ true → KeepsClosed old new
  pub failed : old.failed ≡ true → IsSameButCapacity old new
  pub faults : new.failed ≡ false → (past : List Node) → RepresentsWorking past old
      → new.faults ≡ old.faults
  pub two : new.failed ≡ false → (past : List Node) → RepresentsWorking past old → KeepsTwo old new
  pub fails : old.failed ≡ false → new.failed ≡ true → (past : List Node)
      → RepresentsWorking past old → FailsIn (λ n. ⊥) past past old new
  pub programs : (mounted past : List Node) → Represents mounted past old
      → new.wear.bytes ≤ old.wear.bytes
  pub stands : (mounted past : List Node) → Represents mounted past old
      → Represents mounted past new

-- One turn: the request was taken where the core was so and this history stood, and with the answer
-- it is so. The session wasn't closed and is now where the answer is Closed, a core that had failed
-- changes in nothing but its answers, and no more is erased than there are sectors.
pub record IsReplied (mounted past : List Node) (was : CoreState) (r : Reply) (now : CoreState) :
    Type 0 where
  pub answer : AnswersWith mounted past was now r.request r.step.outcome r.step.node
  pub opened : was.closed ≡ false
  pub closed : now.closed ≡ is_closed r.step.outcome
  pub kept : was.failed ≡ true → KeepsAnswer r.request.writer r.request.seq r.step.outcome was now
  pub sizes : HasSizes was.index.sectors was.index.sector_size now.index
  pub erases : ErasesAtMost was.index.sectors was now

-- the history with what the turn appended
abbrev pub after_reply : {mounted past : List Node} {was now : CoreState} {r : Reply}
    → IsReplied mounted past was r now → List Node
after_reply replied = replied.answer.answers.after

-- the next turn of a core, and what passed before it
pub record Link (mounted past : List Node) (from : CoreState) (r : Reply) : Type 0 where
  pub was : CoreState
  pub now : CoreState
  pub between : KeepsHistory from was
  pub replied : IsReplied mounted past was r now

-- From turn to turn: each begins as the one before it left core and history, but for what passed
-- between, and so does what comes after the last.
abbrev pub Chain : List Node → List Node → CoreState → List Reply → CoreState → List Node → Type 0
Chain mounted past from [] to after = KeepsHistory from to × (after ≡ past)
Chain mounted past from (r ∷ replies) to after = (link : Link mounted past from r)
    × Chain mounted (after_reply link.replied) link.now replies to after

-- the turns of a session, from a core with this history on
pub record RunsTo (start core : CoreState) (mounted past : List Node) (replies : List Reply) :
    Type 0 where
  pub after : List Node
  pub chain : Chain mounted past start replies core after
