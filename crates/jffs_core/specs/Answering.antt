-- One request, one answer.
use Rattle.std.specs.Prelude.{◌≡◌, ℕ, ◌<◌, ◌^◌, Bool, true, false, ◌&&◌, ◌||◌, nat_lt, List, []}
use Rattle.std.specs.Prelude.{◌∷◌, ◌++◌, Option, Some, None, Result, Ok, Err, IsTrue}
use Rattle.jffs_node.specs.declared.node.Node.{Node}
use Rattle.jffs_tree.specs.declared.wish.Cause.{Cause}
use Rattle.jffs_tree.specs.declared.wish.Cause.TheVariants.{VersionsSpent, Memory, NoSpace, Device}
use Rattle.jffs_tree.specs.declared.wish.NewNode.{NewNode}
use Rattle.jffs_tree.specs.declared.wish.Outcome.{Outcome}
use Rattle.jffs_tree.specs.declared.wish.Outcome.TheVariants.{Closed, Refused}
use Rattle.jffs_tree.specs.declared.wish.Wish.{Wish}
use Rattle.jffs_tree.specs.Decide.{decide_on, with, is_copy_wish, is_unmount_wish}
use Rattle.jffs_tree.specs.Deciding.{IsWish}
use Rattle.jffs_line.specs.declared.request.Request.{Request}
use Rattle.jffs_log.specs.LogIndex.{layout_in}
use Rattle.jffs_core.specs.declared.answer.Answered.{Answered}
use Rattle.jffs_core.specs.CoreState.{CoreState, IsSameButAnswers}
use Rattle.jffs_core.specs.Run.{is_failure}
use Rattle.jffs_core.specs.Past.{RepresentsWorking, HasFailed, RepresentsPast, Represents}
use Rattle.jffs_core.specs.Past.{OrOneMore}
use Rattle.jffs_core.specs.Step.{Turn, IsStep, IsInHand, MakesRoom}
use Rattle.jffs_core.specs.Nodes.{listed}
use Rattle.jffs_core.specs.Calls.{KeepsTwo, ProgramsOnce}

-- the node that was decided on for the request, with the next version, by a core that represents
-- some history
pub record IsNodeOf (c : CoreState) (q : Request) (node : Node) : Type 0 where
  pub past : List Node
  pub known : RepresentsWorking past c
  pub new : NewNode
  pub decided : decide_on c.tree c.limits q.wish ≡ Ok new
  pub is : node ≡ with new node.version q.writer q.seq
  pub next : c.limits.next_version ≡ Some node.version
  pub wish : IsWish q.wish
  pub takes_node : (is_unmount_wish q.wish && c.clean) ≡ false
  pub writer : q.writer < 2 ^ 16
  pub seq : q.seq < 2 ^ 32

-- the wish is neither for a copy nor to unmount
pub record WantsFresh (wish : Wish) : Type 0 where
  pub no_copy : is_copy_wish wish ≡ false
  pub no_unmount : is_unmount_wish wish ≡ false

-- an answer after which two sectors are erased where two were before
abbrev pub keeps_two : Outcome → Bool
keeps_two Closed = false
keeps_two (Refused VersionsSpent) = false
keeps_two (Refused Memory) = false
keeps_two (Refused Device) = false
keeps_two _ = true

-- what stands when a request is taken, and whether the device failed while it was answered
abbrev pub turn_of : List Node → CoreState → CoreState → Turn
turn_of past old new = record {
  volume = record { sectors = old.index.sectors; sector_size = old.index.sector_size };
  past = past;
  log = (layout_in old.image old.index).sectors;
  free = (layout_in old.image old.index).free;
  erased = (layout_in old.image old.index).erased;
  clean = old.clean;
  failed = old.failed;
  device_faulted = nat_lt old.faults new.faults;
}

-- Whether nothing is done for a request that is answered so. It is refused for a cause of the tree,
-- or since the core had failed; for want of versions, memory or room, unless room was to be made
-- for its node; or it is an Unmount of a clean log.
abbrev pub DoesNothing : Outcome → Turn → Request → Type 0
DoesNothing Closed t q = IsTrue t.clean
DoesNothing (Refused VersionsSpent) t q = MakesRoom t q → ⊥
DoesNothing (Refused Memory) t q = MakesRoom t q → ⊥
DoesNothing (Refused NoSpace) t q = MakesRoom t q → ⊥
DoesNothing (Refused Device) t q = ⊥
DoesNothing (Refused _) t q = Unit {0}
DoesNothing _ t q = ⊥

-- the node in hand, which may have been programmed too, where the device failed
abbrev pub MayStand : Turn → Request → Outcome → List Node → Node → Type 0
MayStand t q o after n = (o ≡ Refused Device) × IsInHand t q after n

-- The device programmed no more for an answer than what is written for the nodes that were added,
-- and for the node in hand where it failed.
abbrev pub ProgramsFor : Turn → Request → Outcome → List Node → List Node → CoreState → CoreState
    → Type 0
ProgramsFor t q o past after old new =
    OrOneMore (MayStand t q o after) after (λ found. ProgramsOnce past found old new)

-- The answer is a lawful step from this history to another, which the core has then, and this node
-- is what it appended for the request itself. The core has failed exactly where the answer is
-- Device or Failed, and while it works the device failed no call. After Device only the node in
-- hand may stand besides that history. Where nothing is done, nothing but the answers is changed.
pub record HasAnswered (past : List Node) (old new : CoreState) (q : Request) (o : Outcome)
    (node : Option Node) : Type 0 where
  pub after : List Node
  pub stands : RepresentsPast after new
  pub step : IsStep (turn_of past old new) q o after
  pub own : step.own ≡ listed node
  pub fails : new.failed ≡ is_failure o
  pub faults : new.failed ≡ false → new.faults ≡ old.faults
  pub in_hand : o ≡ Refused Device → HasFailed (IsInHand (turn_of past old new) q after) after new
  pub programs : ProgramsFor (turn_of past old new) q o past after old new
  pub two : keeps_two o ≡ true → KeepsTwo old new
  pub same : DoesNothing o (turn_of past old new) q → IsSameButAnswers old new

-- so is what was carried out, or why nothing was
abbrev pub HasActed : List Node → CoreState → CoreState → Request → Result Answered Cause → Type 0
HasActed past old new q (Ok a) = HasAnswered past old new q a.outcome a.node
HasActed past old new q (Err cause) = HasAnswered past old new q (Refused cause) None

-- the same of what became of a request for which this node was to be appended
abbrev pub HasAppended : List Node → CoreState → CoreState → Request → Node → Result Outcome Cause
    → Type 0
HasAppended past old new q node (Ok o) = HasAnswered past old new q o (Some node)
HasAppended past old new q node (Err cause) = HasAnswered past old new q (Refused cause) None

-- the same of the history since a mount, but for the node
pub record Answers (mounted past : List Node) (old new : CoreState) (q : Request) (o : Outcome) :
    Type 0 where
  pub after : List Node
  pub stands : Represents mounted after new
  pub step : IsStep (turn_of past old new) q o after
  pub fails : new.failed ≡ is_failure o
  pub faults : new.failed ≡ false → new.faults ≡ old.faults
  pub in_hand : o ≡ Refused Device → HasFailed (IsInHand (turn_of past old new) q after) after new
  pub programs : ProgramsFor (turn_of past old new) q o past after old new
  pub two : keeps_two o ≡ true → KeepsTwo old new
  pub same : DoesNothing o (turn_of past old new) q → IsSameButAnswers old new

-- the answer with the node that was appended for the request itself
pub record AnswersWith (mounted past : List Node) (old new : CoreState) (q : Request) (o : Outcome)
    (node : Option Node) : Type 0 where
  pub answers : Answers mounted past old new q o
  pub own : answers.step.own ≡ listed node

-- an answer that ends the session
abbrev pub is_closed : Outcome → Bool
is_closed Closed = true
is_closed _ = false

-- one answer more, and nothing else
abbrev pub KeepsAnswer : ℕ → ℕ → Outcome → CoreState → CoreState → Type 0
KeepsAnswer writer seq o old new =
    new ≡ record old {
      answers = old.answers
          ++ record { writer = writer; seq = seq; outcome = o } ∷ [];
      closed = old.closed || is_closed o;
    }

-- The answer is kept, after all others, and a closing one ends the session. Of a core that had
-- failed nothing else is changed.
pub record AddsAnswer (writer seq : ℕ) (o : Outcome) (old new : CoreState) : Type 0 where
  pub answers : new.answers
      ≡ old.answers ++ record { writer = writer; seq = seq; outcome = o } ∷ []
  pub closed : new.closed ≡ old.closed || is_closed o
  pub failed : old.failed ≡ true → KeepsAnswer writer seq o old new
