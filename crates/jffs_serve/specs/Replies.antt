-- Requests with the steps that answer them.
use Rattle.std.specs.Prelude.{◌≡◌, Bool, true, List, [], ◌∷◌}
use Rattle.std.specs.List.{list_any}
use Rattle.jffs_line.specs.declared.request.Request.{Request}
use Rattle.jffs_tree.specs.declared.wish.Cause.{Cause}
use Rattle.jffs_tree.specs.declared.wish.Wish.TheVariants.{Unmount}
use Rattle.jffs_tree.specs.declared.wish.Outcome.TheVariants.{Refused}
use Rattle.jffs_index.specs.declared.step.Step.{Step}
use Rattle.jffs_core.specs.declared.answer.Answer.{Answer}
use Rattle.jffs_core.specs.Answering.{is_closed}
use Rattle.jffs_core.specs.Nodes.{HasNode}
use Rattle.jffs_serve.specs.declared.session.Served.{Served}
use Rattle.jffs_serve.specs.declared.session.Served.TheVariants as served

-- A request that was taken, and the step that answers it.
pub record Reply : Type 0 where
  pub request : Request
  pub step : Step

-- the answer that the step shows
abbrev pub answer_in : Reply → Answer
answer_in r = record { writer = r.step.writer; seq = r.step.seq; outcome = r.step.outcome }

-- the step has the request's sender and number, and a node where one was appended
abbrev pub Replies : Reply → Type 0
Replies r = (r.step.writer ≡ r.request.writer) × (r.step.seq ≡ r.request.seq)
    × HasNode r.step.outcome r.step.node

-- each step replies to its request, and none stands after one that closed the session
abbrev pub AllReply : List Reply → Type 0
AllReply [] = Unit {0}
AllReply (r ∷ replies) =
    Replies r × (is_closed r.step.outcome ≡ true → replies ≡ []) × AllReply replies

-- the last of them refuses an Unmount for this cause
abbrev pub RefusesUnmount : List Reply → Cause → Type 0
RefusesUnmount [] cause = ⊥
RefusesUnmount (r ∷ []) cause = (r.request.wish ≡ Unmount) × (r.step.outcome ≡ Refused cause)
RefusesUnmount (r ∷ q ∷ replies) cause = RefusesUnmount (q ∷ replies) cause

-- whether the session was closed by one of these answers
abbrev pub any_closed : List Answer → Bool
any_closed answers = list_any (λ (a : Answer). is_closed a.outcome) answers

-- Closed is served only where an Unmount was answered Closed, NotClosed only where the last answer
-- refused one for that cause
abbrev pub FitsServed : Served → Bool → List Reply → Type 0
FitsServed served.Closed closed replies = closed ≡ true
FitsServed (served.NotClosed cause) closed replies = RefusesUnmount replies cause
FitsServed served.Ended closed replies = Unit {0}
FitsServed served.Memory closed replies = Unit {0}
