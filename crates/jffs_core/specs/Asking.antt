-- A request that is answered, and whose answer isn't kept.
use Rattle.std.specs.Prelude.{◌≡◌, List, []}
use Rattle.jffs_node.specs.declared.node.Node.{Node}
use Rattle.jffs_tree.specs.declared.wish.Wish.{Wish}
use Rattle.jffs_tree.specs.declared.wish.Outcome.{Outcome}
use Rattle.jffs_line.specs.declared.request.Request.{Request}
use Rattle.jffs_core.specs.CoreState.{CoreState, IsSameButCapacity}
use Rattle.jffs_core.specs.Past.{Represents}
use Rattle.jffs_core.specs.Answering.{AddsAnswer, Answers}
use Rattle.jffs_core.specs.Erases.{StaysBounded}

-- Once there was room for its answer, the request was answered by a lawful step from the history
-- before it, and then all answers were let go.
pub record IsAsked (request : Request) (outcome : Outcome) (old new : CoreState) : Type 0 where
  pub reserved : CoreState
  pub room : IsSameButCapacity old reserved
  pub answered : CoreState
  pub kept : AddsAnswer request.writer request.seq outcome reserved answered
  pub step : (mounted past : List Node) → Represents mounted past reserved
      → Answers mounted past reserved answered request outcome
  pub bounded : StaysBounded request.wish reserved answered
  pub let_go : new ≡ record answered { answers = [] }

-- a request with this wish was answered so
abbrev pub HasAsked : Wish → Outcome → CoreState → CoreState → Type 0
HasAsked wish outcome old new =
    (request : Request) × (request.wish ≡ wish) × IsAsked request outcome old new
