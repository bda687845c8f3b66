-- When serving stops.
use Rattle.std.specs.Prelude.{◌≡◌, Bool, true, false, List, [], ◌∷◌, ◌++◌, Option}
use Rattle.std.specs.Prelude.{Some, None}
use Rattle.jffs_tree.specs.Decide.{is_unmount_wish}
use Rattle.jffs_core.specs.CoreState.{CoreState}
use Rattle.jffs_serve.specs.declared.session.PendingStep.{PendingStep}
use Rattle.jffs_serve.specs.declared.session.Unmounted.{Unmounted}
use Rattle.jffs_serve.specs.declared.session.Unmounted.TheVariants as unmounted
use Rattle.jffs_serve.specs.declared.session.Served.{Served}
use Rattle.jffs_serve.specs.declared.session.Served.TheVariants as served
use Rattle.jffs_serve.specs.PendingStep.{ending_of, ending_after}
use Rattle.jffs_serve.specs.Replies.{Reply}

-- how serving ends with a reply, if it does
abbrev pub ending_with : Reply → Option Unmounted
ending_with r = ending_after (is_unmount_wish r.request.wish) r.step.outcome

-- this ending; or Closed, where there is none and the session is closed
abbrev pub or_closed : Option Unmounted → Bool → Option Unmounted
or_closed (Some ending) closed = Some ending
or_closed None true = Some unmounted.Closed
or_closed None false = None

-- how serving has to end before it takes a request, if it has to
abbrev pub owed : CoreState → Option PendingStep → Option Unmounted
owed core unsent = or_closed (ending_of unsent) core.closed

-- how serving ended by an Unmount, or still has to; nothing is owed where no hand is left
abbrev pub ending_in : Option Served → CoreState → Option PendingStep → Option Unmounted
ending_in None core unsent = owed core unsent
ending_in (Some served.Memory) core unsent = owed core unsent
ending_in (Some served.Ended) core unsent = None
ending_in (Some served.Closed) core unsent = Some unmounted.Closed
ending_in (Some (served.NotClosed cause)) core unsent = Some (unmounted.NotClosed cause)

-- From what is owed to what is owed after these replies: where an ending is owed there is none, and
-- else the first by which serving ends is the last.
abbrev pub StopsAt : Option Unmounted → List Reply → Option Unmounted → Type 0
StopsAt (Some ending) replies now = (replies ≡ []) × (now ≡ Some ending)
StopsAt None [] now = now ≡ None
StopsAt None (r ∷ replies) now = StopsAt (ending_with r) replies now

-- Two stretches of replies, the second of which begins with what the first leaves owed, are one.
abbrev pub StopsGoOn : Type 0
StopsGoOn = (from between to : Option Unmounted) (first second : List Reply)
    → StopsAt from first between → StopsAt between second to → StopsAt from (first ++ second) to

-- nothing is owed at first, and the first reply by which serving ends is the last
abbrev pub StopsAtFirst : List Reply → Type 0
StopsAtFirst replies = (now : Option Unmounted) × StopsAt None replies now

-- How serving ended is what the replies say, of which the first that ends it is the last: where a
-- line ran out none of them ends it; where memory was wanting one may, which isn't served yet.
abbrev pub EndsAs : Served → List Reply → Type 0
EndsAs served.Closed replies = StopsAt None replies (Some unmounted.Closed)
EndsAs (served.NotClosed cause) replies = StopsAt None replies (Some (unmounted.NotClosed cause))
EndsAs served.Ended replies = StopsAt None replies None
EndsAs served.Memory replies = StopsAtFirst replies
