-- What a session still has to do with its last answer.
use Rattle.std.specs.Prelude.{◌≡◌, Bool, true, List, [], ◌∷◌, Option, Some, None}
use Rattle.jffs_tree.specs.declared.wish.Outcome.{Outcome}
use Rattle.jffs_tree.specs.declared.wish.Outcome.TheVariants.{Closed, Refused}
use Rattle.jffs_index.specs.declared.step.Step.{Step}
use Rattle.jffs_serve.specs.declared.session.PendingStep.{PendingStep}
use Rattle.jffs_serve.specs.declared.session.PendingStep.TheVariants.{Unput, Unpublished}
use Rattle.jffs_serve.specs.declared.session.Unmounted.{Unmounted}
use Rattle.jffs_serve.specs.declared.session.Unmounted.TheVariants as unmounted
use Rattle.jffs_serve.specs.declared.session.Served.{Served}
use Rattle.jffs_serve.specs.declared.session.Served.TheVariants as served

-- the step that is still to be put
abbrev pub unput : Option PendingStep → List Step
unput None = []
unput (Some (Unput step ending)) = step ∷ []
unput (Some (Unpublished ending)) = []

-- how serving ends once nothing is unsent, if it does
abbrev pub ending_of : Option PendingStep → Option Unmounted
ending_of None = None
ending_of (Some (Unput step ending)) = ending
ending_of (Some (Unpublished ending)) = ending

-- how serving ends with an answer, if it does; the first says whether it answers an Unmount
abbrev pub ending_after : Bool → Outcome → Option Unmounted
ending_after unmounts Closed = Some unmounted.Closed
ending_after true (Refused cause) = Some (unmounted.NotClosed cause)
ending_after _ _ = None

-- what serving answers then
abbrev pub served_as : Unmounted → Served
served_as unmounted.Closed = served.Closed
served_as (unmounted.NotClosed cause) = served.NotClosed cause

abbrev pub served_by : Option Unmounted → Option Served
served_by None = None
served_by (Some unmounted) = Some (served_as unmounted)

-- steps wait to be published only where the session knows of it
abbrev pub IsReady : Option PendingStep → List Step → Type 0
IsReady None pending = pending ≡ []
IsReady (Some (Unput step ending)) pending = pending ≡ []
IsReady (Some (Unpublished ending)) pending = Unit {0}
