-- When serving stops.
use Rattle.std.proofs.Common.{◌≡◌, Bool, true, false, ◌||◌, List, [], ◌∷◌, ◌++◌, map, refl, sym, ap, ap₂, subst, ◌∙◌, Option, Some, None}
use Rattle.std.specs.List.{AllByRecursion}
use Rattle.std.proofs.Math.Bool.{or-true}
use Rattle.jffs_tree.specs.Decide.{is_unmount_wish}
use Rattle.jffs_tree.specs.declared.wish.Wish.TheVariants.{Unmount}
use Rattle.jffs_tree.proofs.decisions.Wishes.{unmount_wish}
use Rattle.jffs_tree.specs.declared.wish.Outcome.{Outcome}
use Rattle.jffs_tree.specs.declared.wish.Outcome.TheVariants.{Appended, Copied, Closed, Refused}
use Rattle.jffs_core.specs.CoreState.{CoreState}
use Rattle.jffs_core.specs.Answering.{is_closed}
use Rattle.jffs_serve.specs.declared.session.PendingStep.{PendingStep}
use Rattle.jffs_serve.specs.declared.session.Unmounted.{Unmounted}
use Rattle.jffs_serve.specs.declared.session.Unmounted.TheVariants as unmounted
use Rattle.jffs_serve.specs.declared.session.Served.{Served}
use Rattle.jffs_serve.specs.declared.session.Served.TheVariants as served
use Rattle.jffs_serve.specs.PendingStep.{ending_of, ending_after, served_as, served_by}
use Rattle.jffs_serve.specs.Replies.{Reply, Replies, AllReply, answer_in, any_closed, FitsServed}
use Rattle.jffs_serve.specs.Stopping.{ending_with, or_closed, owed, ending_in, StopsAt, StopsGoOn, EndsAs}

-- no reply was made
pub stops_at_once : (from to : Option Unmounted) → from ≡ to → StopsAt from [] to
stops_at_once (Some ending) to same = (refl, sym same)
stops_at_once None to same = sym same

pub stops_along : StopsGoOn
stops_along (Some ending) b c first second here there =
    let rest = subst (λ (e : Option Unmounted). StopsAt e second c) here.1 there in
    (ap₂ (λ (xs ys : List Reply). xs ++ ys) here.0 rest.0, rest.1)
stops_along None b c [] second here there = subst (λ (e : Option Unmounted). StopsAt e second c) here there
stops_along None b c (r ∷ first) second here there = stops_along (ending_with r) b c first second here there

-- nothing that endings speak of has changed
pub still_owed :
    (ending : Option Served) (old new : CoreState) (unsent unsent' : Option PendingStep) → new.closed ≡ old.closed → unsent' ≡ unsent
    → ending_in ending old unsent ≡ ending_in ending new unsent'
still_owed None old new unsent unsent' closed same = ap₂ (λ (k : Option PendingStep) (b : Bool). or_closed (ending_of k) b) (sym same) (sym closed)
still_owed (Some served.Memory) old new unsent unsent' closed same = ap₂ (λ (k : Option PendingStep) (b : Bool). or_closed (ending_of k) b) (sym same) (sym closed)
still_owed (Some served.Ended) old new unsent unsent' closed same = refl
still_owed (Some served.Closed) old new unsent unsent' closed same = refl
still_owed (Some (served.NotClosed cause)) old new unsent unsent' closed same = refl

-- on an open session nothing is owed where nothing is unsent
pub nothing_owed : (core : CoreState) (unsent : Option PendingStep) → unsent ≡ None → core.closed ≡ false → owed core unsent ≡ None
nothing_owed core unsent none opened = ap₂ (λ (k : Option PendingStep) (b : Bool). or_closed (ending_of k) b) none opened

-- on a closed one Closed is
pub closed_owed : (core : CoreState) (unsent : Option PendingStep) → unsent ≡ None → core.closed ≡ true → owed core unsent ≡ Some unmounted.Closed
closed_owed core unsent none closed = ap₂ (λ (k : Option PendingStep) (b : Bool). or_closed (ending_of k) b) none closed

-- the ending that an answer brings is the one owed then
ending_or_closed : (unmounts : Bool) (outcome : Outcome) → ending_after unmounts outcome ≡ or_closed (ending_after unmounts outcome) (is_closed outcome)
ending_or_closed unmounts Closed = refl
ending_or_closed true (Refused cause) = refl
ending_or_closed false (Refused cause) = refl
ending_or_closed true (Appended inode version) = refl
ending_or_closed false (Appended inode version) = refl
ending_or_closed true (Copied version) = refl
ending_or_closed false (Copied version) = refl

-- one reply was made, while nothing was owed
pub stops_after :
    (old new : CoreState) (unsent unsent' : Option PendingStep) (r : Reply) → unsent ≡ None → old.closed ≡ false
    → new.closed ≡ (old.closed || is_closed r.step.outcome) → ending_of unsent' ≡ ending_with r
    → StopsAt (owed old unsent) (r ∷ []) (owed new unsent')
stops_after old new unsent unsent' r none opened closed ends =
    let now : new.closed ≡ is_closed r.step.outcome = closed ∙ ap (λ (b : Bool). b || is_closed r.step.outcome) opened in
    let last : ending_with r ≡ owed new unsent' =
    ending_or_closed _ r.step.outcome ∙ ap₂ or_closed (sym ends) (sym now) in
    subst (λ (e : Option Unmounted). StopsAt e (r ∷ []) (owed new unsent')) (sym (nothing_owed old unsent none opened)) (stops_at_once (ending_with r) (owed new unsent') last)

-- what serving answers by an Unmount is what was owed
pub ends_by : (ending : Option Unmounted) (old new : CoreState) (unsent unsent' : Option PendingStep)
    → ending ≡ ending_of unsent → unsent' ≡ None → new.closed ≡ old.closed
    → owed old unsent ≡ ending_in (served_by ending) new unsent'
ends_by (Some unmounted.Closed) old new unsent unsent' is none closed = ap (λ (e : Option Unmounted). or_closed e old.closed) (sym is)
ends_by (Some (unmounted.NotClosed cause)) old new unsent unsent' is none closed = ap (λ (e : Option Unmounted). or_closed e old.closed) (sym is)
ends_by None old new unsent unsent' is none closed =
    ap₂ or_closed (sym is) (sym closed) ∙ ap (λ (k : Option PendingStep). or_closed (ending_of k) new.closed) (sym none)

-- no Unmount ends serving so as a line that ran out does
pub not_ended : (ending : Unmounted) → served_as ending ≡ served.Ended → ⊥
not_ended unmounted.Closed is = cc
not_ended (unmounted.NotClosed cause) is = cc

-- an answer Closed ends serving so
closed_ends : (unmounts : Bool) (outcome : Outcome) → is_closed outcome ≡ true → ending_after unmounts outcome ≡ Some unmounted.Closed
closed_ends unmounts Closed is = refl
closed_ends unmounts (Appended inode version) is = absurd (cc)
closed_ends unmounts (Copied version) is = absurd (cc)
closed_ends unmounts (Refused cause) is = absurd (cc)

in_order_after : (replies : List Reply) (now e : Option Unmounted) → (StopsAt None replies now → AllReply replies) → StopsAt e replies now → AllReply replies
in_order_after replies now None goes_on s = goes_on s
in_order_after replies now (Some ending) goes_on s = subst AllReply (sym s.0) tt

-- where serving stopped at the first reply that ends it, none stands after one that closed the
-- session
pub stopped_in_order : (replies : List Reply) (now : Option Unmounted) → StopsAt None replies now → AllByRecursion Replies replies → AllReply replies
stopped_in_order [] now stops each = tt
stopped_in_order (r ∷ replies) now stops each = (
  each.0,
  λ closed. (subst (λ (e : Option Unmounted). StopsAt e replies now) (closed_ends (is_unmount_wish r.request.wish) r.step.outcome closed) stops).0,
  in_order_after replies now (ending_with r) (λ s. stopped_in_order replies now s each.1) stops,
)

-- how serving ends with a reply
ends_fit :
    (unmounts : Bool) (outcome : Outcome) (r : Reply) → (unmounts ≡ true → r.request.wish ≡ Unmount) → r.step.outcome ≡ outcome
    → (e : Unmounted) → ending_after unmounts outcome ≡ Some e → FitsServed (served_as e) (is_closed outcome || false) (r ∷ [])
ends_fit unmounts Closed r wish is e ends =
    let same : unmounted.Closed ≡ e = cc in
    subst (λ (t : Unmounted). FitsServed (served_as t) true (r ∷ [])) same refl
ends_fit true (Refused cause) r wish is e ends =
    let same : unmounted.NotClosed cause ≡ e = cc in
    subst (λ (t : Unmounted). FitsServed (served_as t) false (r ∷ [])) same (wish refl, is)
ends_fit _ _ r wish is e ends = absurd (cc)

-- and with a reply before the last
fits_more : (e : Unmounted) (r : Reply) (replies : List Reply) → FitsServed (served_as e) (any_closed (map answer_in replies)) replies
    → FitsServed (served_as e) (any_closed (map answer_in (r ∷ replies))) (r ∷ replies)
fits_more unmounted.Closed r replies h = ap (λ (b : Bool). is_closed r.step.outcome || b) h ∙ or-true (is_closed r.step.outcome)
fits_more (unmounted.NotClosed cause) r [] h = absurd h
fits_more (unmounted.NotClosed cause) r (q ∷ replies) h = h

fits_after :
    (r : Reply) (replies : List Reply) (e : Unmounted) (t : Option Unmounted)
    → (StopsAt None replies (Some e) → FitsServed (served_as e) (any_closed (map answer_in replies)) replies)
    → ending_with r ≡ t → StopsAt t replies (Some e) → FitsServed (served_as e) (any_closed (map answer_in (r ∷ replies))) (r ∷ replies)
fits_after r replies e None goes_on is s = fits_more e r replies (goes_on s)
fits_after r replies e (Some ending) goes_on is s =
    subst (λ (rest : List Reply). FitsServed (served_as e) (any_closed (map answer_in (r ∷ rest))) (r ∷ rest)) (sym s.0)
    (ends_fit (is_unmount_wish r.request.wish) r.step.outcome r (unmount_wish r.request.wish) refl e (is ∙ sym s.1))

stopped_fits : (replies : List Reply) (e : Unmounted) → StopsAt None replies (Some e) → FitsServed (served_as e) (any_closed (map answer_in replies)) replies
stopped_fits [] e stops = absurd (cc)
stopped_fits (r ∷ replies) e stops = fits_after r replies e (ending_with r) (stopped_fits replies e) refl stops

-- what serving answers is what its last reply says, where nothing was owed at first
pub stopped_fits_served :
    (served : Served) (replies : List Reply) (core : CoreState) (unsent : Option PendingStep)
    → StopsAt None replies (ending_in (Some served) core unsent) → FitsServed served (any_closed (map answer_in replies)) replies
stopped_fits_served served.Closed replies core unsent stops = stopped_fits replies unmounted.Closed stops
stopped_fits_served (served.NotClosed cause) replies core unsent stops = stopped_fits replies (unmounted.NotClosed cause) stops
stopped_fits_served served.Ended replies core unsent stops = tt
stopped_fits_served served.Memory replies core unsent stops = tt

-- and it ends as its replies say
pub ends_as :
    (served : Served) (replies : List Reply) (core : CoreState) (unsent : Option PendingStep)
    → StopsAt None replies (ending_in (Some served) core unsent) → EndsAs served replies
ends_as served.Closed replies core unsent stops = stops
ends_as (served.NotClosed cause) replies core unsent stops = stops
ends_as served.Ended replies core unsent stops = stops
ends_as served.Memory replies core unsent stops = (_, stops)
