-- What is put shows the core.
use Rattle.std.proofs.Common.{◌≡◌, true, false, ⊎_elim, List, [], ◌∷◌, ◌++◌, Option, Some, None, refl, sym, ap, ap₂, subst, ◌∙◌, append_assoc}
use Rattle.std.proofs.lemmas.Bool.{both_ways, cases_Bool}
use Rattle.jffs_node.specs.declared.node.Node.{Node}
use Rattle.jffs_tree.specs.State.{apply}
use Rattle.jffs_inodes.specs.Inodes.{Tree}
use Rattle.jffs_tree.specs.Origin.{state_in}
use Rattle.jffs_core.specs.CoreState.{CoreState, IsSameButCapacity}
use Rattle.jffs_core.specs.Trees.{TakesNode, TellsNode, KeepsTree}
use Rattle.jffs_core.proofs.puts.Trees.{test_by_state, state_after}
use Rattle.jffs_index.specs.declared.step.Step.{Step}
use Rattle.jffs_index.specs.declared.rule.History.{History}
use Rattle.jffs_index.specs.declared.publisher.Publisher.{Publisher}
use Rattle.jffs_index.specs.Shown.{Shown, tree_with, after_step, fits_node, fits}
use Rattle.jffs_index.specs.Histories.{view_of, extended, opening_of}
use Rattle.jffs_index.specs.Ends.{published, pending, all_put}
use Rattle.jffs_serve.specs.declared.session.PendingStep.{PendingStep}
use Rattle.jffs_serve.specs.declared.session.PendingStep.TheVariants.{Unput, Unpublished}
use Rattle.jffs_serve.specs.declared.session.Unmounted.{Unmounted}
use Rattle.jffs_serve.specs.declared.session.Session.{Session}
use Rattle.jffs_serve.specs.PendingStep.{unput, IsReady}
use Rattle.jffs_serve.specs.Showing.{ShowsCore, IsShown, CanServe}

-- a tree of the state of the one that took a node takes it too
takes_too : (tree old new : Tree) (node : Option Node) → state_in tree ≡ state_in old → TakesNode old node new → (fits_node tree node ≡ true) × (state_in (tree_with tree node) ≡ state_in new)
takes_too tree old new None same took = (refl, same ∙ sym took)
takes_too tree old new (Some n) same took = (test_by_state tree old n same ∙ took.0, state_after tree n ∙ (ap (λ s. apply s n) same ∙ sym took.1))

-- The step of an answer fits what shows the core, and shows it then.
pub shows_step : (shown : Shown) (old new : CoreState) (step : Step) → TellsNode old new step.node → ShowsCore shown.tree old → (fits shown step ≡ true) × ShowsCore (after_step shown step).tree new
shows_step shown old new step tells shows = ⊎_elim
    (λ fails. (ap (fits_node shown.tree) (tells.none fails), λ works. absurd (both_ways new.failed works fails)))
    (λ works.
    let took = takes_too shown.tree old.tree new.tree step.node (shows (tells.worked works)) (tells.taken works) in
    (took.0, λ w. took.1))
    (cases_Bool new.failed)

-- Calls that keep the core's tree.
pub tree_along : (a b c : CoreState) → KeepsTree a b → KeepsTree b c → KeepsTree a c
tree_along a b c h k = λ works. let later = k works in let first = h later.0 in (first.0, later.1 ∙ first.1)

pub read_tree : (old new : CoreState) → old.failed ≡ false → new ≡ record old { failed = new.failed; faults = new.faults; reads_left = new.reads_left } → KeepsTree old new
read_tree old new worked same = λ works. (worked, ap (λ (c : CoreState). c.tree) same)

capacity_tree : (old new : CoreState) → IsSameButCapacity old new → KeepsTree old new
capacity_tree old new same = λ works. (ap (λ (c : CoreState). c.failed) (sym same) ∙ works, ap (λ (c : CoreState). c.tree) same)

shows_on : (tree : Tree) (old new : CoreState) → KeepsTree old new → ShowsCore tree old → ShowsCore tree new
shows_on tree old new keeps shows = λ works. let k = keeps works in shows k.0 ∙ ap state_in (sym k.1)

shown_on : (unsent : Option PendingStep) (shown : Shown) (old new : CoreState) → KeepsTree old new → IsShown unsent shown old → IsShown unsent shown new
shown_on None shown old new keeps is = shows_on shown.tree old new keeps is
shown_on (Some (Unput step ending)) shown old new keeps is = (is.0, shows_on (after_step shown step).tree old new keeps is.1)
shown_on (Some (Unpublished ending)) shown old new keeps is = shows_on shown.tree old new keeps is

pub shown_capacity : (unsent : Option PendingStep) (shown : Shown) (old new : CoreState) → IsSameButCapacity old new → IsShown unsent shown old → IsShown unsent shown new
shown_capacity unsent shown old new same is = shown_on unsent shown old new (capacity_tree old new same) is

-- where no step is left to be put, what was put shows the core
pub shown_sent : (unsent : Option PendingStep) (shown : Shown) (core : CoreState) → unput unsent ≡ [] → IsShown unsent shown core → ShowsCore shown.tree core
shown_sent None shown core none is = is
shown_sent (Some (Unput step ending)) shown core none is = let no : ◌≡◌ {A = List Step} (step ∷ []) [] = none in absurd (cc)
shown_sent (Some (Unpublished ending)) shown core none is = is

module _ {W : Type 0} where
  -- a step was put after those before
  pub steps_put : (old new : Publisher W) (step : Step) → published new ≡ published old → pending new ≡ pending old ++ step ∷ [] → (all_put new).steps ≡ (all_put old).steps ++ step ∷ []
  steps_put old new step same more =
      ap₂ (λ (h : History) (steps : List Step). h.steps ++ steps) same more ∙ sym (append_assoc (published old).steps (pending old) (step ∷ []))

module _ {F : Type 0} where
  -- what was unsent is forgotten once it was put
  pub ending_shown : (old new : Session F) → unput old.unsent ≡ [] → new.unsent ≡ None → new.core ≡ old.core → (shown : Shown) → IsShown old.unsent shown old.core → IsShown new.unsent shown new.core
  ending_shown old new put unsent core shown is =
      subst (λ (k : Option PendingStep). IsShown k shown new.core) (sym unsent) (subst (λ (c : CoreState). ShowsCore shown.tree c) (sym core) (shown_sent old.unsent shown old.core put is))

module _ {F W : Type 0} where
  -- Serving begins: nothing is unsent, and the index was opened over a copy of the core's tree.
  pub can_begin : (session : Session F) (publisher : Publisher W) → session.unsent ≡ None → published publisher ≡ opening_of session.core.tree → pending publisher ≡ [] → CanServe session publisher
  can_begin session publisher nothing opening none =
      let put : all_put publisher ≡ opening_of session.core.tree = ap₂ (λ (h : History) (steps : List Step). extended h steps) opening none in
      record {
        shown = subst (λ (k : Option PendingStep). IsShown k (view_of (all_put publisher)) session.core) (sym nothing)
            (λ works. ap (λ (h : History). state_in (view_of h).tree) put);
      }

  -- the unsent step fits what was put, and shows the core once it is put
  pub can_put : (session : Session F) (publisher : Publisher W) (step : Step) (ending : Option Unmounted) → session.unsent ≡ Some (Unput step ending) → CanServe session publisher
      → (fits (view_of (all_put publisher)) step ≡ true) × ShowsCore (after_step (view_of (all_put publisher)) step).tree session.core
  can_put session publisher step ending unsent can = subst (λ (k : Option PendingStep). IsShown k (view_of (all_put publisher)) session.core) unsent can.shown

  pub put_shown : (session : Session F) (old new : Publisher W) (step : Step) (ending : Option Unmounted) → session.unsent ≡ Some (Unput step ending) → CanServe session old
      → view_of (all_put new) ≡ after_step (view_of (all_put old)) step → ShowsCore (view_of (all_put new)).tree session.core
  put_shown session old new step ending unsent can is =
      subst (λ (shown : Shown). ShowsCore shown.tree session.core) (sym is) (can_put session old step ending unsent can).1

  -- Serving may go on after a call of the session that keeps what is shown.
  pub answered_can : (old new : Session F) (publisher : Publisher W)
      → ((shown : Shown) → IsShown old.unsent shown old.core → IsShown new.unsent shown new.core)
      → CanServe old publisher → CanServe new publisher
  answered_can old new publisher shown can = record { shown = shown (view_of (all_put publisher)) can.shown }

  pub tidied_can : (old new : Session F) (publisher : Publisher W) → new.unsent ≡ old.unsent → KeepsTree old.core new.core → CanServe old publisher → CanServe new publisher
  tidied_can old new publisher same keeps can = record {
    shown = subst (λ (k : Option PendingStep). IsShown k (view_of (all_put publisher)) new.core) (sym same) (shown_on old.unsent (view_of (all_put publisher)) old.core new.core keeps can.shown);
  }

  -- and after a publishing, which puts nothing
  pub published_can : (old new : Session F) (before now : Publisher W) → all_put now ≡ all_put before
      → ((shown : Shown) → IsShown old.unsent shown old.core → IsShown new.unsent shown new.core) → CanServe old before → CanServe new now
  published_can old new before now same shown can = record {
    shown = shown (view_of (all_put now)) (subst (λ (h : History). IsShown old.unsent (view_of h) old.core) (sym same) can.shown);
  }

-- once all was published, nothing waits that the session doesn't know of
pub ready_at_once : (unsent : Option PendingStep) (steps : List Step) → steps ≡ [] → IsReady unsent steps
ready_at_once None steps none = none
ready_at_once (Some (Unput step ending)) steps none = none
ready_at_once (Some (Unpublished ending)) steps none = tt
