use Rattle.std.proofs.Common.{◌≡◌, ◌<◌, ltb, subst, sym, ap, ◌∙◌, rules}
use Rattle.std.proofs.lemmas.Fn.{filter_same, All-from_retain}
use Rattle.jffs_marks.specs.Marks.{Counts, mark_of}
use Rattle.jffs_marks.proofs.Places.{InOrder, live, live_in_order, live_marks}
use Rattle.jffs_marks.proofs.marks.Marks.drop_spent.Goals as goal

left : (c : goal.After-retain) → c.retain.new.self.items ≡ live c.self.inside.counts.items
left c = filter_same _ (λ e. ltb 0 e.1) _ (λ x b f k. search rules) c.self.inside.counts.items c.retain.new.self.items c.retain.ensures.filtered

pub invariant_of-self : goal.invariant_of-self
invariant_of-self c = record { ordered = subst (λ (t : Counts). InOrder t) (sym (left c)) (live_in_order c.self.inside.counts.items c.self.invariant.ordered) }

pub returns-clause-same : goal.returns-clause-same
returns-clause-same c = λ v i.
    ap (λ (t : Counts). mark_of t v i) (left c) ∙ live_marks c.self.inside.counts.items c.self.invariant.ordered v i
    ∙ ap (λ (t : Counts). mark_of t v i) c.self.view_is

pub returns-clause-live : goal.returns-clause-live
returns-clause-live c =
    All-from_retain _ (λ e. 0 < e.1) _ (λ x b f k. search rules) c.self.inside.counts.items c.retain.new.self.items c.retain.ensures.filtered
