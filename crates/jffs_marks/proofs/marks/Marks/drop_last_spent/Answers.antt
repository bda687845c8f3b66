use Rattle.std.proofs.Common.{◌≡◌, ℕ, ◌++◌, ◌∷◌, [], Option, Some, subst, sym, ap, ◌∙◌, arith}
use Rattle.std.specs.Option.{option_to_list}
use Rattle.jffs_marks.specs.Marks.{MarkKey, Counts, mark_of}
use Rattle.jffs_marks.proofs.Places.{InOrder, front_in_order, without_last}
use Rattle.jffs_marks.proofs.marks.Marks.drop_last_spent.Goals as goal

pub loop-count-preserved : goal.loop-count-preserved
loop-count-preserved c =
    let deque = c.loop-count.self-inside.counts in
    let left = c.pop_back.new.self.items in
    let last : MarkKey × ℕ = c.in-Some.field-0.now in
    let there = c.in-Some.ensures.item.3 in
    let none : last.1 ≡ 0 = omega arith in
    let gone : c.pop_back.result ≡ Some last = c.pop_back.ensures.value last (omega (arith, there.0, deque.ok.0)) ∙ ap (λ (e : MarkKey × ℕ). Some e) (sym (there.1 last)) in
    let parts : deque.items ≡ left ++ last ∷ [] = c.pop_back.ensures.items ∙ ap (λ (o : Option (MarkKey × ℕ)). left ++ option_to_list o) gone in
    record {
      ordered = front_in_order left (last ∷ []) (subst (λ (t : Counts). InOrder t) parts c.loop-count.invariant.ordered);
      same = λ v i. sym (without_last left last none v i) ∙ ap (λ (t : Counts). mark_of t v i) (sym parts) ∙ c.loop-count.invariant.same v i;
    }
