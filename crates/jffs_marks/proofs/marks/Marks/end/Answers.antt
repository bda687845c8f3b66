use Rattle.std.proofs.Common.{◌≡◌, ◌-◌, ℕ, Some, ap, subst, sym, ◌∙◌, length, slice_get, arith}
use Rattle.std.proofs.lemmas.Option.{slice_get-get_or}
use Rattle.jffs_marks.specs.Marks.{MarkKey, Counts, SplitsAt}
use Rattle.jffs_marks.proofs.Searched.{split_at_end}
use Rattle.jffs_marks.proofs.marks.Marks.end.Goals as goal

pub returns-else-oldest-first : goal.returns-else-oldest-first
returns-else-oldest-first c =
    let deque = c.self.inside.counts in
    let oldest = c.in-Some.field-0.now in
    let there = c.in-Some.ensures.item.3 in
    let last : slice_get deque.items (deque.len - 1) ≡ Some oldest =
    slice_get-get_or deque.items (deque.len - 1) oldest (omega (arith, deque.ok.0, there.0)) ∙ ap (λ (e : MarkKey × ℕ). Some e) (sym (there.1 oldest)) in
    subst (λ n. SplitsAt c.args.self.now c.args.first n) (sym (c.len.ensures ∙ deque.ok.0))
    (subst (λ (t : Counts). SplitsAt t c.args.first (length deque.items)) c.self.view_is
    (split_at_end deque.items c.self.invariant.ordered c.args.first oldest
    (subst (λ n. slice_get deque.items (n - 1) ≡ Some oldest) deque.ok.0 last)
    c.if-oldest-first.false))
