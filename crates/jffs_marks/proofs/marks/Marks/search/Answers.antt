use Rattle.std.proofs.Common.{◌≡◌, ◌<◌, ◌+◌, ◌-◌, ◌/◌, ◌&&◌, ℕ, false, eqb, slice_get, Some, subst, sym, ◌∙◌, arith}
use Rattle.std.proofs.lemmas.Option.{slice_get_within, same_Some}
use Rattle.jffs_marks.specs.Marks.{MarkKey, Counts, BelongsAt}
use Rattle.jffs_marks.proofs.Places.{read_at}
use Rattle.jffs_marks.proofs.Halving.{upper_half, lower_half, met_absent}
use Rattle.jffs_marks.proofs.marks.Marks.search.Goals as goal
use Rattle.jffs_marks.proofs.marks.Marks.search.Goals.{After-index}

-- the entry in the middle
middle : (c : After-index) → slice_get c.self.inside.counts.items (c.halves.from + (c.halves.to - c.halves.from) / 2) ≡ Some c.index.result.now
middle c = read_at c.self.inside.counts.items _ c.index.result.now (omega (arith, c.halves.invariant.ends)) c.index.ensures

pub halves-preserved-then-is_before : goal.halves-preserved-then-is_before
halves-preserved-then-is_before c =
    upper_half c.self.inside.counts.items c.self.invariant.ordered c.args.key c.halves.from c.halves.to _ c.index.result.now c.halves.invariant (omega arith)
    (middle (goal.at.halves-preserved-then-is_before c).After-index)
    (sym c.is_before.ensures ∙ c.if-is_before.true)

pub halves-preserved : goal.halves-preserved
halves-preserved c =
    lower_half c.self.inside.counts.items c.self.invariant.ordered c.args.key c.halves.from c.halves.to _ c.index.result.now c.halves.invariant (omega arith) (omega arith)
    (middle (goal.at.halves-preserved c).After-index)
    (sym c.is_before.ensures ∙ c.if-is_before.false)

pub returns-in_default-clause-absent : goal.returns-in_default-clause-absent
returns-in_default-clause-absent c =
    let items = c.self.inside.counts.items in
    subst (λ (t : Counts). BelongsAt t c.args.key c.halves.from) c.self.view_is
    (met_absent items c.self.invariant.ordered c.args.key c.halves.from c.halves.to c.halves-test.false c.halves.invariant
    (λ e at. let within = slice_get_within items c.halves.from e at in let some = c.in_default.ensures.variant.1 (subst (λ n. c.halves.from < n) (sym c.self.inside.counts.ok.0) within) in cc))

pub returns-else-eq-clause-absent : goal.returns-else-eq-clause-absent
returns-else-eq-clause-absent c =
    let items = c.self.inside.counts.items in
    let found = c.in-Some.entry.now in
    subst (λ (t : Counts). BelongsAt t c.args.key c.halves.from) c.self.view_is
    (met_absent items c.self.invariant.ordered c.args.key c.halves.from c.halves.to c.halves-test.false c.halves.invariant
    (λ e at. subst (λ (x : MarkKey × ℕ). (eqb x.0.0.0 c.args.key.0.0 && eqb x.0.1 c.args.key.1) ≡ false)
    (same_Some found e (sym (read_at items c.halves.from found (slice_get_within items c.halves.from e at) c.in-Some.ensures.lookup) ∙ at))
    (sym c.eq.ensures ∙ c.if-eq.false)))
