use Rattle.std.proofs.Common.{◌≡◌, ◌-◌, get_or, slice_get, Some, subst, arith}
use Rattle.jffs_marks.specs.Marks.{Counts}
use Rattle.jffs_marks.proofs.Places.{InOrder, read_at, mark_at}
use Rattle.jffs_marks.proofs.Walks.{AreSpentFrom, is_new, none_older, one_spent, none_from}
use Rattle.jffs_marks.proofs.marks.Marks.next.Goals as goal
use Rattle.jffs_marks.proofs.marks.Marks.next.Goals.{At-loop-index, After-index}

ordered : (c : At-loop-index) → InOrder c.args.self.now
ordered c = subst InOrder c.self.view_is c.self.invariant.ordered

-- The entry that was read stands just before the loop's index.
read : (c : After-index) → slice_get c.args.self.now (c.loop-index.index - 1) ≡ Some c.index.result.now
read c =
    let last = c.loop-index.index - 1 in
    read_at c.args.self.now last c.index.result.now (omega (arith, c.loop-index.invariant.within, c.loop-index-test.true))
    (subst (λ (t : Counts). c.index.result.now ≡ get_or t last c.index.result.now) c.self.view_is c.index.ensures)

pub returns-then-count-gt0-clause-some : goal.returns-then-count-gt0-clause-some
returns-then-count-gt0-clause-some c =
    let here = goal.at.returns-then-count-gt0-clause-some c in
    let entry = c.index.result.now in
    let new = is_new _ (ordered here.At-loop-index) _ _ c.loop-index-test.true entry (read here.After-index) c.loop-index.invariant in
    let marks = mark_at _ (ordered here.At-loop-index) _ entry.0 entry.1 (read here.After-index) in
    (new, omega (arith, marks, c.if-count-gt0.true))

pub returns-then-count-gt0-clause-least : goal.returns-then-count-gt0-clause-least
returns-then-count-gt0-clause-least c =
    let here = goal.at.returns-then-count-gt0-clause-least c in
    none_older _ (ordered here.At-loop-index) _ _ c.loop-index-test.true c.index.result.now (read here.After-index) c.loop-index.invariant

pub loop-index-preserved : goal.loop-index-preserved
loop-index-preserved c =
    let here = goal.at.loop-index-preserved c in
    one_spent _ (ordered here.At-loop-index) _ _ c.loop-index-test.true c.index.result.now (read here.After-index) c.loop-index.invariant
    (omega (arith, c.if-count-gt0.false))

pub returns-clause-none : goal.returns-clause-none
returns-clause-none c =
    let none : c.loop-index.index ≡ 0 = omega (arith, c.loop-index-test.false) in
    none_from _ (ordered (goal.at.returns-clause-none c).At-loop-index) c.args.first (subst (λ n. AreSpentFrom c.args.self.now c.args.first n) none c.loop-index.invariant)
