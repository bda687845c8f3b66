use Rattle.std.proofs.Common.{◌≡◌, ◌<◌, length, get_or, slice_get, Some, subst, ap, arith}
use Rattle.jffs_marks.specs.Marks.{Counts, mark_of}
use Rattle.jffs_marks.proofs.Places.{InOrder, read_at, mark_at}
use Rattle.jffs_marks.proofs.Walks.{to_split, none_there, is_least, spent_too, none_to}
use Rattle.jffs_marks.proofs.marks.Marks.holder.Goals as goal
use Rattle.jffs_marks.proofs.marks.Marks.holder.Goals.{At-loop-index, After-index}

ordered : (c : At-loop-index) → InOrder c.args.self.now
ordered c = subst InOrder c.self.view_is c.self.invariant.ordered

-- The entry that was read stands at the loop's index.
read : (c : After-index) → slice_get c.args.self.now c.loop-index.index ≡ Some c.index.result.now
read c =
    read_at c.args.self.now c.loop-index.index c.index.result.now (omega (arith, ap length c.self.view_is))
    (subst (λ (t : Counts). c.index.result.now ≡ get_or t c.loop-index.index c.index.result.now) c.self.view_is c.index.ensures)

pub loop-index-init : goal.loop-index-init
loop-index-init c = to_split c.args.self.now c.args.version c.start-index.result c.start-index.ensures

pub returns-then-key-version-clause-none : goal.returns-then-key-version-clause-none
returns-then-key-version-clause-none c =
    let here = goal.at.returns-then-key-version-clause-none c in
    none_there _ (ordered here.At-loop-index) _ _ c.index.result.now (read here.After-index) c.loop-index.invariant c.if-key-version.true

pub returns-then-count-gt0-clause-there : goal.returns-then-count-gt0-clause-there
returns-then-count-gt0-clause-there c =
    let here = goal.at.returns-then-count-gt0-clause-there c in
    let entry = c.index.result.now in
    let marks = mark_at _ (ordered here.At-loop-index) _ entry.0 entry.1 (read here.After-index) in
    subst (λ v. 0 < mark_of c.args.self.now v entry.0.1) c.if-key-version.false (omega (arith, marks, c.if-count-gt0.true))

pub returns-then-count-gt0-clause-least : goal.returns-then-count-gt0-clause-least
returns-then-count-gt0-clause-least c =
    let here = goal.at.returns-then-count-gt0-clause-least c in
    is_least _ (ordered here.At-loop-index) _ _ c.index.result.now (read here.After-index) c.loop-index.invariant c.if-key-version.false

pub loop-index-preserved : goal.loop-index-preserved
loop-index-preserved c =
    let here = goal.at.loop-index-preserved c in
    spent_too _ (ordered here.At-loop-index) _ _ c.index.result.now (read here.After-index) c.loop-index.invariant (omega (arith, c.if-count-gt0.false))

pub returns-clause-none : goal.returns-clause-none
returns-clause-none c =
    none_to _ (ordered (goal.at.returns-clause-none c).At-loop-index) _ _ (omega (arith, ap length c.self.view_is)) c.loop-index.invariant
