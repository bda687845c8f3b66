use Rattle.std.proofs.Common.{◌≡◌, ◌+◌, ◌<◌, ◌∙◌, ℕ, min, drop, length, get_or, ap, subst, arith}
use Rattle.jffs_marks.specs.Marks.{MarkKey, Counts, marks_of}
use Rattle.jffs_marks.proofs.Places.{InOrder, read_at}
use Rattle.jffs_marks.proofs.Walks.{drop_at}
use Rattle.jffs_marks.proofs.Totals.{split_from, same_marks, none_left, whole}
use Rattle.jffs_marks.proofs.marks.Marks.total.Goals as goal

pub loop-index-init : goal.loop-index-init
loop-index-init c =
    let all = c.args.self.now in
    let v = c.args.version in
    let same = same_marks v all c.start-index.result c.start-index.ensures in
    let sum : 0 + marks_of (drop c.start-index.result all) v ≡ marks_of all v = omega (arith, same) in
    record {
      from = split_from v all c.start-index.result c.start-index.ensures (subst (λ (t : Counts). InOrder t) c.self.view_is c.self.invariant.ordered);
      small = omega arith;
      left = ap (λ n. min n 4294967295) sum;
    }

pub returns-then-key-version-clause-total : goal.returns-then-key-version-clause-total
returns-then-key-version-clause-total c =
    let all = c.args.self.now in
    let v = c.args.version in
    let i = c.loop-index.index in
    let old = c.loop-index.invariant in
    let entry : MarkKey × ℕ = c.index.result.now in
    let long : c.len-index-end.result ≡ length all = c.len-index-end.ensures ∙ c.self.inside.counts.ok.0 ∙ ap (λ (t : Counts). length t) c.self.view_is in
    let within : i < length all = omega (arith, c.loop-index-test.true, long) in
    let at = read_at all i entry within (subst (λ (t : Counts). entry ≡ get_or t i entry) c.self.view_is c.index.ensures) in
    let none = none_left v (drop i all) entry (drop (i + 1) all) (drop_at all i entry at) old.from c.if-key-version.true in
    whole c.loop-index.total (marks_of (drop i all) v) 4294967295 old.small none ∙ old.left
