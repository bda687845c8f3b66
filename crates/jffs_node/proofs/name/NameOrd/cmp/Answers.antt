use Rattle.std.proofs.Common.{◌∙◌}
use Rattle.std.specs.Ordering.{nat_cmp, ordering_then}
use Rattle.jffs_node.proofs.NameOrder.{order_numbers}
use Rattle.jffs_node.proofs.name.NameOrd.cmp.Goals as goal

pub returns : goal.returns
returns c =
    let mine = c.numbers.ensures in
    let theirs = c.numbers-2.ensures in
    c.cmp.ensures
    ∙ (λ i. ordering_then (ordering_then
    (nat_cmp (mine.value i).0 (theirs.value i).0)
    (nat_cmp (mine.value i).1 (theirs.value i).1))
    (nat_cmp (mine.value i).2 (theirs.value i).2))
    ∙ order_numbers c.args.self.now c.args.other.now mine.lawful theirs.lawful
