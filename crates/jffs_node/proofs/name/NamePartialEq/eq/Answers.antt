use Rattle.std.proofs.Common.{◌&&◌, ◌==◌, ◌∙◌}
use Rattle.jffs_node.proofs.NameOrder.{equal_numbers}
use Rattle.jffs_node.proofs.name.NamePartialEq.eq.Goals as goal

pub returns : goal.returns
returns c =
    let mine = c.numbers.ensures in
    let theirs = c.numbers-2.ensures in
    c.eq.ensures
    ∙ (λ i.
    ((mine.value i).0 == (theirs.value i).0 && (mine.value i).1 == (theirs.value i).1)
    && (mine.value i).2 == (theirs.value i).2)
    ∙ equal_numbers c.args.self.now c.args.other.now mine.lawful theirs.lawful
