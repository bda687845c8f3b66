use Rattle.std.proofs.Common.{◌≡◌, ◌+◌, ◌-◌, subst, arith}
use Rattle.jffs_node.specs.Record.{file_max}
use Rattle.jffs_inodes.proofs.files.Reading.{IsClear, begins_later, clear, says_hole}
use Rattle.jffs_inodes.proofs.piece.hole_at.Goals as goal

pub returns-in-Some-clause-count : goal.returns-in-Some-clause-count
returns-in-Some-clause-count c =
    let there = c.in-Some.ensures.there in
    let low = there.2 in
    let high = there.3 in
    let later = begins_later file_max c.args.at c.in-Some.next there.0 c.args.fragments.now.entries c.requires.laid c.requires.hole there.1 low in
    (omega arith, omega arith)

pub returns-in-Some-clause-zeros : goal.returns-in-Some-clause-zeros
returns-in-Some-clause-zeros c =
    let es = c.args.fragments.now.entries in
    let low = c.in-Some.ensures.there.2 in
    let end : c.in-Some.next ≡ c.args.at + (c.in-Some.next - c.args.at) = omega arith in
    says_hole c.args.at (c.in-Some.next - c.args.at) es
    (subst (λ r. IsClear c.args.at r es) end (clear c.args.at c.in-Some.next es c.requires.hole c.in-Some.ensures.least))

pub returns-in-None-clause-zeros : goal.returns-in-None-clause-zeros
returns-in-None-clause-zeros c =
    says_hole c.args.at c.args.most c.args.fragments.now.entries
    (clear c.args.at (c.args.at + c.args.most) c.args.fragments.now.entries c.requires.hole c.in-None.ensures.none)
