use Rattle.std.proofs.Common.{◌∙◌, sym}
use Rattle.jffs_node.specs.Record.{file_max}
use Rattle.jffs_inodes.proofs.files.Fragments.{are_laid_grown}
use Rattle.jffs_inodes.proofs.files.Reading.{writer_past, writer_in_hole, writer_in_fragment}
use Rattle.jffs_inodes.proofs.piece.writer_at.Goals as goal

pub returns-then-size-at : goal.returns-then-size-at
returns-then-size-at c = sym (writer_past c.args.size c.args.at c.args.fragments.now.entries c.requires.laid c.if-size-at.true)

pub holding-requires-clause-laid : goal.holding-requires-clause-laid
holding-requires-clause-laid c = are_laid_grown 0 c.args.size file_max c.args.fragments.now.entries c.requires.laid c.requires.small

pub returns-in_err-fragment : goal.returns-in_err-fragment
returns-in_err-fragment c = c.from_residual.ensures ∙ sym (writer_in_hole c.args.size c.args.at c.args.fragments.now.entries c.requires.laid c.in_err-fragment.ensures.none c.if-size-at.false)

pub returns : goal.returns
returns c =
    let there = c.in_ok-fragment.ensures.there in
    sym (writer_in_fragment c.args.size c.in_ok-fragment.field-0-0 c.args.at c.in_ok-fragment.fragment.now c.args.fragments.now.entries c.requires.laid there.0 there.1 there.2)
