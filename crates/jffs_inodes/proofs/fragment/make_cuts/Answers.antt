use Rattle.jffs_inodes.proofs.files.SameCells.{same_then, unchanged}
use Rattle.jffs_inodes.proofs.fragment.make_cuts.Goals as goal

pub returns-in_err-split_at-3-clause-same : goal.returns-in_err-split_at-3-clause-same
returns-in_err-split_at-3-clause-same c =
    same_then _ _ _ c.in_ok-split_at.ensures.ok (same_then _ _ _ c.in_ok-split_at-2.ensures.ok (unchanged _ _ c.in_err-split_at-3.ensures.err))

pub returns-in_ok-split_at-3-clause-same : goal.returns-in_ok-split_at-3-clause-same
returns-in_ok-split_at-3-clause-same c =
    same_then _ _ _ c.in_ok-split_at.ensures.ok (same_then _ _ _ c.in_ok-split_at-2.ensures.ok c.in_ok-split_at-3.ensures.ok)

pub returns-in_ok-split_at-3-clause-offset : goal.returns-in_ok-split_at-3-clause-offset
returns-in_ok-split_at-3-clause-offset c =
    c.in_ok-split_at-3.ensures.ok.cuts c.args.node.now.offset (c.in_ok-split_at-2.ensures.ok.cuts c.args.node.now.offset c.in_ok-split_at.ensures.cut)

pub returns-in_ok-split_at-3-clause-end : goal.returns-in_ok-split_at-3-clause-end
returns-in_ok-split_at-3-clause-end c = c.in_ok-split_at-3.ensures.ok.cuts c.args.end c.in_ok-split_at-2.ensures.cut

pub returns-in_default-clause-same : goal.returns-in_default-clause-same
returns-in_default-clause-same c = same_then _ _ _ c.in_ok-split_at.ensures.ok c.in_ok-split_at-2.ensures.ok

pub returns-in_default-clause-offset : goal.returns-in_default-clause-offset
returns-in_default-clause-offset c = c.in_ok-split_at-2.ensures.ok.cuts c.args.node.now.offset c.in_ok-split_at.ensures.cut
