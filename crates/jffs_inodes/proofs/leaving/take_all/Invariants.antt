use Rattle.std.proofs.Common.{length}
use Rattle.jffs_inodes.specs.Fragments.{AreShort, MovesAmounts}
use Rattle.jffs_inodes.proofs.leaving.take_all.Given as goal

-- the fragments that are left, and the marks that are left for them
abbrev pub invariant-loop-gone : goal.invariant-loop-gone
invariant-loop-gone l = record {
  short : AreShort l.fragments.entries;
  moved : MovesAmounts l.fn.marks l.marks l.inode l.fn.fragments.entries l.fragments.entries;
}

abbrev pub decreases-loop-gone : goal.decreases-loop-gone
decreases-loop-gone l = length l.fragments.entries
