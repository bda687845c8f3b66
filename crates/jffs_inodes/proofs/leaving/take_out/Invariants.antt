use Rattle.std.proofs.Common.{◌≡◌, length}
use Rattle.jffs_inodes.specs.Fragments.{AreShort, MovesAmounts, outside}
use Rattle.jffs_inodes.proofs.leaving.take_out.Given as goal

abbrev pub invariant-loop-first : goal.invariant-loop-first
invariant-loop-first l = record {
  short : AreShort l.fragments.entries;
  left : outside l.from l.to l.fragments.entries ≡ outside l.from l.to l.fn.fragments.entries;
  moved : MovesAmounts l.fn.marks l.marks l.inode l.fn.fragments.entries l.fragments.entries;
}

abbrev pub decreases-loop-first : goal.decreases-loop-first
decreases-loop-first l = length l.fragments.entries
