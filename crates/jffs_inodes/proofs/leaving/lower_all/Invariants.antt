use Rattle.jffs_inodes.specs.Fragments.{AreShort, MovesAmounts, ascending}
use Rattle.jffs_inodes.proofs.leaving.lower_all.Given as goal

-- the fragments that are left, and the marks that are left for them
abbrev pub invariant-loop-fragment : goal.invariant-loop-fragment
invariant-loop-fragment l = record {
  can_next : (goal.iterator-loop-fragment).can_next l.fragment-iterator;
  is_finite : (goal.iterator-loop-fragment).is_finite l.fragment-iterator;
  short : AreShort (ascending l.fragment-iterator);
  moved : MovesAmounts l.fn.marks l.marks l.inode l.fragments.entries (ascending l.fragment-iterator);
}
