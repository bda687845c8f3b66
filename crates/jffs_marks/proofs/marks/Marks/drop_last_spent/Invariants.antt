use Rattle.jffs_marks.specs.Marks.{SameMarks}
use Rattle.jffs_marks.proofs.Places.{InOrder}
use Rattle.jffs_marks.proofs.marks.Marks.drop_last_spent.Given as goal

-- what is left is in order, and has the marks that there were
abbrev pub invariant-loop-count : goal.invariant-loop-count
invariant-loop-count l = record {
  ordered : InOrder l.self-inside.counts.items;
  same : SameMarks l.initial.self-inside.counts.items l.self-inside.counts.items;
}

abbrev pub decreases-loop-count : goal.decreases-loop-count
decreases-loop-count l = l.self-inside.counts.len
