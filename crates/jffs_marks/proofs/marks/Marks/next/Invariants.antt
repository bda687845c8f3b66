use Rattle.jffs_marks.proofs.Walks.{AreSpentFrom}
use Rattle.jffs_marks.proofs.marks.Marks.next.Given as goal

-- what was passed is spent
abbrev pub invariant-loop-index : goal.invariant-loop-index
invariant-loop-index l = AreSpentFrom l.self l.first l.index

abbrev pub decreases-loop-index : goal.decreases-loop-index
decreases-loop-index l = l.index
