use Rattle.jffs_marks.proofs.Walks.{AreSpentTo}
use Rattle.jffs_marks.proofs.marks.Marks.holder.Given as goal

-- what was passed is spent, or of newer versions
abbrev pub invariant-loop-index : goal.invariant-loop-index
invariant-loop-index l = AreSpentTo l.self l.version l.index
