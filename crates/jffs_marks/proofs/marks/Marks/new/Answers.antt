use Rattle.std.proofs.Common.{subst, sym}
use Rattle.std.specs.List.Sorted.{IsStrictlySortedBy}
use Rattle.jffs_marks.specs.Marks.{Counts}
use Rattle.jffs_marks.proofs.Places.{InOrder}
use Rattle.jffs_marks.proofs.marks.Marks.new.Goals as goal

pub invariant_of-result : goal.invariant_of-result
unfolding IsStrictlySortedBy
invariant_of-result c = record { ordered = subst (λ (t : Counts). InOrder t) (sym c.new.ensures.items) tt }
