use Rattle.std.proofs.Common.{arith}
use Rattle.jffs_marks.proofs.Marking.{lowered_to, none_more}
use Rattle.jffs_marks.proofs.Searched.{marks_there, lowered, rewritten_in_order, no_marks}
use Rattle.jffs_marks.proofs.marks.Marks.lower.Goals as goal

pub returns-in-Err : goal.returns-in-Err
returns-in-Err c =
    let none = no_marks _ _ c.self.view_is c.self.invariant.ordered c.args.version c.args.inode _ c.in-Err.ensures.absent in
    none_more c.args.self.now c.args.version c.args.inode c.args.count (omega (arith, none, c.requires))

pub overflow_sub-index_mut : goal.overflow_sub-index_mut
overflow_sub-index_mut c =
    let is = marks_there _ _ c.self.view_is c.self.invariant.ordered c.args.version c.args.inode _ c.index_mut.result.now c.index_mut.ensures.value c.in-Ok.ensures.there in
    omega (arith, is, c.requires)

pub invariant_of-self : goal.invariant_of-self
invariant_of-self c =
    record { ordered = rewritten_in_order _ _ c.self.view_is c.self.invariant.ordered _ _ _ c.index_mut.result.now c.index_mut.ensures.value c.in-Ok.ensures.there _ }

pub returns : goal.returns
returns c =
    lowered_to c.args.self.now _ c.drop_last_spent.new.self c.args.version c.args.inode c.args.count
    (lowered _ _ c.self.view_is c.self.invariant.ordered _ _ _ c.index_mut.result.now c.index_mut.ensures.value c.in-Ok.ensures.there c.args.count c.requires)
    c.drop_last_spent.ensures
