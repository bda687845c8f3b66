use Rattle.std.proofs.Common.{sym}
use Rattle.jffs_marks.proofs.Searched.{marks_there, no_marks}
use Rattle.jffs_marks.proofs.marks.Marks.at.Goals as goal

pub returns-in-Ok : goal.returns-in-Ok
returns-in-Ok c =
    sym (marks_there _ _ c.self.view_is c.self.invariant.ordered _ _ _ c.index.result.now c.index.ensures c.in-Ok.ensures.there)

pub returns-in-Err : goal.returns-in-Err
returns-in-Err c = sym (no_marks _ _ c.self.view_is c.self.invariant.ordered _ _ _ c.in-Err.ensures.absent)
