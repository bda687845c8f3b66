use Rattle.jffs_marks.proofs.Searched.{split_at_key, split_at_gap}
use Rattle.jffs_marks.proofs.marks.Marks.start.Goals as goal

pub returns-in-Ok : goal.returns-in-Ok
returns-in-Ok c = split_at_key c.args.self.now c.place.ensures.kept.ordered c.args.version c.in-Ok.index c.in-Ok.ensures.there

pub returns-in-Err : goal.returns-in-Err
returns-in-Err c = split_at_gap c.args.self.now c.place.ensures.kept.ordered c.args.version c.in-Err.index c.in-Err.ensures.absent
