use Rattle.jffs_core.proofs.room.Erasing.{held_most}
use Rattle.jffs_core.proofs.mounted_core.Core.push_answer.Goals as goal

pub returns-clause-held : goal.returns-clause-held
returns-clause-held g c = λ works.
    let v = c.self.inside in
    let past = c.self.invariant.past works in
    held_most past.0 v.log.device.image v.log.index v.tree v.limits v.clean (c.self.invariant.index works) past.1
