-- The session was asked.
use Rattle.std.proofs.Common.{ap}
use Rattle.jffs_c.specs.Volume.{VolumeState}
use Rattle.jffs_c.proofs.Asking.{asked}
use Rattle.jffs_c.proofs.volume.Volume.ask.Goals as goal

pub returns-clause-asked : goal.returns-clause-asked
returns-clause-asked c = λ _.
    asked c.args.self.now c.turn.new.self c.self.inside.session.core c.ask-outcome.new.self.core (ap (λ (v : VolumeState). v.core) c.self.view_is) c.turn.ensures.core
    c.args.wish c.ask-outcome.result c.answer_of.result c.answer_of.ensures c.ask-outcome.ensures.asked
