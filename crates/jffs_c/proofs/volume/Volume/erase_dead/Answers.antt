-- The session erased so many sectors.
use Rattle.std.proofs.Common.{refl, ap, Ok}
use Rattle.jffs_c.specs.Volume.{VolumeState}
use Rattle.jffs_c.proofs.Asking.{erased}
use Rattle.jffs_c.proofs.volume.Volume.erase_dead.Goals as goal

pub returns-in-Ok-clause-erased : goal.returns-in-Ok-clause-erased
returns-in-Ok-clause-erased c = λ _. record {
  ended = Ok c.in-Ok.field-0;
  told = refl;
  erasing =
      erased c.args.self.now c.turn.new.self c.self.inside.session.core c.erase_dead-erased.new.self.core (ap (λ (v : VolumeState). v.core) c.self.view_is)
      c.turn.ensures.core (Ok c.in-Ok.field-0) c.in-Ok.ensures.erased;
}
