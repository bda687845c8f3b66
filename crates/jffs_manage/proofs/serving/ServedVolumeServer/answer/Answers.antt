-- Where memory lacked before anything was asked, nothing is changed.
use Rattle.std.proofs.Common.{inl, refl}
use Rattle.std.proofs.lemmas.Bool.{both_ways}
use Rattle.jffs_core.specs.CoreState.{CoreState}
use Rattle.jffs_manage.specs.declared.wanting.Wanted.{Wanted}
use Rattle.jffs_manage.specs.declared.wanting.Wanted.TheVariants as wanted
use Rattle.jffs_manage.specs.Wanting.{wanted_of}
use Rattle.jffs_manage.specs.Manner.{LacksMemory}
use Rattle.jffs_manage.proofs.serving.ServedVolumeServer.answer.Goals as goal

unasked : (w : Wanted) (c : CoreState) → LacksMemory w c c
unasked (wanted.Change wish) c =
    record { asked = inl refl; changes = λ works. (works, λ w. refl, λ fails. absurd (both_ways c.failed works fails)) }
unasked _ c = refl

pub returns-in-Err : goal.returns-in-Err
returns-in-Err g c = unasked (wanted_of c.args.ask c.args.body.now) c.args.self.now.volume.core
