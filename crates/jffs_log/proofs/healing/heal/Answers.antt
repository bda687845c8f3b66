use Rattle.std.proofs.Common.{false, refl, sym, subst}
use Rattle.jffs_flash.specs.Device.{Device}
use Rattle.jffs_log.specs.LogState.{IsLog}
use Rattle.jffs_log.proofs.Seen.{log_holds}
use Rattle.jffs_log.proofs.healing.heal.Goals as goal

pub invariant_of-mounted : goal.invariant_of-mounted
invariant_of-mounted g c =
    let e = c.in-Ok.ensures in
    let index = c.in-Ok.field-0.found.index in
    let P : Device → Type 0 = λ d. IsLog (record { device = d; wear = g.F.Flash.wear c.find_healed.new.flash; reads_left = g.F.Flash.reads_left c.find_healed.new.flash; index = index; failed = false; erase_failed = false }) in
    subst P (sym e.same) (log_holds _ e.found.sizes e.found.index (λ works. refl))
