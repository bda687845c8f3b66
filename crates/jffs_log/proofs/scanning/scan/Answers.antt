use Rattle.std.proofs.Common.{false, refl, sym, subst}
use Rattle.jffs_flash.specs.Device.{Device}
use Rattle.jffs_log.specs.LogState.{IsLog}
use Rattle.jffs_log.proofs.Seen.{log_holds}
use Rattle.jffs_log.proofs.scanning.scan.Goals as goal

pub invariant_of-result : goal.invariant_of-result
invariant_of-result g c =
    let e = c.in-Ok.ensures in
    let index = c.in-Ok.found.index in
    let P : Device → Type 0 = λ d. IsLog (record { device = d; wear = g.F.Flash.wear c.find_log.new.flash; reads_left = g.F.Flash.reads_left c.find_log.new.flash; index = index; failed = false; erase_failed = false }) in
    subst P (sym e.same) (log_holds _ e.found.sizes e.found.index (λ works. refl))
