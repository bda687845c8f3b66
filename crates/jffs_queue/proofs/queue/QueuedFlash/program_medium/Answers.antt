use Rattle.std.proofs.Common.{◌+◌, ◌*◌, ◌≤◌, length, refl, sym, subst, ◌∙◌, arith}
use Rattle.jffs_flash.specs.Device.{Device, device_of}
use Rattle.jffs_flash.proofs.Bits.{length-programmed}
use Rattle.jffs_queue.specs.Queue.{Queued, IsQueue}
use Rattle.jffs_queue.proofs.Carrying.{is_programmed}
use Rattle.jffs_queue.proofs.queue.QueuedFlash.program_medium.Goals as goal

pub invariant_of-self : goal.invariant_of-self
invariant_of-self c =
    let f = c.self.inside in
    let m = f.medium in
    let P : Device → Type 0 = λ d. IsQueue (record { sectors = d.sectors; sector_size = d.sector_size; medium = d.image; calls = f.calls.items; faults = f.faults; failed_erases = f.failed_erases }) in
    let Q : Queued → Type 0 = λ q. c.args.at + length c.args.bytes.now ≤ q.sectors * q.sector_size in
    let fits = subst Q (sym c.self.view_is) c.requires in
    let is = is_programmed c.args.at c.args.bytes.now c.program-never_fails.result (device_of m.sectors m.sector_size m.image) _ refl c.program-never_fails.ensures.device in
    subst P (sym is) (record {
      whole = length-programmed c.args.at c.args.bytes.now m.image (omega (arith, fits, c.self.invariant.whole)) ∙ c.self.invariant.whole;
      inside = c.self.invariant.inside;
      counted = c.self.invariant.counted;
    })
