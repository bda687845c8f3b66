use Rattle.jffs_flash.specs.Device.{IsWhole}
use Rattle.std.proofs.Common.{subst}
use Rattle.jffs_queue.specs.Queue.{Queued, seen_device}
use Rattle.jffs_queue.proofs.Carrying.{length-carried_out}
use Rattle.jffs_queue.proofs.queue.QueuedFlashFlash.sectors.Goals as goal

pub returns-clause-whole : goal.returns-clause-whole
returns-clause-whole c =
    let f = c.self.inside in
    let P : Queued → Type 0 = λ q. IsWhole (seen_device q) in
    subst P c.self.view_is (length-carried_out f.medium.sectors f.medium.sector_size f.calls.items f.medium.image c.self.invariant.whole c.self.invariant.inside)
