use Rattle.std.proofs.Common.{◌∙◌}
use Rattle.jffs_queue.proofs.Carrying.{length-seen, erase_fails, erase_seen}
use Rattle.jffs_queue.proofs.queue.QueuedFlashFlash.erase.Goals as goal

pub returns-in-Ok-clause-device : goal.returns-in-Ok-clause-device
returns-in-Ok-clause-device c =
    erase_seen c.args.sector c.args.self.now _ c.requires (length-seen _ _ c.self.view_is c.self.invariant) c.in-Ok.ensures.added

pub returns-in-Err-clause-device : goal.returns-in-Err-clause-device
returns-in-Err-clause-device c =
    erase_fails c.args.sector c.args.self.now _ c.requires (length-seen _ _ c.self.view_is c.self.invariant) (c.self-2.view_is ∙ c.in-Err.ensures.refused)
