use Rattle.std.proofs.Common.{◌≡◌, drop}
use Rattle.jffs_queue.specs.Queue.{seen_device}
use Rattle.jffs_queue.proofs.queue.QueuedFlash.first_carried_out.Given as goal

-- each round takes one call out of the queue
abbrev pub invariant-loop : goal.invariant-loop
invariant-loop l = record {
  seen : seen_device l.self ≡ seen_device l.initial.self;
  kept : l.self.calls ≡ drop l.counter l.initial.self.calls;
}
