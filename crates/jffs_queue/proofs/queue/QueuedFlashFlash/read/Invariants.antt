use Rattle.std.proofs.Common.{◌++◌, length}
use Rattle.jffs_queue.specs.Queue.{carried_out}
use Rattle.jffs_queue.proofs.Carrying.{IsUnderway}
use Rattle.jffs_queue.proofs.queue.QueuedFlashFlash.read.Given as goal

-- the buffer shows what the calls so far left
abbrev pub invariant-calls : goal.invariant-calls
invariant-calls l = record {
  can_next : (goal.iterator-calls).can_next l.call-iterator;
  is_finite : (goal.iterator-calls).is_finite l.call-iterator;
  shows : IsUnderway l.fn.self.sectors l.fn.self.sector_size l.at (length l.fn.buffer) l.buffer
      (l.call-iterator.head.now ++ l.call-iterator.wrapped.now) (carried_out l.fn.self.sector_size l.fn.self.calls l.fn.self.medium);
}
