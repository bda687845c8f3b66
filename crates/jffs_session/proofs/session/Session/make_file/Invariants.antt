-- So many first bytes of the file are written.
use Rattle.std.proofs.Common.{◌≡◌, ◌≤◌, ◌-◌, false, take, length}
use Rattle.jffs_session.specs.Session.{IsMounted, files}
use Rattle.jffs_session.specs.Put.{IsAdded}
use Rattle.jffs_session.proofs.session.Session.make_file.Given as goal

abbrev pub invariant-loop-done : goal.invariant-loop-done
invariant-loop-done g l = record {
  in_range : l.done ≤ length l.bytes;
  mounted : IsMounted l.self.core;
  works : l.self.core.failed ≡ false;
  begun : l.self.begun ≡ l.fn.self.begun;
  added : IsAdded l.path (take l.done l.bytes) (files l.fn.self.core) (files l.self.core);
}

abbrev pub decreases-loop-done : goal.decreases-loop-done
decreases-loop-done g l = length l.bytes - l.done
