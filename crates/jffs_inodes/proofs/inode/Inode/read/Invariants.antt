use Rattle.std.proofs.Common.{◌≡◌, ◌≤◌, ◌-◌, ◌++◌, take, drop}
use Rattle.jffs_inodes.proofs.inode.Inode.read.Given as goal

-- what is read so far, and what stood there before
abbrev pub invariant-loop-done : goal.invariant-loop-done
invariant-loop-done l = record {
  within : l.done ≤ l.count;
  read : l.out ≡ take l.done (drop l.start l.self.entry.bytes) ++ drop l.done l.fn.out;
}

abbrev pub decreases-loop-done : goal.decreases-loop-done
decreases-loop-done l = l.count - l.done
