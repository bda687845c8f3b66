use Rattle.std.proofs.Common.{length}
use Rattle.jffs_log.specs.LogIndex.{layout_in}
use Rattle.jffs_core.proofs.room.Erasing.{IsErasing}
use Rattle.jffs_core.proofs.mounted_core.Core.erase_while_dead.Given as goal

abbrev pub invariant-loop-self : goal.invariant-loop-self
invariant-loop-self g l = IsErasing l.erased l.fn.self l.self

abbrev pub decreases-loop-self : goal.decreases-loop-self
decreases-loop-self g l = length (layout_in l.self.image l.self.index).sectors
