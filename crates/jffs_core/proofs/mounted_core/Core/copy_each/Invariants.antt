use Rattle.jffs_log.specs.LogIndex.{layout_in}
use Rattle.jffs_log.specs.Cleaning.{oldest_records}
use Rattle.jffs_core.proofs.room.Copying.{IsCopying}
use Rattle.jffs_core.proofs.mounted_core.Core.copy_each.Given as goal

abbrev pub invariant-loop-at : goal.invariant-loop-at
invariant-loop-at g l = IsCopying (oldest_records (layout_in l.fn.self.image l.fn.self.index).sectors) l.at l.copies l.fn.self l.self
