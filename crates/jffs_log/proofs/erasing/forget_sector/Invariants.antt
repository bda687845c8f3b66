use Rattle.std.proofs.Common.{◌≡◌, length}
use Rattle.jffs_log.specs.LogIndex.{from_other}
use Rattle.jffs_log.proofs.erasing.forget_sector.Given as goal

abbrev pub invariant-loop-entry : goal.invariant-loop-entry
invariant-loop-entry l = from_other l.sector l.records.items ≡ from_other l.sector l.initial.records.items

abbrev pub decreases-loop-entry : goal.decreases-loop-entry
decreases-loop-entry l = length l.records.items
