use Rattle.std.proofs.Common.{◌-◌}
use Rattle.jffs_core.proofs.room.Turning.{IsTurning}
use Rattle.jffs_core.proofs.mounted_core.Core.make_room.Given as goal

abbrev pub invariant-loop-turn : goal.invariant-loop-turn
invariant-loop-turn g l = IsTurning l.len (l.turn-end - l.turn) l.fn.self l.self
