use Rattle.std.proofs.Common.{◌<◌, ◌^◌}
use Rattle.jffs_text.proofs.word.number.Given as goal

abbrev pub invariant-loop-digit : goal.invariant-loop-digit
invariant-loop-digit l = l.value < 2 ^ 32
