use Rattle.std.proofs.Common.{◌≤◌}
use Rattle.jffs_text.proofs.word.spaces_in.Given as goal

abbrev pub invariant-loop-index : goal.invariant-loop-index
invariant-loop-index l = l.spaces ≤ l.index
