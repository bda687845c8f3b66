use Rattle.std.proofs.Common.{◌-◌, ◌≤◌}
use Rattle.jffs_protocol.specs.Hearing.{TakesCount}
use Rattle.jffs_protocol.proofs.hearing.skip.Given as goal

abbrev pub invariant-loop-left : goal.invariant-loop-left
invariant-loop-left g l = record {
  in_range : l.left ≤ l.count;
  taken : TakesCount (g.R.Read.remaining l.fn.input) (g.R.Read.remaining l.input) (l.count - l.left);
}

abbrev pub decreases-loop-left : goal.decreases-loop-left
decreases-loop-left g l = l.left
