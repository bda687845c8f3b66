use Rattle.std.proofs.Common.{◌≡◌, ◌++◌, true}
use Rattle.crossbeam_channel.specs.Claims.{view, IsSeatAt}
use Rattle.crossbeam_channel.specs.Ends.{receives_on}
use Rattle.jffs_line.specs.InOrder.{knows}
use Rattle.jffs_line.proofs.shared.settling.drain.Given as goal

abbrev pub invariant-loop : goal.invariant-loop
invariant-loop g l = record {
  seat : IsSeatAt (receives_on l.receives) l.pass;
  known : view l.pass ≡ knows true ((view l.fn.pass).taken ++ l.waiting.items) (view l.fn.pass).sent;
}
