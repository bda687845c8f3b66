use Rattle.std.proofs.Common.{◌≡◌, ◌++◌, map}
use Rattle.crossbeam_channel.specs.Claims.{view, IsSeatAt}
use Rattle.crossbeam_channel.specs.Ends.{sends_on}
use Rattle.jffs_line.specs.InOrder.{knows}
use Rattle.jffs_line.specs.Shared.{hand_sent}
use Rattle.jffs_line.proofs.shared.settling.give_all_back.Given as goal

abbrev pub invariant-loop-hand : goal.invariant-loop-hand
invariant-loop-hand l = record {
  seat : IsSeatAt (sends_on l.sends) l.pass;
  joined : view l.pass ≡ knows (view l.fn.pass).takes (view l.fn.pass).taken ((view l.fn.pass).sent ++ map hand_sent l.yielded);
}
