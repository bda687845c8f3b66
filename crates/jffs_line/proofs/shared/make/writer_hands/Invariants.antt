use Rattle.std.proofs.Common.{◌≡◌, ◌+◌, ◌-◌, [], true}
use Rattle.crossbeam_channel.specs.Claims.{view, IsSeatAt}
use Rattle.crossbeam_channel.specs.Ends.{sends_on, ruled_capacity}
use Rattle.jffs_line.specs.InOrder.{knows, silent}
use Rattle.jffs_line.specs.Shared.{channel_line, AreFirstWriters}
use Rattle.jffs_line.proofs.shared.make.writer_hands.Given as goal

abbrev pub invariant-loop-index : goal.invariant-loop-index
invariant-loop-index l = record {
  seat : IsSeatAt (sends_on l.sends) l.pass;
  rest : view l.pass ≡ knows true [] (silent (l.index + 1) (8 - l.index));
  writers : AreFirstWriters (channel_line (sends_on l.sends)) (ruled_capacity (sends_on l.sends)) l.index l.hands.items;
}
