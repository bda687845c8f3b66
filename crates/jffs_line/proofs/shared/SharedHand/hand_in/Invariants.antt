use Rattle.std.proofs.Common.{◌≡◌}
use Rattle.crossbeam_channel.specs.Claims.{view}
use Rattle.jffs_line.specs.Requests.{request}
use Rattle.jffs_line.specs.Shared.{shared_line}
use Rattle.jffs_line.proofs.shared.SharedHand.hand_in.Given as goal

abbrev pub invariant-loop : goal.invariant-loop
invariant-loop g l = record {
  hand : (l.self.number ≡ l.fn.self.number) × (l.self.last ≡ l.fn.self.last) × (l.self.sends ≡ l.fn.self.sends);
  line : shared_line l.self ≡ shared_line l.fn.self;
  known : view l.self.pass ≡ view l.fn.self.pass;
  request : l.request ≡ request l.fn.self.number l.seq l.fn.wish;
}
