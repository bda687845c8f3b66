use Rattle.std.proofs.Common.{◌≡◌}
use Rattle.crossbeam_channel.specs.Claims.{view}
use Rattle.jffs_line.specs.Shared.{shared_ends}
use Rattle.jffs_line.proofs.shared.SharedTakerTaker.take.Given as goal

abbrev pub invariant-loop : goal.invariant-loop
invariant-loop g l = record {
  ends : shared_ends l.self ≡ shared_ends l.fn.self;
  known : view l.self.pass ≡ view l.fn.self.pass;
}
