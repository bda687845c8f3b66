use Rattle.std.proofs.Common.{ap}
use Rattle.jffs_line.proofs.Steps.{takes, learns}
use Rattle.jffs_line.proofs.shared.SharedTakerTaker.take.Goals as goal

pub try_recv_as-requires-clause-rule : goal.try_recv_as-requires-clause-rule
try_recv_as-requires-clause-rule g c = (takes _ _ (ap (λ v. v.takes) c.loop.self.known), learns _ _)

pub recv_as-requires-clause-rule : goal.recv_as-requires-clause-rule
recv_as-requires-clause-rule g c = (takes _ _ (ap (λ v. v.takes) c.loop.self.known), learns _ _)
