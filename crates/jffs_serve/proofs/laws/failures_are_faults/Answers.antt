use Rattle.jffs_serve.proofs.ChainLaws.{failures_are_faults}
use Rattle.jffs_serve.proofs.laws.failures_are_faults.Goals as goal

pub returns : goal.returns
returns c = failures_are_faults
