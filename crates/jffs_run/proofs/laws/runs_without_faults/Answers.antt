use Rattle.jffs_run.proofs.ends.Scanning.{runs_without_faults}
use Rattle.jffs_run.proofs.laws.runs_without_faults.Goals as goal

pub returns : goal.returns
returns c = runs_without_faults
