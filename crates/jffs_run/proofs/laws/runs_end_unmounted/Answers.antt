use Rattle.jffs_run.proofs.asked.Unmounting.{runs_end_unmounted}
use Rattle.jffs_run.proofs.laws.runs_end_unmounted.Goals as goal

pub returns : goal.returns
returns c = runs_end_unmounted
