use Rattle.jffs_run.proofs.promises.Work.{runs_work_little}
use Rattle.jffs_run.proofs.laws.runs_work_little.Goals as goal

pub returns : goal.returns
returns c = runs_work_little
