use Rattle.jffs_run.proofs.promises.Turns.{failed_stays_failed}
use Rattle.jffs_run.proofs.laws.failed_stays_failed.Goals as goal

pub returns : goal.returns
returns c = failed_stays_failed
