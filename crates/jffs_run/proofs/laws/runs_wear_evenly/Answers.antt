use Rattle.jffs_run.proofs.promises.Wear.{runs_wear_evenly}
use Rattle.jffs_run.proofs.laws.runs_wear_evenly.Goals as goal

pub returns : goal.returns
returns c = runs_wear_evenly
