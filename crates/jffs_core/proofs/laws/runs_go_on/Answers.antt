use Rattle.jffs_core.proofs.answers.Lawful.{run_goes_on}
use Rattle.jffs_core.proofs.laws.runs_go_on.Goals as goal

pub returns : goal.returns
returns c = run_goes_on
