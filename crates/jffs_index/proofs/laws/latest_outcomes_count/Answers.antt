use Rattle.jffs_index.proofs.Entered.{found_entered}
use Rattle.jffs_index.proofs.laws.latest_outcomes_count.Goals as goal

pub returns : goal.returns
returns c = found_entered
