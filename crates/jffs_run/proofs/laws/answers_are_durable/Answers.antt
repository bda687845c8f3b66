use Rattle.jffs_run.proofs.promises.Turns.{answers_are_durable}
use Rattle.jffs_run.proofs.laws.answers_are_durable.Goals as goal

pub returns : goal.returns
returns c = answers_are_durable
