use Rattle.jffs_run.proofs.ends.Seeing.{readers_see_answers}
use Rattle.jffs_run.proofs.laws.readers_see_answers.Goals as goal

pub returns : goal.returns
returns c = readers_see_answers
