use Rattle.jffs_core.proofs.answers.Contents.{contents_are_state, lawful_runs_grow}
use Rattle.jffs_core.proofs.laws.contents_are_kept.Goals as goal

pub returns : goal.returns
returns c = record { contents = contents_are_state; grows = lawful_runs_grow }
