use Rattle.jffs_run.proofs.promises.Heavy.{space_is_sure, space_is_sure_then}
use Rattle.jffs_run.proofs.laws.space_is_sure.Goals as goal

pub returns : goal.returns
returns c = record { mounted = space_is_sure; at_turn = space_is_sure_then }
