use Rattle.jffs_run.proofs.promises.Heavy.{runs_have_room, turns_have_room}
use Rattle.jffs_run.proofs.laws.runs_have_room.Goals as goal

pub returns : goal.returns
returns c = record { mounted = runs_have_room; at_turn = turns_have_room }
