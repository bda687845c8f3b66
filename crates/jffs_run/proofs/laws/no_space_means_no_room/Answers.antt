use Rattle.jffs_run.proofs.promises.Turns.{no_space_means_no_room}
use Rattle.jffs_run.proofs.laws.no_space_means_no_room.Goals as goal

pub returns : goal.returns
returns c = no_space_means_no_room
