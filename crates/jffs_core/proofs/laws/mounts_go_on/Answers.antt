use Rattle.jffs_core.proofs.room.Erasing.{mounts_go_on}
use Rattle.jffs_core.proofs.laws.mounts_go_on.Goals as goal

pub returns : goal.returns
returns c = mounts_go_on
