use Rattle.jffs_log.proofs.rooms.Weight.{weight_kept}
use Rattle.jffs_log.proofs.laws.weight_is_kept.Goals as goal

pub returns : goal.returns
returns c = weight_kept
