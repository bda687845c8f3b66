use Rattle.jffs_log.proofs.erase.Wear.{wear_even, turns_go_on}
use Rattle.jffs_log.proofs.erase.WearOverSessions.{images_fix_first, sessions_wear_evenly}
use Rattle.jffs_log.proofs.laws.wear_is_even.Goals as goal

pub returns : goal.returns
returns c = record { even = wear_even; on = turns_go_on; fixed = images_fix_first; sessions = sessions_wear_evenly }
