use Rattle.jffs_log.proofs.Histories.{histories_are_scanned, appends_keep_history, cuts_keep_history, erasing_keeps_history}
use Rattle.jffs_log.proofs.scans.MountHistory.{mounts_are_histories}
use Rattle.jffs_log.proofs.laws.histories_stay_lawful.Goals as goal

pub returns : goal.returns
returns c = record { mounted = mounts_are_histories; scanned = histories_are_scanned; appended = appends_keep_history; cut = cuts_keep_history; erased = erasing_keeps_history }
