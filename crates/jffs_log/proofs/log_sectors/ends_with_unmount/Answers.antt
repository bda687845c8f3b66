use Rattle.std.proofs.Common.{sym, ap, ◌∙◌}
use Rattle.jffs_log.proofs.scans.ScanLog.{last_is, unmounts, unmounts_last}
use Rattle.jffs_log.proofs.log_sectors.ends_with_unmount.Goals as goal

pub returns-in-Some : goal.returns-in-Some
returns-in-Some c = c.is_unmount.ensures ∙ ap unmounts (c.in-Some.ensures.value ∙ last_is c.args.nodes.now) ∙ sym (unmounts_last c.args.nodes.now)

pub returns-in-None : goal.returns-in-None
returns-in-None c = ap unmounts (c.in-None.ensures.value ∙ last_is c.args.nodes.now) ∙ sym (unmounts_last c.args.nodes.now)
