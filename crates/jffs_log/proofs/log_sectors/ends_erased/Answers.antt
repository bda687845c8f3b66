use Rattle.std.proofs.Common.{sym, ap, ◌∙◌}
use Rattle.jffs_log.proofs.scans.ScanLog.{ends_blank, blank_last}
use Rattle.jffs_log.proofs.log_sectors.ends_erased.Goals as goal

pub returns-in-Some : goal.returns-in-Some
returns-in-Some c = c.is_erased.ensures ∙ ap ends_blank c.in-Some.ensures ∙ sym (blank_last c.args.found.now)

pub returns-in-None : goal.returns-in-None
returns-in-None c = ap ends_blank c.in-None.ensures ∙ sym (blank_last c.args.found.now)
