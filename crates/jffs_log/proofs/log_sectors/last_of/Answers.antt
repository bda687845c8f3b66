use Rattle.std.proofs.Common.{◌∙◌}
use Rattle.jffs_log.proofs.scans.ScanLog.{last_is}
use Rattle.jffs_log.proofs.log_sectors.last_of.Goals as goal

pub returns : goal.returns
returns c = c.last.ensures.value ∙ last_is c.args.found.now
