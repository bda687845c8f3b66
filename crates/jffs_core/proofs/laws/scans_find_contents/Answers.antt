use Rattle.jffs_core.proofs.scans.Scanning.{scans_find, failed_scans_find, device_scans_find, stopped_scans_find}
use Rattle.jffs_core.proofs.laws.scans_find_contents.Goals as goal

pub returns : goal.returns
returns c = record { works = scans_find; failed = failed_scans_find; device = device_scans_find; stopped = stopped_scans_find }
