use Rattle.jffs_core.proofs.scans.Scanning.{one_is_erased}
use Rattle.jffs_core.proofs.laws.one_sector_is_erased.Goals as goal

pub returns : goal.returns
returns c = one_is_erased
