use Rattle.jffs_core.proofs.scans.Reading.{mounts_read_once}
use Rattle.jffs_core.proofs.laws.mounts_read_each_byte_once.Goals as goal

pub returns : goal.returns
returns c = mounts_read_once
