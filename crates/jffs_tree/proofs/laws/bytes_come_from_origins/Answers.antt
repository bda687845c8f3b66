use Rattle.jffs_tree.proofs.states.Sources.{bytes_come_from_origins as by_bytes}
use Rattle.jffs_tree.proofs.laws.bytes_come_from_origins.Goals as goal

pub returns : goal.returns
returns c = by_bytes
