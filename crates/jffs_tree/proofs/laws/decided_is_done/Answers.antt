use Rattle.jffs_tree.proofs.decisions.Done.{decided_is_done as by_parts, new_inodes_are_free}
use Rattle.jffs_tree.proofs.laws.decided_is_done.Goals as goal

pub returns : goal.returns
returns c = record { done = by_parts; free = new_inodes_are_free }
