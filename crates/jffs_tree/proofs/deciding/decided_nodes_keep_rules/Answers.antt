use Rattle.jffs_tree.proofs.decisions.Decided.{decided_nodes_keep_rules as by_wish, cleaning_copies_keep_rules}
use Rattle.jffs_tree.proofs.deciding.decided_nodes_keep_rules.Goals as goal

pub returns : goal.returns
returns c = record { decided = by_wish; cleaning = cleaning_copies_keep_rules }
