use Rattle.jffs_tree.proofs.decisions.Copies.{decides_by_tree, accepted_copies_are_true, cleaning_copies_are_true}
use Rattle.jffs_tree.proofs.laws.decisions_hold.Goals as goal

pub returns : goal.returns
returns c = record { by_tree = decides_by_tree; copies = accepted_copies_are_true; cleaning = cleaning_copies_are_true }
