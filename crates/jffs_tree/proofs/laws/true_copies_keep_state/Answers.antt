use Rattle.jffs_tree.proofs.states.TrueCopy.{true_copy_keeps_state}
use Rattle.jffs_tree.proofs.laws.true_copies_keep_state.Goals as goal

pub returns : goal.returns
returns c = true_copy_keeps_state
