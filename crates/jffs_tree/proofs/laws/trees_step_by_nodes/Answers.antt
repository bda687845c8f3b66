use Rattle.jffs_tree.proofs.trees.Grown.{tree_steps}
use Rattle.jffs_tree.proofs.laws.trees_step_by_nodes.Goals as goal

pub returns : goal.returns
returns c = tree_steps
