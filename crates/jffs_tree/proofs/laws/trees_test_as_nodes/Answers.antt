use Rattle.jffs_tree.proofs.trees.Tested.{trees_test_as_nodes as by_parts}
use Rattle.jffs_tree.proofs.laws.trees_test_as_nodes.Goals as goal

pub returns : goal.returns
returns c = by_parts
