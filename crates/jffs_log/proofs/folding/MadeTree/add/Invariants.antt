use Rattle.std.proofs.Common.{List, ◌++◌, take, reverse}
use Rattle.jffs_node.specs.declared.node.Node.{Node}
use Rattle.jffs_log.specs.ScanFound.{IsMadeBy}
use Rattle.jffs_log.proofs.folding.MadeTree.add.Given as goal

-- the tree of the nodes so far
abbrev pub invariant-loop-node : goal.invariant-loop-node
invariant-loop-node l = (past : List Node) → IsMadeBy past l.fn.self → IsMadeBy (reverse (take l.node-index l.nodes) ++ past) l.self
