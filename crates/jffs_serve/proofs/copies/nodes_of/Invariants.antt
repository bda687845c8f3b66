use Rattle.std.proofs.Common.{◌-◌, List, ◌++◌}
use Rattle.jffs_node.specs.declared.node.Node.{Node}
use Rattle.jffs_node.specs.Reading.{reading_of}
use Rattle.jffs_serve.specs.Copies.{AreSome}
use Rattle.jffs_serve.specs.Copying.{nodes_in}
use Rattle.jffs_serve.proofs.copies.nodes_of.Given as goal

-- some of the nodes that are left to come, after those that there are, are some of all
abbrev pub invariant-loop-done : goal.invariant-loop-done
invariant-loop-done l = record {
  nodes : (more : List Node) → AreSome more (reading_of (l._done-end - l._done) l.record_max l.rest).nodes
      → AreSome (l.nodes.items ++ more) (nodes_in l.fn.image);
}
