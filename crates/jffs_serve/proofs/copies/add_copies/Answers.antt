use Rattle.std.proofs.Common.{List, subst, take_all}
use Rattle.jffs_node.specs.declared.node.Node.{Node}
use Rattle.jffs_serve.specs.Copies.{AddsSome}
use Rattle.jffs_serve.specs.Copying.{copies_of}
use Rattle.jffs_serve.proofs.Copying.{copies_go_on}
use Rattle.jffs_serve.proofs.copies.add_copies.Goals as goal

pub loop-node-preserved : goal.loop-node-preserved
loop-node-preserved c = record {
  added = copies_go_on c.args.view.now.tree c.args.nodes.now c.loop-node.node-index c.node-item.result c.args.copies.items c.loop-node.copies.items c.keep_copy.new.copies.items
      c.loop-node-test.true c.node-item.is c.keep_copy.ensures c.loop-node.invariant.added;
}

pub returns : goal.returns
returns c = subst (λ (ns : List Node). AddsSome c.args.copies.items c.loop-node.copies.items (copies_of c.args.view.now.tree ns))
    (take_all c.loop-node.node-index c.args.nodes.now c.loop-node-test.false) c.loop-node.invariant.added
