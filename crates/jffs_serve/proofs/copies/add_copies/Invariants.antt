use Rattle.std.proofs.Common.{take}
use Rattle.jffs_serve.specs.Copies.{AddsSome}
use Rattle.jffs_serve.specs.Copying.{copies_of}
use Rattle.jffs_serve.proofs.copies.add_copies.Given as goal

-- the copies of the nodes so far were added
abbrev pub invariant-loop-node : goal.invariant-loop-node
invariant-loop-node l = record {
  added : AddsSome l.fn.copies.items l.copies.items (copies_of l.fn.view.tree (take l.node-index l.nodes));
}
