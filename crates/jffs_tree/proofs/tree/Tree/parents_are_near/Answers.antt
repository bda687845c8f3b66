use Rattle.jffs_tree.specs.Check.{is_near}
use Rattle.jffs_tree.specs.Origin.{state_in}
use Rattle.jffs_tree.proofs.trees.InOrder.{same_tests}
use Rattle.jffs_tree.proofs.tree.Tree.parents_are_near.Goals as goal

pub loop-inode-init : goal.loop-inode-init
loop-inode-init c = record {
  can_next = tt;
  is_finite = tt;
  left = same_tests (is_near (state_in c.args.self.now)) c.into_iter-inode-iterator.result c.iter-inode-items.result c.self.inside.inodes c.args.self.now
      c.into_iter-inode-iterator.ensures.into_iter_gives c.iter-inode-items.ensures.all c.self.view_is;
}
