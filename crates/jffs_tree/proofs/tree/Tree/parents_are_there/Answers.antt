use Rattle.jffs_tree.specs.State.{is_directory_in}
use Rattle.jffs_tree.specs.Origin.{state_in}
use Rattle.jffs_tree.proofs.trees.InOrder.{same_tests}
use Rattle.jffs_tree.proofs.tree.Tree.parents_are_there.Goals as goal

pub loop-found-init : goal.loop-found-init
loop-found-init c = record {
  can_next = tt;
  is_finite = tt;
  left = same_tests (λ e. is_directory_in (state_in c.args.self.now) e.1.parent) c.into_iter-found-iterator.result c.iter-found-items.result c.self.inside.inodes c.args.self.now
      c.into_iter-found-iterator.ensures.into_iter_gives c.iter-found-items.ensures.all c.self.view_is;
}
