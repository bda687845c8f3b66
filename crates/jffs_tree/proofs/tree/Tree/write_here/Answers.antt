use Rattle.jffs_tree.proofs.trees.Written.{put_there}
use Rattle.jffs_tree.proofs.tree.Tree.write_here.Goals as goal

pub returns-clause-ok : goal.returns-clause-ok
returns-clause-ok c =
    put_there c.self.inside.inodes c.args.self.now c.write_marked.new.inodes c.args.node.now c.self.view_is c.self.invariant.ordered c.in_ok-write_marked.ensures.ok
