use Rattle.jffs_inodes.proofs.files.Comparing.{few_writers}
use Rattle.jffs_inodes.proofs.inode.Inode.newest.Goals as goal

pub returns-clause-few : goal.returns-clause-few
returns-clause-few c = few_writers c.self.inside c.args.self.now c.self.invariant c.self.view_is
