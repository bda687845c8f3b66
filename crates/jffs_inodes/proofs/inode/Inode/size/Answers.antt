use Rattle.jffs_inodes.proofs.files.Comparing.{size_is}
use Rattle.jffs_inodes.proofs.inode.Inode.size.Goals as goal

pub returns : goal.returns
returns c = size_is c.self.inside c.args.self.now c.self.invariant c.self.view_is
