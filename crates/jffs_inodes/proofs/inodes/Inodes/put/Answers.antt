use Rattle.std.proofs.Common.{ℕ, List, ap, ◌∙◌}
use Rattle.jffs_inodes.specs.Held.{Held}
use Rattle.jffs_inodes.specs.Inodes.{with_inode}
use Rattle.jffs_inodes.proofs.InOrder.{in_order_ordered, one_put}
use Rattle.jffs_inodes.proofs.inodes.Inodes.put.Goals as goal

pub returns-clause-ok : goal.returns-clause-ok
returns-clause-ok c =
    one_put c.self.inside.by_number.entries c.insert.new.self.entries c.args.number c.args.inode c.in_ok-insert.ensures.updates.0
    ∙ ap (λ (t : List (ℕ × Held)). with_inode t c.args.number c.args.inode) c.self.view_is

pub returns-clause-ordered : goal.returns-clause-ordered
returns-clause-ordered c = in_order_ordered c.insert.new.self.entries
