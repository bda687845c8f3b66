use Rattle.std.proofs.Common.{ℕ, List, ap, sym, ◌∙◌}
use Rattle.jffs_inodes.specs.Held.{Held}
use Rattle.jffs_inodes.specs.Inodes.{held_in, without_inode}
use Rattle.jffs_inodes.proofs.InOrder.{found_in_order, one_gone}
use Rattle.jffs_inodes.proofs.inodes.Inodes.remove.Goals as goal

pub returns-clause-gone : goal.returns-clause-gone
returns-clause-gone c =
    c.remove.ensures.value ∙ sym (found_in_order c.args.number c.self.inside.by_number.entries)
    ∙ ap (λ (t : List (ℕ × Held)). held_in t c.args.number) c.self.view_is

pub returns-clause-left : goal.returns-clause-left
returns-clause-left c =
    one_gone c.self.inside.by_number.entries c.remove.new.self.entries c.args.number c.remove.ensures.updates.0
    ∙ ap (λ (t : List (ℕ × Held)). without_inode t c.args.number) c.self.view_is
