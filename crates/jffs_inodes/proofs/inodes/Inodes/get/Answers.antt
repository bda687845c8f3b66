use Rattle.std.proofs.Common.{ℕ, List, ap, sym, ◌∙◌}
use Rattle.jffs_inodes.specs.Held.{Held}
use Rattle.jffs_inodes.specs.Inodes.{held_in}
use Rattle.jffs_inodes.proofs.InOrder.{found_in_order}
use Rattle.jffs_inodes.proofs.inodes.Inodes.get.Goals as goal

pub returns : goal.returns
returns c =
    c.get.ensures.value ∙ sym (found_in_order c.args.number c.self.inside.by_number.entries)
    ∙ ap (λ (t : List (ℕ × Held)). held_in t c.args.number) c.self.view_is
