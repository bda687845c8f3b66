use Rattle.std.proofs.Common.{List, ℕ, T, ap, subst, sym, ◌∙◌}
use Rattle.jffs_inodes.specs.Held.{Held}
use Rattle.jffs_tree.specs.Origin.{state_in}
use Rattle.jffs_tree.specs.Check.{names_differ}
use Rattle.jffs_tree.proofs.listing.Apart.{apart_exactly}
use Rattle.jffs_tree.proofs.tree.Tree.names_differ.Goals as goal

pub returns : goal.returns
returns c =
    c.are_apart.ensures.apart
    ∙ apart_exactly c.self.inside.inodes c.self.inside.children.keys (subst T (sym c.self.invariant.ordered) tt) c.self.invariant.indexed c.are_apart.ensures.ordered
    ∙ ap (λ (t : List (ℕ × Held)). names_differ (state_in t)) c.self.view_is
