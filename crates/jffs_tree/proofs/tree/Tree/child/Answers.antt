use Rattle.std.proofs.Common.{ℕ, List, T, ap, subst, sym, ◌∙◌}
use Rattle.jffs_inodes.specs.Held.{Held}
use Rattle.jffs_tree.specs.Origin.{state_in}
use Rattle.jffs_tree.specs.State.{child}
use Rattle.jffs_tree.proofs.listing.Standing.{child_found}
use Rattle.jffs_tree.proofs.tree.Tree.child.Goals as goal

pub returns : goal.returns
returns c =
    child_found c.args.parent c.args.name.now c.self.inside.inodes c.self.inside.children.keys (subst T (sym c.self.invariant.ordered) tt) c.self.invariant.indexed
    c.first_named.result c.first_named.ensures.there c.first_named.ensures.least c.first_named.ensures.none
    ∙ ap (λ (t : List (ℕ × Held)). child (state_in t) c.args.parent c.args.name.now) c.self.view_is
