use Rattle.std.proofs.Common.{ℕ, List, T, subst, sym, nat_cmp, ◌∙◌}
use Rattle.std.specs.FinMap.Entries as entries
use Rattle.jffs_inodes.specs.Held.{Held}
use Rattle.jffs_tree.proofs.listing.Near.{near_exactly}
use Rattle.jffs_tree.proofs.tree.Tree.paths_are_short.Goals as goal

pub returns : goal.returns
returns c =
    let sorted : T (entries.is_sorted nat_cmp c.args.self.now) =
    subst (λ (t : List (ℕ × Held)). T (entries.is_sorted nat_cmp t)) c.self.view_is (subst T (sym c.self.invariant.ordered) tt) in
    c.parents_are_near.ensures ∙ near_exactly c.args.self.now sorted
