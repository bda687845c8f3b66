use Rattle.std.proofs.Common.{List, ℕ, T, ap, subst, sym, ◌∙◌}
use Rattle.jffs_inodes.specs.Held.{Held}
use Rattle.jffs_tree.specs.Look.{any_live_in}
use Rattle.jffs_tree.proofs.versions.Finding.{any_told}
use Rattle.jffs_tree.proofs.tree.Tree.any_live.Goals as goal

pub returns-clause-held : goal.returns-clause-held
returns-clause-held c =
    any_told c.self.inside.inodes c.self.inside.marks (subst T (sym c.self.invariant.ordered) tt) c.self.invariant.marked c.args.first c.args.last
    c.any.result c.any.ensures.some c.any.ensures.none
    ∙ ap (λ (t : List (ℕ × Held)). any_live_in t c.args.first c.args.last) c.self.view_is

pub returns-clause-of : goal.returns-clause-of
returns-clause-of c = λ past is. returns-clause-held c ∙ ap (λ (t : List (ℕ × Held)). any_live_in t c.args.first c.args.last) is
