use Rattle.std.proofs.Common.{List, ℕ, T, min, ap, subst, sym, ◌∙◌}
use Rattle.jffs_inodes.specs.Held.{Held}
use Rattle.jffs_tree.specs.Look.{marks_in}
use Rattle.jffs_tree.proofs.versions.Totals.{marks_counted}
use Rattle.jffs_tree.proofs.tree.Tree.marks.Goals as goal

pub returns-clause-held : goal.returns-clause-held
returns-clause-held c =
    c.total.ensures.total
    ∙ ap (λ n. min n 4294967295)
    (marks_counted c.self.inside.inodes c.self.inside.marks (subst T (sym c.self.invariant.ordered) tt) c.total.ensures.kept.ordered c.self.invariant.marked c.args.version
    ∙ ap (λ (t : List (ℕ × Held)). marks_in t c.args.version) c.self.view_is)

pub returns-clause-of : goal.returns-clause-of
returns-clause-of c = λ past is. returns-clause-held c ∙ ap (λ (t : List (ℕ × Held)). min (marks_in t c.args.version) 4294967295) is
