use Rattle.std.proofs.Common.{ℕ, List, T, option_map, ap, subst, sym, ◌∙◌}
use Rattle.jffs_inodes.specs.Held.{Held}
use Rattle.jffs_tree.specs.Origin.{holder}
use Rattle.jffs_inodes.specs.Inodes.{held_in}
use Rattle.jffs_tree.proofs.versions.Finding.{none_told, some_told}
use Rattle.jffs_tree.proofs.tree.Tree.holder.Goals as goal

pub returns-in_err-inode : goal.returns-in_err-inode
returns-in_err-inode c =
    ap (λ o. option_map (λ f. (f.0, f.1.now)) o) c.from_residual.ensures
    ∙ sym (
    ap (λ (t : List (ℕ × Held)). holder t c.args.version) (sym c.self.view_is)
    ∙ none_told c.self.inside.inodes c.self.inside.marks (subst T (sym c.self.invariant.ordered) tt) c.self.invariant.marked c.args.version c.in_err-inode.ensures.none)

pub returns : goal.returns
returns c =
    sym (
    ap (λ (t : List (ℕ × Held)). holder t c.args.version) (sym c.self.view_is)
    ∙ some_told c.self.inside.inodes c.self.inside.marks (subst T (sym c.self.invariant.ordered) tt) c.self.invariant.marked c.args.version c.in_ok-inode.inode c.present.result.now
    (ap (λ (t : List (ℕ × Held)). held_in t c.in_ok-inode.inode) c.self.view_is ∙ c.present.ensures.held)
    c.in_ok-inode.ensures.there
    c.in_ok-inode.ensures.least)
