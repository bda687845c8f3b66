use Rattle.std.proofs.Common.{◌≡◌, ℕ, Bool, ◌&&◌, ◌||◌, eqb, List, T, rules, ap, subst, sym, ◌∙◌}
use Rattle.std.specs.List.{list_any}
use Rattle.jffs_node.specs.Record.{is_directory}
use Rattle.jffs_inodes.specs.Held.{Held}
use Rattle.jffs_tree.specs.State.{is_directory_in}
use Rattle.jffs_tree.specs.Origin.{state_in}
use Rattle.jffs_tree.proofs.listing.Standing.{any_found}
use Rattle.jffs_tree.proofs.trees.Looked.{directory_found}
use Rattle.jffs_tree.proofs.tree.Tree.has_names.Goals as goal
use Rattle.jffs_tree.proofs.tree.Tree.has_names.Goals.{After-self, then-inode-eq-ROOT, else-inode-eq-ROOT}

directory : (c : After-self) → c.if-inode-eq-ROOT.value ≡ is_directory_in (state_in c.args.self.now) c.args.inode
directory c =
    let kind : c.if-inode-eq-ROOT.value ≡ (eqb c.args.inode 1 || is_directory c.args.found.now.entry.kind) = search rules in
    kind ∙ sym (directory_found c.args.self.now c.args.inode c.args.found.now c.requires)

pub returns-then-eq : goal.returns-then-eq
returns-then-eq c =
    let named : List (ℕ × Held) → Bool = λ t. list_any (λ e. eqb e.1.parent c.args.inode) (state_in t) in
    any_found c.args.inode c.self.inside.inodes c.self.inside.children.keys (subst T (sym c.self.invariant.ordered) tt) c.self.invariant.indexed
    c.any_named.result c.any_named.ensures.some c.any_named.ensures.none
    ∙ ap named c.self.view_is
    ∙ ap (λ b. b && named c.args.self.now) (sym c.if-eq.true ∙ directory (goal.at.returns-then-eq c).After-self)

pub returns-else-eq : goal.returns-else-eq
returns-else-eq c =
    let other = sym c.if-eq.false ∙ directory (goal.at.returns-else-eq c).After-self in
    c.if-eq.false ∙ ap (λ b. b && list_any (λ e. eqb e.1.parent c.args.inode) (state_in c.args.self.now)) other
