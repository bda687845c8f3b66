use Rattle.std.proofs.Common.{sym, ◌∙◌}
use Rattle.std.proofs.lemmas.Bool.{and_parts}
use Rattle.jffs_tree.specs.After.{keeps_kind_in}
use Rattle.jffs_inodes.specs.Inodes.{keeps_offsets_in}
use Rattle.jffs_tree.proofs.trees.Applied.{lawful_suits}
use Rattle.jffs_tree.proofs.tree.Tree.can_apply.Goals as goal

pub returns-then-is_lawful-clause-suits : goal.returns-then-is_lawful-clause-suits
returns-then-is_lawful-clause-suits c = λ fits.
    let tree = c.args.self.now in
    let n = c.args.node.now in
    lawful_suits tree n (sym c.is_lawful.ensures ∙ c.if-is_lawful.true) (and_parts (keeps_kind_in tree n) (keeps_offsets_in tree n) (sym c.keeps_kind_and_offsets.ensures ∙ fits)).1
