use Rattle.std.proofs.Common.{◌≡◌, length, is_some, sym, ap, rules, ◌∙◌}
use Rattle.std.proofs.lemmas.Bool.{ne_eqb}
use Rattle.jffs_tree.specs.State.{child}
use Rattle.jffs_tree.specs.Origin.{state_in}
use Rattle.jffs_tree.specs.Decide.{last_name}
use Rattle.jffs_tree.proofs.decisions.Resolving.{led_to_last}
use Rattle.jffs_tree.proofs.tree.Tree.is_taken.Goals as goal

pub returns : goal.returns
returns c =
    let s = state_in c.args.self.now in
    let last : c.in-Some.name.now ≡ last_name c.args.names.now = search rules in
    c.is_some.ensures
    ∙ ap is_some (c.child.ensures ∙ ap (child s c.args.parent) last
    ∙ sym (led_to_last s c.args.names.now c.args.parent (ne_eqb (length c.args.names.now) 0 c.requires.some) c.requires.parent))
