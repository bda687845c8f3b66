use Rattle.std.proofs.Common.{◌≡◌, true, false, Some, rules, ◌∙◌}
use Rattle.std.specs.Option.{option_map_or}
use Rattle.jffs_node.specs.Record.{is_directory}
use Rattle.jffs_inodes.specs.Inodes.{held_in}
use Rattle.jffs_tree.specs.Look.{kind_in}
use Rattle.jffs_tree.proofs.trees.Looked.{directory_in}
use Rattle.jffs_tree.proofs.decisions.There.{entry_found}
use Rattle.jffs_tree.proofs.tree.Tree.file.Goals as goal

pub returns-then-eq-clause-other : goal.returns-then-eq-clause-other
returns-then-eq-clause-other c =
    let kind : true ≡ option_map_or is_directory (kind_in c.args.self.now c.args.inode) false = search rules in
    kind ∙ directory_in c.args.self.now c.args.inode

pub returns-clause-other : goal.returns-clause-other
returns-clause-other c =
    let kind : false ≡ option_map_or is_directory (kind_in c.args.self.now c.args.inode) false = search rules in
    kind ∙ directory_in c.args.self.now c.args.inode

pub returns-clause-entry : goal.returns-clause-entry
returns-clause-entry c =
    let held : held_in c.args.self.now c.args.inode ≡ Some c.in_ok-found.found.now = search rules in
    entry_found c.args.self.now c.args.inode c.in_ok-found.found.now held
