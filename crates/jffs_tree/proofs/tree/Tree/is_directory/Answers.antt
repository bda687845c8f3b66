use Rattle.std.proofs.Common.{◌≡◌, true, false, rules, ◌∙◌}
use Rattle.std.specs.Option.{option_map_or}
use Rattle.jffs_node.specs.Record.{is_directory}
use Rattle.jffs_tree.specs.Look.{kind_in}
use Rattle.jffs_tree.proofs.trees.Looked.{directory_in}
use Rattle.jffs_tree.proofs.tree.Tree.is_directory.Goals as goal

pub returns-in-Some-Directory : goal.returns-in-Some-Directory
returns-in-Some-Directory c =
    let kind : true ≡ option_map_or is_directory (kind_in c.args.self.now c.args.inode) false = search rules in
    kind ∙ directory_in c.args.self.now c.args.inode

pub returns-in_default : goal.returns-in_default
returns-in_default c =
    let kind : false ≡ option_map_or is_directory (kind_in c.args.self.now c.args.inode) false = search rules in
    kind ∙ directory_in c.args.self.now c.args.inode

pub returns-in_default-2 : goal.returns-in_default-2
returns-in_default-2 c =
    let kind : false ≡ option_map_or is_directory (kind_in c.args.self.now c.args.inode) false = search rules in
    kind ∙ directory_in c.args.self.now c.args.inode
