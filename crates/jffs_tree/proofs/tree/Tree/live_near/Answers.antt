use Rattle.std.proofs.Common.{ltb, List, ℕ, ap, ◌∙◌}
use Rattle.jffs_inodes.specs.Held.{Held}
use Rattle.jffs_tree.specs.Look.{holds_version}
use Rattle.jffs_tree.proofs.versions.Finding.{marks_hold}
use Rattle.jffs_tree.proofs.versions.WholeTree.{live_whole}
use Rattle.jffs_tree.proofs.tree.Tree.live_near.Goals as goal

pub returns-clause-held : goal.returns-clause-held
returns-clause-held c =
    ap (λ n. ltb 0 n) (c.at_near.ensures.marks ∙ c.self.invariant.marked c.args.version c.args.inode)
    ∙ marks_hold c.self.inside.inodes c.args.version c.args.inode
    ∙ ap (λ (t : List (ℕ × Held)). holds_version t c.args.inode c.args.version) c.self.view_is

pub returns-clause-whole : goal.returns-clause-whole
returns-clause-whole c = λ past is own. returns-clause-held c ∙ live_whole past c.args.self.now c.args.version c.args.inode is own
