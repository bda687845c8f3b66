use Rattle.std.proofs.lemmas.Option.{IfSome_then}
use Rattle.jffs_tree.proofs.versions.Ranged.{is_live, is_dead, IfNone_then}
use Rattle.jffs_tree.proofs.tree.Tree.first_live.Goals as goal

pub returns-clause-live : goal.returns-clause-live
returns-clause-live c =
    IfSome_then c.least.result c.least.ensures.some
    (λ v f. (f.0, f.1, f.2, is_live c.self.inside.inodes c.args.self.now c.self.inside.marks c.self.invariant.marked c.self.view_is v f.0 f.3))

pub returns-clause-least : goal.returns-clause-least
returns-clause-least c =
    IfSome_then c.least.result c.least.ensures.least
    (λ v f w i low less. is_dead c.self.inside.inodes c.args.self.now c.self.inside.marks c.self.invariant.marked c.self.view_is w i (f w i low less))

pub returns-clause-none : goal.returns-clause-none
returns-clause-none c =
    IfNone_then c.least.result c.least.ensures.none
    (λ f v i low le. is_dead c.self.inside.inodes c.args.self.now c.self.inside.marks c.self.invariant.marked c.self.view_is v i (f v i low le))
