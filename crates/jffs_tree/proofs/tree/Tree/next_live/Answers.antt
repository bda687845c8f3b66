use Rattle.std.proofs.lemmas.Option.{IfSome_then}
use Rattle.jffs_tree.proofs.versions.Ranged.{is_live, is_dead, IfNone_then}
use Rattle.jffs_tree.proofs.tree.Tree.next_live.Goals as goal

pub returns-clause-live : goal.returns-clause-live
returns-clause-live c =
    IfSome_then c.next.result c.next.ensures.some
    (λ p f. (f.0, is_live c.self.inside.inodes c.args.self.now c.self.inside.marks c.self.invariant.marked c.self.view_is p.0 p.1 f.1))

pub returns-clause-least : goal.returns-clause-least
returns-clause-least c =
    IfSome_then c.next.result c.next.ensures.least
    (λ p f w i low less. is_dead c.self.inside.inodes c.args.self.now c.self.inside.marks c.self.invariant.marked c.self.view_is w i (f w i low less))

pub returns-clause-none : goal.returns-clause-none
returns-clause-none c =
    IfNone_then c.next.result c.next.ensures.none
    (λ f v i low. is_dead c.self.inside.inodes c.args.self.now c.self.inside.marks c.self.invariant.marked c.self.view_is v i (f v i low))
