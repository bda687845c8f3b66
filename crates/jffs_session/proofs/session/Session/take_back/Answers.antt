-- What is left once the new file was to be taken back.
use Rattle.std.proofs.Common.{◌≡◌, ◌∙◌, false, true, Ok, Err, sym, ap, subst}
use Rattle.jffs_tree.specs.Decide.{is_there}
use Rattle.jffs_tree.specs.declared.wish.Wish.TheVariants as wishes
use Rattle.jffs_session.specs.Session.{files}
use Rattle.jffs_session.specs.Told.{Changes}
use Rattle.jffs_session.proofs.Endings.{none_left, taken_away, not_taken}
use Rattle.jffs_session.proofs.session.Session.take_back.Goals as goal

pub returns-then-failed-clause-left : goal.returns-then-failed-clause-left
returns-then-failed-clause-left g c = λ start p m works is named nothing s. let fails = sym c.failed.ensures ∙ c.if-failed.true in (fails, s.finds fails)

pub returns-then-not-has-clause-left : goal.returns-then-not-has-clause-left
returns-then-not-has-clause-left g c = λ start p m works is named nothing s.
    let worked = sym c.failed.ensures ∙ c.if-failed.false in
    let none : is_there (files c.args.self.now.core) p.unfinished ≡ false = ap (λ path. is_there (files c.args.self.now.core) path) named ∙ sym c.has.ensures ∙ c.if-not-has.true in
    (worked, none_left start c.args.self.now.core p m works is nothing c.requires.mounted worked s none)

pub returns-in-Ok-clause-left : goal.returns-in-Ok-clause-left
returns-in-Ok-clause-left g c = λ start p m works is named nothing s.
    let worked = sym c.failed.ensures ∙ c.if-failed.false in
    let there : is_there (files c.args.self.now.core) p.unfinished ≡ true = ap (λ path. is_there (files c.args.self.now.core) path) named ∙ sym c.has.ensures ∙ c.if-not-has.false in
    taken_away start c.args.self.now.core p m works is nothing c.requires.mounted worked s there c.remove.new.self.core tt
    (subst (λ path. Changes (wishes.Remove path) (Ok tt) c.args.self.now.core c.remove.new.self.core) (sym named) c.in-Ok.ensures.removed)

pub returns-in-Err-clause-left : goal.returns-in-Err-clause-left
returns-in-Err-clause-left g c = λ start p m works is named nothing s.
    let worked = sym c.failed.ensures ∙ c.if-failed.false in
    let there : is_there (files c.args.self.now.core) p.unfinished ≡ true = ap (λ path. is_there (files c.args.self.now.core) path) named ∙ sym c.has.ensures ∙ c.if-not-has.false in
    not_taken start c.args.self.now.core p m works is nothing c.requires.mounted worked s there c.remove.new.self.core c.in-Err.field-0 c.left.result
    (subst (λ path. Changes (wishes.Remove path) (Err c.in-Err.field-0) c.args.self.now.core c.remove.new.self.core) (sym named) c.in-Err.ensures.removed) c.left.ensures.known c.left.ensures.unseen
