-- The core's answer, of the core that stands inside.
use Rattle.std.proofs.Common.{◌∙◌, inl, inr, refl, ap, subst}
use Rattle.jffs_tree.specs.declared.wish.Cause.TheVariants.{Memory}
use Rattle.jffs_tree.specs.declared.wish.Outcome.TheVariants.{Refused}
use Rattle.jffs_core.specs.CoreState.{CoreState}
use Rattle.jffs_session.specs.Session.{SessionState}
use Rattle.jffs_session.specs.Told.{Asks, IsTold}
use Rattle.jffs_session.proofs.Histories.{asks_mounted}
use Rattle.jffs_session.proofs.Telling.{asks_told, asks_failed}
use Rattle.jffs_session.proofs.session.Session.ask_as.Goals as goal

pub invariant_of-self : goal.invariant_of-self
invariant_of-self g c = asks_mounted c.args.wish (Refused Memory) c.self.inside.core c.ask.new.self (inr (refl, c.in_default.ensures.unasked)) c.self.invariant

pub returns-in_default-clause-mounted : goal.returns-in_default-clause-mounted
returns-in_default-clause-mounted g c = asks_mounted c.args.wish (Refused Memory) c.self.inside.core c.ask.new.self (inr (refl, c.in_default.ensures.unasked)) c.self.invariant

pub invariant_of-self-2 : goal.invariant_of-self-2
invariant_of-self-2 g c =
    let asked : Asks c.args.wish c.in-Ok.outcome c.self.inside.core c.ask.new.self = inl (record { writer = c.args.writer; seq = c.args.seq; wish = c.args.wish }, refl, c.in-Ok.ensures.asked) in
    asks_mounted c.args.wish c.in-Ok.outcome c.self.inside.core c.ask.new.self asked c.self.invariant

pub returns-clause-told : goal.returns-clause-told
returns-clause-told g c = λ works.
    let asked : Asks c.args.wish c.in-Ok.outcome c.self.inside.core c.ask.new.self = inl (record { writer = c.args.writer; seq = c.args.seq; wish = c.args.wish }, refl, c.in-Ok.ensures.asked) in
    subst (λ (old : CoreState). IsTold c.args.wish c.in-Ok.outcome old c.ask.new.self) (ap (λ (s : SessionState). s.core) c.self.view_is)
    (asks_told c.args.wish c.in-Ok.outcome c.self.inside.core c.ask.new.self asked c.self.invariant (ap (λ (s : SessionState). s.core.failed) c.self.view_is ∙ works))

pub returns-clause-mounted : goal.returns-clause-mounted
returns-clause-mounted g c =
    let asked : Asks c.args.wish c.in-Ok.outcome c.self.inside.core c.ask.new.self = inl (record { writer = c.args.writer; seq = c.args.seq; wish = c.args.wish }, refl, c.in-Ok.ensures.asked) in
    asks_mounted c.args.wish c.in-Ok.outcome c.self.inside.core c.ask.new.self asked c.self.invariant

pub returns-in_default-clause-failed : goal.returns-in_default-clause-failed
returns-in_default-clause-failed g c = λ failed.
    asks_failed c.args.wish (Refused Memory) c.self.inside.core c.ask.new.self (inr (refl, c.in_default.ensures.unasked)) c.self.invariant (ap (λ (s : SessionState). s.core.failed) c.self.view_is ∙ failed)

pub returns-clause-failed : goal.returns-clause-failed
returns-clause-failed g c = λ failed.
    let asked : Asks c.args.wish c.in-Ok.outcome c.self.inside.core c.ask.new.self = inl (record { writer = c.args.writer; seq = c.args.seq; wish = c.args.wish }, refl, c.in-Ok.ensures.asked) in
    asks_failed c.args.wish c.in-Ok.outcome c.self.inside.core c.ask.new.self asked c.self.invariant (ap (λ (s : SessionState). s.core.failed) c.self.view_is ∙ failed)
