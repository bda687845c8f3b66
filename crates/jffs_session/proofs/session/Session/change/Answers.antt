-- What became of the wish, and of the erase after it.
use Rattle.std.proofs.Common.{◌∙◌, inl, inr, refl, sym}
use Rattle.std.proofs.lemmas.Bool.{both_ways}
use Rattle.jffs_session.proofs.Telling.{granted, still_done, finds_done, not_both, not_refused}
use Rattle.jffs_session.proofs.session.Session.change.Goals as goal

pub returns-in-Refused-clause-changes : goal.returns-in-Refused-clause-changes
returns-in-Refused-clause-changes g c = λ works. let t = c.in-Refused.ensures.told works in (t.fails, t.done, t.finds)

pub returns-in-Refused-clause-asked : goal.returns-in-Refused-clause-asked
returns-in-Refused-clause-asked g c = inl (record { between = c.ask.new.self.core; answered = c.in-Refused.ensures.asked; tree = λ works. (works, refl) })

pub returns-in-Ok : goal.returns-in-Ok
returns-in-Ok g c = record {
  changes = λ works.
      let done = granted c.args.wish c.ask.result c.args.self.now.core c.ask.new.self.core (c.ask.ensures.told works) c.in_default.not-Refused in
      (c.in-Ok.ensures.fails, still_done c.args.wish c.args.self.now.core c.ask.new.self.core c.erase_dead.new.self.core done (c.in-Ok.ensures.kept done.0) c.in-Ok.ensures.fails);
  asked = (c.ask.result, not_refused c.ask.result c.in_default.not-Refused, record { between = c.ask.new.self.core; answered = c.ask.ensures.asked; tree = c.erase_dead.ensures.tree });
  failed = λ failed. let f = c.ask.ensures.failed failed in absurd (not_both c.ask.result f.refused c.in_default.not-Refused);
  mounted = c.erase_dead.ensures.mounted;
  begun = c.erase_dead.ensures.begun ∙ c.ask.ensures.begun;
}

pub returns-in-Err : goal.returns-in-Err
returns-in-Err g c = record {
  changes = λ works.
      let done = granted c.args.wish c.ask.result c.args.self.now.core c.ask.new.self.core (c.ask.ensures.told works) c.in_default.not-Refused in
      let fails = c.in-Err.ensures.fails in (
        fails.0 ∙ sym fails.1,
        λ w. absurd (both_ways c.erase_dead.new.self.core.failed w fails.0),
        finds_done c.args.wish c.args.self.now.core c.ask.new.self.core c.erase_dead.new.self.core done (c.in-Err.ensures.kept done.0),
      );
  asked = let fails = c.in-Err.ensures.fails in inr (fails.0, (c.ask.result, record { between = c.ask.new.self.core; answered = c.ask.ensures.asked; tree = c.erase_dead.ensures.tree }));
  failed = λ failed. let f = c.ask.ensures.failed failed in absurd (not_both c.ask.result f.refused c.in_default.not-Refused);
  mounted = c.erase_dead.ensures.mounted;
  begun = c.erase_dead.ensures.begun ∙ c.ask.ensures.begun;
}
