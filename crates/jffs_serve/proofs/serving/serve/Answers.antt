use Rattle.std.proofs.Common.{rules, ◌∙◌, refl, sym, subst, Option, Some, None}
use Rattle.jffs_index.specs.Ends.{all_put}
use Rattle.jffs_serve.specs.declared.session.Served.{Served}
use Rattle.jffs_serve.specs.declared.session.Unmounted.{Unmounted}
use Rattle.jffs_serve.specs.PendingStep.{served_by}
use Rattle.jffs_serve.specs.Answered.{RepliesMore}
use Rattle.jffs_serve.proofs.Replying.{then_more, then_same}
use Rattle.jffs_serve.proofs.Beginning.{begun, begun_short}
use Rattle.jffs_serve.proofs.Stopping.{not_ended}
use Rattle.jffs_serve.proofs.Showing.{answered_can, tidied_can, ready_at_once}
use Rattle.jffs_serve.proofs.serving.serve.Goals as goal
use Rattle.jffs_serve.proofs.serving.serve.Goals.{In_default, After-tidy}

-- a request was answered, or a step was unsent before
answered : (g : _) (c : In_default g) → RepliesMore c.args.session.now (all_put c.args.publisher.now).steps (g.T.Taker.taken c.args.taker.now)
    c.answer_next.new.session (all_put c.loop.publisher).steps (g.T.Taker.taken c.answer_next.new.taker) None
answered g c =
    let steps = (all_put c.loop.publisher).steps in
    then_more c.args.session.now c.loop.session c.answer_next.new.session (all_put c.args.publisher.now).steps steps steps
    (g.T.Taker.taken c.args.taker.now) (g.T.Taker.taken c.loop.taker) (g.T.Taker.taken c.answer_next.new.taker)
    None None refl c.loop.invariant.replies (c.in_default.ensures.replies steps)

-- its step was sent, and the session is tidy
tidied : (g : _) (c : After-tidy g)
    → RepliesMore c.args.session.now (all_put c.args.publisher.now).steps (g.T.Taker.taken c.args.taker.now) c.answer_next.new.session (all_put c.loop.publisher).steps (g.T.Taker.taken c.answer_next.new.taker) None
    → RepliesMore c.args.session.now (all_put c.args.publisher.now).steps (g.T.Taker.taken c.args.taker.now) c.tidy.new.self (all_put c.send_pending.new.publisher).steps (g.T.Taker.taken c.answer_next.new.taker) (served_by c.in-Ok.ending)
tidied g c before_sending =
    let first = (all_put c.args.publisher.now).steps in
    let before = (all_put c.loop.publisher).steps in
    let now = (all_put c.send_pending.new.publisher).steps in
    let start = g.T.Taker.taken c.args.taker.now in
    let taken = g.T.Taker.taken c.answer_next.new.taker in
    let sent = then_more c.args.session.now c.answer_next.new.session c.send_pending.new.session first before now
    start taken taken None (served_by c.in-Ok.ending) refl before_sending (c.in-Ok.ensures.replies taken) in
    then_same c.args.session.now c.send_pending.new.session c.tidy.new.self first now start taken (served_by c.in-Ok.ending) sent c.tidy.ensures.replies

pub returns-in-Err-clause-served : goal.returns-in-Err-clause-served
returns-in-Err-clause-served g c = record {
  replies =
      let steps = (all_put c.loop.publisher).steps in
      then_more c.args.session.now c.loop.session c.answer_next.new.session
      (all_put c.args.publisher.now).steps steps steps
      (g.T.Taker.taken c.args.taker.now) (g.T.Taker.taken c.loop.taker) (g.T.Taker.taken c.answer_next.new.taker)
      None (Some c.in-Err.served) refl c.loop.invariant.replies (c.in-Err.ensures.replies steps);
  published = search rules;
  index = search rules;
  opening = search rules;
}

pub returns-in_default-send_pending-clause-served : goal.returns-in_default-send_pending-clause-served
returns-in_default-send_pending-clause-served g c = record {
  replies =
      let taken = g.T.Taker.taken c.answer_next.new.taker in
      then_more c.args.session.now c.answer_next.new.session c.send_pending.new.session
      (all_put c.args.publisher.now).steps (all_put c.loop.publisher).steps (all_put c.send_pending.new.publisher).steps
      (g.T.Taker.taken c.args.taker.now) taken taken
      None None refl (answered g (goal.at.returns-in_default-send_pending-clause-served g c).In_default) (c.in_default-send_pending.ensures.replies taken);
  published = search rules;
  index = search rules;
  opening = search rules;
}

pub returns-in-Some-ending-clause-served : goal.returns-in-Some-ending-clause-served
returns-in-Some-ending-clause-served g c = record {
  replies =
      subst (λ (s : Served). RepliesMore c.args.session.now (all_put c.args.publisher.now).steps (g.T.Taker.taken c.args.taker.now) c.tidy.new.self (all_put c.send_pending.new.publisher).steps (g.T.Taker.taken c.answer_next.new.taker) (Some s)) (sym c.served.ensures)
      (subst (λ (e : Option Unmounted). RepliesMore c.args.session.now (all_put c.args.publisher.now).steps (g.T.Taker.taken c.args.taker.now) c.tidy.new.self (all_put c.send_pending.new.publisher).steps (g.T.Taker.taken c.answer_next.new.taker) (served_by e))
      c.in-Some-ending.is (tidied g (goal.at.returns-in-Some-ending-clause-served g c).After-tidy (answered g (goal.at.returns-in-Some-ending-clause-served g c).In_default)));
  published = search rules;
  index = search rules;
  opening = search rules;
}

pub loop-preserved : goal.loop-preserved
loop-preserved g c = record {
  can = search rules;
  ends = search rules;
  ready = tidied_can c.send_pending.new.session c.tidy.new.self c.send_pending.new.publisher c.tidy.ensures.replies.2 c.tidy.ensures.tree c.send_pending.ensures.ready;
  sent = ready_at_once _ _ (c.in-Ok.ensures.sent.1);
  replies = subst (λ (e : Option Unmounted). RepliesMore c.args.session.now (all_put c.args.publisher.now).steps (g.T.Taker.taken c.args.taker.now) c.tidy.new.self (all_put c.send_pending.new.publisher).steps (g.T.Taker.taken c.answer_next.new.taker) (served_by e))
      c.in_default-ending.is (tidied g (goal.at.loop-preserved g c).After-tidy (answered g (goal.at.loop-preserved g c).In_default));
  line = search rules;
  index = search rules;
  opening = search rules;
}

pub send_pending-requires : goal.send_pending-requires
send_pending-requires g c = record { ready = answered_can c.loop.session c.answer_next.new.session c.loop.publisher c.answer_next.ensures.shown c.loop.invariant.ready }

pub returns-in-Err-clause-ready : goal.returns-in-Err-clause-ready
returns-in-Err-clause-ready g c = answered_can c.loop.session c.answer_next.new.session c.loop.publisher c.answer_next.ensures.shown c.loop.invariant.ready

pub returns-in-Some-ending-clause-ready : goal.returns-in-Some-ending-clause-ready
returns-in-Some-ending-clause-ready g c =
    tidied_can c.send_pending.new.session c.tidy.new.self c.send_pending.new.publisher c.tidy.ensures.replies.2 c.tidy.ensures.tree c.send_pending.ensures.ready

pub returns-then-is_err-clause-served : goal.returns-then-is_err-clause-served
returns-then-is_err-clause-served g c = record {
  replies = begun_short c.args.session.now c.args.publisher.now c.publish.new.self (g.T.Taker.taken c.args.taker.now) c.publish.ensures.all;
  published = search rules;
  index = search rules;
  opening = search rules;
}

pub loop-init : goal.loop-init
loop-init g c = record {
  can = search rules;
  ends = search rules;
  ready = search rules;
  sent = let e = c.publish.ensures.published in ready_at_once _ _ (search rules);
  replies = begun c.args.session.now c.args.publisher.now c.publish.new.self (g.T.Taker.taken c.args.taker.now) c.publish.ensures.all;
  line = search rules;
  index = search rules;
  opening = search rules;
}

pub returns-in-Some-ending-clause-ended : goal.returns-in-Some-ending-clause-ended
returns-in-Some-ending-clause-ended g c is = absurd (not_ended c.in-Some-ending.unmounted (sym c.served.ensures ∙ is))
