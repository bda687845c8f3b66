use Rattle.std.proofs.Common.{rules, ◌≡◌, true, false, [], ap, refl, Some, None}
use Rattle.jffs_serve.specs.declared.session.Served.TheVariants as served
use Rattle.jffs_serve.proofs.Replying.{nothing_more, nothing_replied, no_reply, replied_capacity, reserved, then_more}
use Rattle.jffs_serve.proofs.Stopping.{nothing_owed, closed_owed}
use Rattle.jffs_serve.proofs.Showing.{shown_capacity, shown_sent}
use Rattle.jffs_serve.specs.PendingStep.{unput}
use Rattle.jffs_serve.proofs.serving.answer_next.Goals as goal
use Rattle.jffs_serve.proofs.serving.answer_next.Goals.{After-closed}

nothing_unsent : (g : _) (c : After-closed g) → c.args.session.now.unsent ≡ None
nothing_unsent g c = search rules

pub returns-then-is_some-clause-replies : goal.returns-then-is_some-clause-replies
returns-then-is_some-clause-replies g c put = no_reply c.args.session.now put (g.T.Taker.taken c.args.taker.now)

pub returns-then-closed-clause-replies : goal.returns-then-closed-clause-replies
returns-then-closed-clause-replies g c put =
    let old = c.args.session.now in
    let closed : old.core.closed ≡ true = search rules in
    nothing_more _ old.core old.unsent put _ (Some served.Closed) (nothing_replied old put (g.T.Taker.taken c.args.taker.now))
    (closed_owed old.core old.unsent (nothing_unsent g (goal.at.returns-then-closed-clause-replies g c).After-closed) closed)

pub returns-then-is_err-clause-replies : goal.returns-then-is_err-clause-replies
returns-then-is_err-clause-replies g c put =
    reserved c.args.session.now c.reserve_answer.new.self put (g.T.Taker.taken c.args.taker.now) c.reserve_answer.ensures.same

pub returns-in-Some-clause-replies : goal.returns-in-Some-clause-replies
returns-in-Some-clause-replies g c put =
    let old = c.args.session.now in
    let core = c.reserve_answer.new.self in
    let before = g.T.Taker.taken c.args.taker.now in
    let now = g.T.Taker.taken c.take.new.self in
    then_more old (record old { core = core }) c.answer.new.self put put put before before now None None refl
    (reserved old core put before c.reserve_answer.ensures.same) (c.answer.ensures.replies put before now c.in-Some.ensures.taken)

pub returns-in-None-clause-replies : goal.returns-in-None-clause-replies
returns-in-None-clause-replies g c put =
    let old = c.args.session.now in
    let opened : old.core.closed ≡ false = search rules in
    let before = g.T.Taker.taken c.args.taker.now in
    nothing_more _ _ old.unsent put _ (Some served.Ended)
    (replied_capacity _ old.core _ old.unsent put before _ [] c.reserve_answer.ensures.same c.in-None.ensures.none (nothing_replied old put before))
    (nothing_owed old.core old.unsent (nothing_unsent g (goal.at.returns-in-None-clause-replies g c).After-closed) opened)

pub returns-then-is_err-clause-shown : goal.returns-then-is_err-clause-shown
returns-then-is_err-clause-shown g c shown is = shown_capacity c.args.session.now.unsent shown c.args.session.now.core _ c.reserve_answer.ensures.same is

pub returns-in-None-clause-shown : goal.returns-in-None-clause-shown
returns-in-None-clause-shown g c shown is = shown_capacity c.args.session.now.unsent shown c.args.session.now.core _ c.reserve_answer.ensures.same is

pub returns-in-Some-clause-shown : goal.returns-in-Some-clause-shown
returns-in-Some-clause-shown g c shown is =
    let old = c.args.session.now in
    c.answer.ensures.shown shown
    (shown_sent old.unsent shown _ (ap unput (nothing_unsent g (goal.at.returns-in-Some-clause-shown g c).After-closed))
    (shown_capacity old.unsent shown old.core _ c.reserve_answer.ensures.same is))
