use Rattle.std.proofs.Common.{rules, ◌≡◌, [], refl, sym, subst, None}
use Rattle.jffs_index.specs.Ends.{all_put}
use Rattle.jffs_index.specs.declared.rule.History.{History}
use Rattle.jffs_serve.specs.Answered.{RepliesMore}
use Rattle.jffs_serve.specs.PendingStep.{unput, served_by}
use Rattle.jffs_serve.proofs.Replying.{then_more}
use Rattle.jffs_serve.proofs.Showing.{published_can, ending_shown}
use Rattle.jffs_serve.proofs.serving.send_pending.Goals as goal

pub returns-then-is_err-clause-replies : goal.returns-then-is_err-clause-replies
returns-then-is_err-clause-replies g c taken =
    let steps = (all_put c.args.publisher.now).steps in
    subst (λ (h : History). RepliesMore c.args.session.now steps taken c.put_pending.new.session h.steps taken None) (sym c.publish.ensures.all) (c.put_pending.ensures.replies taken)

pub returns-clause-replies : goal.returns-clause-replies
returns-clause-replies g c taken =
    let before = (all_put c.args.publisher.now).steps in
    let now = (all_put c.publish.new.self).steps in
    let first = subst (λ (h : History). RepliesMore c.args.session.now before taken c.put_pending.new.session h.steps taken None) (sym c.publish.ensures.all) (c.put_pending.ensures.replies taken) in
    then_more c.args.session.now c.put_pending.new.session c.take_ending.new.self before now now taken taken taken None (served_by c.take_ending.result) refl first (c.take_ending.ensures.replies now taken)

pub returns-then-is_err-clause-ready : goal.returns-then-is_err-clause-ready
returns-then-is_err-clause-ready g c =
    let session = c.put_pending.new.session in
    published_can session session c.put_pending.new.publisher c.publish.new.self c.publish.ensures.all (λ shown is. is) c.put_pending.ensures.ready

pub returns-clause-ready : goal.returns-clause-ready
returns-clause-ready g c =
    let session = c.put_pending.new.session in
    let last = c.take_ending.new.self in
    let put : unput session.unsent ≡ [] = search rules in
    published_can session last c.put_pending.new.publisher c.publish.new.self
    c.publish.ensures.all (ending_shown session last put c.take_ending.ensures.unsent c.take_ending.ensures.core) c.put_pending.ensures.ready
