use Rattle.std.proofs.Common.{◌≡◌, [], rules, ap, subst, Option, Some, None}
use Rattle.jffs_index.specs.Ends.{all_put}
use Rattle.jffs_core.specs.CoreState.{CoreState}
use Rattle.jffs_serve.specs.declared.session.PendingStep.{PendingStep}
use Rattle.jffs_serve.specs.declared.session.PendingStep.TheVariants.{Unput, Unpublished}
use Rattle.jffs_serve.specs.PendingStep.{ending_of}
use Rattle.jffs_serve.specs.Stopping.{or_closed}
use Rattle.jffs_serve.specs.Answered.{start_of, HasReplied}
use Rattle.jffs_serve.proofs.Replying.{nothing_more, nothing_replied, no_reply, replied_put}
use Rattle.jffs_serve.proofs.Showing.{can_put, steps_put, put_shown}
use Rattle.jffs_serve.proofs.serving.put_pending.Goals as goal
use Rattle.jffs_serve.proofs.serving.put_pending.Goals.{In-Some-Unput}

unsent : (g : _) (c : In-Some-Unput g) → c.args.session.now.unsent ≡ Some (Unput c.in-Some-Unput.step c.in-Some-Unput.ending)
unsent g c = search rules

pub put-requires : goal.put-requires
put-requires g c =
    (can_put c.args.session.now c.args.publisher.now _ _ (unsent g (goal.at.put-requires g c).In-Some-Unput) c.requires.ready).0

pub returns-in-Ok-clause-replies : goal.returns-in-Ok-clause-replies
returns-in-Ok-clause-replies g c taken =
    let session = c.args.session.now in
    let core : CoreState = session.core in
    let before = (all_put c.args.publisher.now).steps in
    let now = (all_put c.put.new.self).steps in
    let start = start_of session before taken in
    let arm = c.in-Some-Unput in
    let is = unsent g (goal.at.returns-in-Ok-clause-replies g c).In-Some-Unput in
    let unput = subst (λ (k : Option PendingStep). HasReplied start core k before taken []) is (nothing_replied session before taken) in
    nothing_more start core (Some (Unpublished arm.ending)) now taken None
    (replied_put start core arm.step arm.ending before now taken [] (steps_put c.args.publisher.now c.put.new.self arm.step c.put.ensures.published.0 c.in-Ok.ensures.pending) unput)
    (ap (λ (k : Option PendingStep). or_closed (ending_of k) core.closed) is)

pub returns-in-Ok-clause-ready : goal.returns-in-Ok-clause-ready
returns-in-Ok-clause-ready g c =
    record { shown = put_shown c.args.session.now c.args.publisher.now c.put.new.self _ _ (unsent g (goal.at.returns-in-Ok-clause-ready g c).In-Some-Unput) c.requires.ready c.in-Ok.ensures.view }

pub returns-in-Err-clause-replies : goal.returns-in-Err-clause-replies
returns-in-Err-clause-replies g c taken =
    let none = no_reply c.args.session.now (all_put c.args.publisher.now).steps taken in
    search (rules, none)

pub returns-in_default-clause-replies : goal.returns-in_default-clause-replies
returns-in_default-clause-replies g c taken =
    let none = no_reply c.args.session.now (all_put c.args.publisher.now).steps taken in
    search (rules, none)
