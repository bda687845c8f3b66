use Rattle.std.proofs.Common.{Bool, [], ◌∷◌, ◌∙◌, ap, subst, Option, Some}
use Rattle.jffs_serve.specs.declared.session.PendingStep.{PendingStep}
use Rattle.jffs_serve.specs.declared.session.PendingStep.TheVariants.{Unput}
use Rattle.jffs_serve.specs.Answered.{start_of, HasReplied}
use Rattle.jffs_serve.specs.Replies.{Reply}
use Rattle.jffs_serve.specs.PendingStep.{ending_after}
use Rattle.jffs_serve.proofs.Replying.{nothing_replied, replied_more, reply_of}
use Rattle.jffs_serve.proofs.Stopping.{stops_after}
use Rattle.jffs_serve.proofs.Showing.{shows_step}
use Rattle.jffs_serve.proofs.session.Session.answer.Goals as goal

pub returns-clause-replies : goal.returns-clause-replies
returns-clause-replies g c put before now took =
    let session = c.args.self.now in
    let start = start_of session put before in
    let answered = c.answer_with_node-outcome.result in
    let made = c.answer_with_node-outcome.ensures in
    let kept = made.kept in
    let bounded = made.bounded in
    let core = c.answer_with_node-outcome.new.self in
    let r : Reply = reply_of c.args.request.now answered.outcome answered.node in
    let nothing = subst (λ (k : Option PendingStep). HasReplied start session.core k put before []) c.requires.sent (nothing_replied session put before) in (
      r ∷ [],
      replied_more start session.core core c.args.request.now answered.outcome answered.node c.ending_after.result
          put before now [] c.requires.opened kept.answers kept.closed made.node took bounded.sizes made.step kept.failed bounded.erases nothing,
      stops_after session.core core session.unsent (Some (Unput r.step c.ending_after.result)) r c.requires.sent c.requires.opened kept.closed
          (c.ending_after.ensures ∙ ap (λ (b : Bool). ending_after b answered.outcome) c.is_unmount-unmounts.ensures),
    )

pub returns-clause-shown : goal.returns-clause-shown
returns-clause-shown g c shown shows =
    let answered = c.answer_with_node-outcome.result in
    let r : Reply = reply_of c.args.request.now answered.outcome answered.node in
    shows_step shown c.args.self.now.core c.answer_with_node-outcome.new.self r.step c.answer_with_node-outcome.ensures.tree shows
