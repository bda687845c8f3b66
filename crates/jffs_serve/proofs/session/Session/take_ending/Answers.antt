use Rattle.std.proofs.Common.{◌≡◌, [], rules, refl, sym, subst, Option}
use Rattle.jffs_serve.specs.declared.session.PendingStep.{PendingStep}
use Rattle.jffs_serve.specs.PendingStep.{ending_of, served_by}
use Rattle.jffs_serve.specs.Answered.{start_of, HasReplied}
use Rattle.jffs_serve.proofs.Replying.{nothing_more, nothing_replied, no_reply, replied_sent}
use Rattle.jffs_serve.proofs.Stopping.{ends_by}
use Rattle.jffs_serve.proofs.session.Session.take_ending.Goals as goal

pub returns-in-Some-Unpublished-clause-replies : goal.returns-in-Some-Unpublished-clause-replies
returns-in-Some-Unpublished-clause-replies g c put taken =
    let session = c.args.self.now in
    let unsent = session.unsent in
    let core = session.core in
    let start = start_of session put taken in
    let ending = c.in-Some-Unpublished.ending in
    let same : ending ≡ ending_of unsent = search rules in
    nothing_more start core c.take.new.self put taken (served_by ending)
    (subst (λ (k : Option PendingStep). HasReplied start core k put taken []) (sym c.take.ensures.after)
    (replied_sent start core unsent put taken [] c.requires.put (nothing_replied session put taken)))
    (ends_by ending core core unsent c.take.new.self same c.take.ensures.after refl)

pub returns-clause-replies : goal.returns-clause-replies
returns-clause-replies g c put taken =
    let none = no_reply c.args.self.now put taken in
    search (rules, none)
