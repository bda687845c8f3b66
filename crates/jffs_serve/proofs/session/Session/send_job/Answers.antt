use Rattle.std.proofs.Common.{rules, ◌≡◌, ◌∙◌, ◌++◌, ◌∷◌, [], true, false, Some, inr, refl, sym, ap}
use Rattle.jffs_core.specs.CoreState.{CoreState}
use Rattle.jffs_core.specs.Trees.{KeepsTree}
use Rattle.jffs_serve.specs.Answered.{HasSameReplies}
use Rattle.jffs_serve.proofs.Keeping.{read_kept, wanted_works}
use Rattle.jffs_serve.proofs.Showing.{read_tree}
use Rattle.jffs_serve.proofs.session.Session.send_job.Goals as goal
use Rattle.jffs_serve.proofs.session.Session.send_job.Goals.{After-oldest_image}

-- a cleaner is wanted, so the core had not failed when it read
worked : (g : _) (c : After-oldest_image g) → c.args.self.now.core.failed ≡ false
worked g c =
    let asked : c.is_due.result ≡ true = search rules in
    wanted_works c.args.self.now.core (c.is_due.ensures.0 asked).0

-- the session after the reading, whatever it keeps of the sending
same_replies : (g : _) (c : After-oldest_image g) → HasSameReplies c.args.self.now (record c.args.self.now { core = c.oldest_image.new.self })
same_replies g c =
    let old : CoreState = c.args.self.now.core in
    let read = c.oldest_image.ensures in (
      rw read.same refl,
      rw read.same refl,
      refl,
      read_kept old c.oldest_image.new.self c.oldest_image.result (worked g c) read.same read.works read.refused read.stands,
    )

same_tree : (g : _) (c : After-oldest_image g) → KeepsTree c.args.self.now.core c.oldest_image.new.self
same_tree g c = read_tree c.args.self.now.core c.oldest_image.new.self (worked g c) c.oldest_image.ensures.same

pub returns-in-Ok-send-clause-job : goal.returns-in-Ok-send-clause-job
returns-in-Ok-send-clause-job g c =
    let erases : c.erases-erases.result ≡ c.args.self.now.core.index.erases = search rules in
    let asked : c.is_due.result ≡ true = search rules in
    let due = c.is_due.ensures.0 asked in
    inr (
      (due.0, λ sent. due.1 (sent ∙ ap Some (sym erases))),
      ap Some erases,
      (c.in-Ok.image, c.in-Ok-send.ensures.added ∙ ap (λ images. images ++ c.in-Ok.image ∷ []) c.is_full.ensures, c.in-Ok.ensures.bytes),
    )

pub returns-in-Ok-send-clause-replies : goal.returns-in-Ok-send-clause-replies
returns-in-Ok-send-clause-replies g c = same_replies g (goal.at.returns-in-Ok-send-clause-replies g c).After-oldest_image

pub returns-in_default-send-clause-replies : goal.returns-in_default-send-clause-replies
returns-in_default-send-clause-replies g c = same_replies g (goal.at.returns-in_default-send-clause-replies g c).After-oldest_image

pub returns-in_default-clause-replies : goal.returns-in_default-clause-replies
returns-in_default-clause-replies g c = same_replies g (goal.at.returns-in_default-clause-replies g c).After-oldest_image

pub returns-in-Ok-send-clause-tree : goal.returns-in-Ok-send-clause-tree
returns-in-Ok-send-clause-tree g c = same_tree g (goal.at.returns-in-Ok-send-clause-tree g c).After-oldest_image

pub returns-in_default-send-clause-tree : goal.returns-in_default-send-clause-tree
returns-in_default-send-clause-tree g c = same_tree g (goal.at.returns-in_default-send-clause-tree g c).After-oldest_image

pub returns-in_default-clause-tree : goal.returns-in_default-clause-tree
returns-in_default-clause-tree g c = same_tree g (goal.at.returns-in_default-clause-tree g c).After-oldest_image
