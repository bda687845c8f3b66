use Rattle.std.proofs.Common.{◌∙◌}
use Rattle.jffs_serve.proofs.Keeping.{keeps_along}
use Rattle.jffs_serve.proofs.Showing.{tree_along}
use Rattle.jffs_serve.proofs.session.Session.tidy.Goals as goal

pub returns-clause-replies : goal.returns-clause-replies
returns-clause-replies g c =
    let first = c.erase_dead.ensures.replies in
    let second = c.send_job.ensures.replies in
    (second.0 ∙ first.0, second.1 ∙ first.1, second.2 ∙ first.2, keeps_along c.args.self.now.core c.erase_dead.new.self.core c.send_job.new.self.core first.3 second.3)

pub returns-clause-tree : goal.returns-clause-tree
returns-clause-tree g c = tree_along c.args.self.now.core c.erase_dead.new.self.core c.send_job.new.self.core c.erase_dead.ensures.tree c.send_job.ensures.tree
