use Rattle.std.proofs.Common.{rules, ◌≡◌, false, refl}
use Rattle.jffs_serve.proofs.Keeping.{erased_dead}
use Rattle.jffs_serve.proofs.session.Session.erase_dead.Goals as goal

pub returns-clause-replies : goal.returns-clause-replies
returns-clause-replies g c =
    let works : c.args.self.now.core.failed ≡ false = search rules in
    let opened : c.args.self.now.core.closed ≡ false = search rules in
    let e = c.erase_dead.ensures in
    let leaves = e.leaves in
    let same = leaves.same in
    (same.answers, same.closed, refl, erased_dead c.args.self.now.core c.erase_dead.new.self c.erase_dead.result works opened leaves.sizes e.erased e.stopped e.erases)
