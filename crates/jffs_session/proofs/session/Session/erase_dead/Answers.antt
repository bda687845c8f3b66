-- What the core erased, and that no file is another.
use Rattle.std.proofs.Common.{◌∙◌, ap, subst}
use Rattle.jffs_core.specs.CoreState.{CoreState}
use Rattle.jffs_session.specs.Session.{SessionState}
use Rattle.jffs_session.specs.Told.{LeavesFiles}
use Rattle.jffs_session.specs.Cleaned.{Erasing}
use Rattle.jffs_session.proofs.Cleaned.{erasing}
use Rattle.jffs_session.proofs.Telling.{erase_mounted, erase_fails, erase_leaves}
use Rattle.jffs_session.proofs.session.Session.erase_dead.Goals as goal

pub invariant_of-self : goal.invariant_of-self
invariant_of-self g c = erase_mounted c.self.inside.core c.erase_dead.new.self c.self.invariant c.erase_dead.result c.erase_dead.ensures.erased c.erase_dead.ensures.stopped

pub returns-clause-kept : goal.returns-clause-kept
returns-clause-kept g c = λ works.
    subst (λ (old : CoreState). LeavesFiles old c.erase_dead.new.self) (ap (λ (s : SessionState). s.core) c.self.view_is)
    (erase_leaves c.self.inside.core c.erase_dead.new.self c.self.invariant c.erase_dead.result c.erase_dead.ensures.erased c.erase_dead.ensures.stopped c.erase_dead.ensures.tree (ap (λ (s : SessionState). s.core.failed) c.self.view_is ∙ works))

pub returns-clause-fails : goal.returns-clause-fails
returns-clause-fails g c = erase_fails c.self.inside.core c.erase_dead.new.self c.self.invariant c.erase_dead.result c.erase_dead.ensures.erased c.erase_dead.ensures.stopped

pub returns-clause-mounted : goal.returns-clause-mounted
returns-clause-mounted g c = erase_mounted c.self.inside.core c.erase_dead.new.self c.self.invariant c.erase_dead.result c.erase_dead.ensures.erased c.erase_dead.ensures.stopped

pub returns-clause-erased : goal.returns-clause-erased
returns-clause-erased g c =
    subst (λ (old : CoreState). Erasing c.erase_dead.result old c.erase_dead.new.self) (ap (λ (s : SessionState). s.core) c.self.view_is)
    (erasing c.self.inside.core c.erase_dead.new.self c.erase_dead.result c.erase_dead.ensures.erased c.erase_dead.ensures.stopped)
