-- What the core cleaned, and that no file is another.
use Rattle.std.proofs.Common.{◌∙◌, ap, subst}
use Rattle.jffs_core.specs.CoreState.{CoreState}
use Rattle.jffs_session.specs.Session.{SessionState}
use Rattle.jffs_session.specs.Told.{LeavesFiles}
use Rattle.jffs_session.specs.Cleaned.{Cleaning}
use Rattle.jffs_session.proofs.Cleaned.{cleaning}
use Rattle.jffs_session.proofs.Telling.{clean_mounted, clean_leaves}
use Rattle.jffs_session.proofs.session.Session.clean_oldest.Goals as goal

pub invariant_of-self : goal.invariant_of-self
invariant_of-self g c = clean_mounted c.self.inside.core c.clean_oldest.new.self c.self.invariant c.clean_oldest.result c.clean_oldest.ensures.cleaned c.clean_oldest.ensures.stopped

pub returns-clause-kept : goal.returns-clause-kept
returns-clause-kept g c = λ works.
    subst (λ (old : CoreState). LeavesFiles old c.clean_oldest.new.self) (ap (λ (s : SessionState). s.core) c.self.view_is)
    (clean_leaves c.self.inside.core c.clean_oldest.new.self c.self.invariant c.clean_oldest.result c.clean_oldest.ensures.cleaned c.clean_oldest.ensures.stopped (ap (λ (s : SessionState). s.core.failed) c.self.view_is ∙ works))

pub returns-clause-cleaned : goal.returns-clause-cleaned
returns-clause-cleaned g c =
    subst (λ (old : CoreState). Cleaning c.clean_oldest.result old c.clean_oldest.new.self) (ap (λ (s : SessionState). s.core) c.self.view_is)
    (cleaning c.self.inside.core c.clean_oldest.new.self c.clean_oldest.result c.clean_oldest.ensures.cleaned c.clean_oldest.ensures.stopped)
