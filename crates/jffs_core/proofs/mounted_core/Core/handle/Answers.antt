use Rattle.std.proofs.Common.{◌∙◌, sym, ap}
use Rattle.jffs_tree.specs.declared.cleaning.CopySource.{CopySource}
use Rattle.jffs_tree.specs.Look.{holds_version}
use Rattle.jffs_core.specs.CoreState.{CoreState}
use Rattle.jffs_core.proofs.room.Sweeping.{skipped, is_live_in}
use Rattle.jffs_core.proofs.mounted_core.Core.handle.Goals as goal

pub returns-then-not-live-clause-handled : goal.returns-then-not-live-clause-handled
returns-then-not-live-clause-handled g c = λ past n s.
    let tree = c.self.inside.tree in
    let dead =
    sym (is_live_in past tree n (ap (λ (v : CoreState). v.tree) c.self.view_is ∙ s.known.tree_is) s.known.history.rules.falls s.among)
    ∙ ap (λ (k : CopySource). holds_version tree k.inode k.version) (sym s.is)
    ∙ sym c.live.ensures.held
    ∙ c.if-not-live.true in
    skipped past n _ c.requires.source.works s.known dead
