use Rattle.std.proofs.Common.{◌≡◌, ◌∙◌, length, subst}
use Rattle.jffs_log.specs.LogIndex.{oldest_in}
use Rattle.jffs_log.specs.LogState.{LogState}
use Rattle.jffs_log.proofs.erase.OldestRefs.{oldest_counted}
use Rattle.jffs_log.proofs.Seen.{told}
use Rattle.jffs_log.proofs.log.Log.oldest_count.Goals as goal

pub returns : goal.returns
returns g c =
    let h = told _ _ c.self.view_is c.self.invariant c.requires.working in
    let P : LogState → Type 0 = λ v. c.count_of.result ≡ length (oldest_in v.device.image v.index) in
    subst P c.self.view_is (c.count_of.ensures ∙ oldest_counted _ _ _ _ _ _ _ _ _ h)
