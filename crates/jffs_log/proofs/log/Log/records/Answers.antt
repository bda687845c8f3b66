use Rattle.std.proofs.Common.{◌≡◌, false, map, sym, ap, subst, ◌∙◌}
use Rattle.jffs_log.specs.LogIndex.{ref_of, log_in}
use Rattle.jffs_log.specs.LogState.{LogState}
use Rattle.jffs_log.proofs.append.Appended.{described_live}
use Rattle.jffs_log.proofs.log.Log.records.Goals as goal

pub returns-clause-listed : goal.returns-clause-listed
returns-clause-listed g c =
    let P : LogState → Type 0 = λ v. v.failed ≡ false → c.self.inside.index.records.items ≡ map ref_of (log_in v.device.image v.index) in
    subst P c.self.view_is (λ works. let h = c.self.invariant.told works in h.listed ∙ ap (map ref_of) (sym (described_live _ _ _ _ _ _ _ _ _ h)))
