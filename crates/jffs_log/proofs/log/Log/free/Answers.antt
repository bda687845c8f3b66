use Rattle.std.proofs.Common.{◌≡◌, false, sym, subst}
use Rattle.jffs_log.specs.Image.{tail_of, free_of_tail}
use Rattle.jffs_log.specs.Volume.{sectors_in}
use Rattle.jffs_log.specs.LogState.{LogState}
use Rattle.jffs_log.proofs.rooms.Rooms.{described_free}
use Rattle.jffs_log.proofs.log.Log.free.Goals as goal

pub returns-clause-exact : goal.returns-clause-exact
returns-clause-exact g c =
    let b = c.self.inside.index in
    let P : LogState → Type 0 = λ v. v.failed ≡ false → b.free ≡ free_of_tail v.index.sector_size (tail_of (sectors_in v.index.sectors v.index.sector_size v.device.image)) in
    subst P c.self.view_is (λ works. sym (described_free _ _ _ _ _ _ _ _ _ (c.self.invariant.told works)))
