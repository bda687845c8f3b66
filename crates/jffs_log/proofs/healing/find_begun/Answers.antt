use Rattle.std.proofs.Common.{◌≡◌, Bool, true, false, sym, subst, ◌∙◌, arith}
use Rattle.jffs_flash.specs.Device.{Device}
use Rattle.jffs_flash.specs.Image.{erased}
use Rattle.jffs_log.specs.ScanFound.{IsFound}
use Rattle.jffs_log.specs.Heal.{is_damaged}
use Rattle.jffs_log.proofs.ring.Layouts.{some_erased}
use Rattle.jffs_log.proofs.begun.Found.{begun_as}
use Rattle.jffs_log.proofs.healing.find_begun.Goals as goal
use Rattle.jffs_log.proofs.healing.find_begun.Goals.{In-Ok}

-- what was found is found on the device as it was
found : (g : _) (c : In-Ok g) → let d = g.F.Flash.device c.args.flash.now in
    IsFound d.sectors d.sector_size (erased d.sector_size c.args.sector d.image) c.in-Ok.found.index c.in-Ok.found.tree c.in-Ok.found.clean c.in-Ok.found.limits
found g c =
    let P : Device → Type 0 = λ d. IsFound d.sectors d.sector_size (erased d.sector_size c.args.sector d.image) c.in-Ok.found.index c.in-Ok.found.tree c.in-Ok.found.clean c.in-Ok.found.limits in
    subst P c.in_ok-is_damaged.ensures.same c.in-Ok.ensures.found

-- the sector isn't damaged
sound : (g : _) (c : In-Ok g) → let d = g.F.Flash.device c.args.flash.now in is_damaged d.sectors d.sector_size d.image c.args.sector ≡ false
sound g c = sym c.in_ok-is_damaged.ensures.damaged ∙ c.if-branch.false

pub is_last_erased-requires : goal.is_last_erased-requires
is_last_erased-requires g c = let one = some_erased _ _ _ _ _ _ _ _ _ c.in-Ok.ensures.found.index in omega (arith, one)

pub returns-then-is_last_erased-clause-begun : goal.returns-then-is_last_erased-clause-begun
returns-then-is_last_erased-clause-begun g c =
    let here = (goal.at.returns-then-is_last_erased-clause-begun g c).In-Ok in
    record {
      begun = begun_as _ _ c.args.sector _ c.in-Ok.found.index _ _ _ true (sound g here) (found g here) c.if-is_last_erased.ensures;
      is = found g here;
    }

pub returns-else-is_last_erased-clause-begun : goal.returns-else-is_last_erased-clause-begun
returns-else-is_last_erased-clause-begun g c =
    let here = (goal.at.returns-else-is_last_erased-clause-begun g c).In-Ok in
    begun_as _ _ c.args.sector _ c.in-Ok.found.index _ _ _ false (sound g here) (found g here) c.if-is_last_erased.ensures
