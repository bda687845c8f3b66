use Rattle.std.proofs.Common.{◌≡◌, ◌+◌, ◌*◌, ◌≤◌, ℕ, List, suc, length, arith, ap, ◌∙◌, sym, subst}
use Rattle.std.proofs.Math.Nat.{mul-le-mul_right}
use Rattle.jffs_log.proofs.scans.ReadOnce.{sizes_room}
use Rattle.jffs_log.proofs.healing.is_cleared.Goals as goal

pub read-requires : goal.read-requires
read-requires g c =
    let device = g.F.Flash.device c.args.flash.now in
    let room = sizes_room device.sectors device.sector_size c.requires.sizes in
    let whole = c.sectors-sectors.ensures.whole in
    let within : suc c.args.sector * device.sector_size ≤ device.sectors * device.sector_size = mul-le-mul_right device.sector_size c.requires.inside in
    let inside : c.args.sector * device.sector_size + 4 ≤ length device.image = omega (arith, within, whole, room) in
    subst (λ (n : ℕ). c.args.sector * n + 4 ≤ length device.image) (sym c.sector_size-size.ensures) inside
