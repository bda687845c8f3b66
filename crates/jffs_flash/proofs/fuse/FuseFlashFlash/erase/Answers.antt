-- What the failing erase left differs from the old image in that sector alone.
use Rattle.std.proofs.Common.{sym, subst, refl, ◌+◌, ◌*◌, ◌≤◌, suc, length, arith}
use Rattle.std.proofs.Math.Nat.{mul-le-mul_right}
use Rattle.jffs_flash.specs.Device.{IsWhole, EraseFails}
use Rattle.jffs_flash.specs.Image.{IsHalfErased}
use Rattle.jffs_flash.specs.Fuse.{Fuse, seen_device}
use Rattle.jffs_flash.proofs.Halves.{half_erased}
use Rattle.jffs_flash.proofs.fuse.FuseFlashFlash.erase.Goals as goal

pub returns-then-is_blown-clause-device : goal.returns-then-is_blown-clause-device
returns-then-is_blown-clause-device c =
    let old = c.args.self.now in
    let d = old.inner in
    let at = c.args.sector * d.sector_size in
    let within : suc c.args.sector * d.sector_size ≤ d.sectors * d.sector_size = mul-le-mul_right d.sector_size c.requires in
    let Whole : Fuse → Type 0 = λ f. IsWhole f.inner in
    let whole = subst Whole c.self.view_is c.sector_size-size.ensures.whole in
    let inside : at + d.sector_size ≤ length d.image = omega (arith, within, whole) in
    let P : Fuse → Type 0 = λ f. EraseFails (IsHalfErased at d.sector_size d.image) (seen_device old) (seen_device f) in
    let half = half_erased old.fail d.sector_size c.args.sector d.image inside in
    subst P (sym c.fail_erase.ensures) (record { left = half; faults = omega arith; rest = refl })
