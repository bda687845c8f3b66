-- What the failing program left lies between the old image and the new one.
use Rattle.std.proofs.Common.{sym, subst, refl, arith}
use Rattle.jffs_flash.specs.Device.{Fails}
use Rattle.jffs_flash.specs.Image.{IsHalfProgrammed}
use Rattle.jffs_flash.specs.Fuse.{Fuse, seen_device}
use Rattle.jffs_flash.proofs.Halves.{half_programmed}
use Rattle.jffs_flash.proofs.fuse.FuseFlashFlash.program.Goals as goal

pub returns-then-is_blown-clause-device : goal.returns-then-is_blown-clause-device
returns-then-is_blown-clause-device c =
    let old = c.args.self.now in
    let bytes = c.args.bytes.now in
    let P : Fuse → Type 0 = λ f. Fails (IsHalfProgrammed c.args.at bytes old.inner.image) (seen_device old) (seen_device f) in
    let half = half_programmed old.fail c.args.at bytes old.inner.image c.requires in
    subst P (sym c.fail_program.ensures) (record { left = half; faults = omega arith; rest = refl })
