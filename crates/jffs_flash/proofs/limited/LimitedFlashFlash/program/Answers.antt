-- The bytes are as many as before.
use Rattle.std.proofs.Common.{◌≡◌, length, sym, ap, ◌∙◌, arith}
use Rattle.jffs_flash.specs.Device.{Device}
use Rattle.jffs_flash.specs.Limited.{Limited}
use Rattle.jffs_flash.proofs.Bits.{length-programmed}
use Rattle.jffs_flash.proofs.limited.LimitedFlashFlash.program.Goals as goal

pub invariant_of-self : goal.invariant_of-self
invariant_of-self c =
    let inner = c.self.inside.inner in
    let same : length inner.image ≡ length c.args.self.now.inner.image = ap (λ (f : Limited). length f.inner.image) c.self.view_is in
    let inside = c.requires in
    c.self.invariant
    ∙ sym (length-programmed c.args.at c.args.bytes.now inner.image (omega arith))
    ∙ ap (λ (d : Device). length d.image) (sym c.clear_bits.ensures)
