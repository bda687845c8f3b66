use Rattle.std.proofs.Common.{◌<◌, sym, ◌∙◌, arith}
use Rattle.std.proofs.lemmas.List.{ext_get_or}
use Rattle.jffs_flash.proofs.Bits.{length-both_bits, get_or-both_bits}
use Rattle.jffs_queue.proofs.overlay.keep_both_bits.Goals as goal

pub returns : goal.returns
returns c =
    let old = c.args.old.now in
    let bytes = c.args.bytes.now in
    ext_get_or 0 _ _ (omega (arith, length-both_bits old bytes c.requires))
    (λ k h. let below : k < c.loop-i.i = omega arith in c.loop-i.invariant.0 k below ∙ sym (get_or-both_bits old bytes k c.requires))
