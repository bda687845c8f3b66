use Rattle.std.proofs.Common.{◌≡◌, ℕ, ◌+◌, ◌-◌, ◌*◌, ◌<◌, ◌≤◌, List, length, take, drop, get_or, sym, ap, subst, ◌∙◌, arith, length-drop}
use Rattle.std.proofs.lemmas.List.{get_or-take, get_or-drop, length-take-le}
use Rattle.std.proofs.Math.Nat.{mul-le-mul_right}
use Rattle.jffs_flash.specs.Image.{window}
use Rattle.jffs_queue.specs.declared.call.Call.{Call}
use Rattle.jffs_queue.specs.Queue.{after_call, IsInside}
use Rattle.jffs_queue.proofs.Overlays.{laid_erased, laid_programmed}
use Rattle.jffs_queue.proofs.overlay.lay_over.Goals as goal

pub returns-in-Erase : goal.returns-in-Erase
returns-in-Erase c = λ sectors image whole inside there shows.
    let part = c.overlap-part.ensures in
    let known : c.in-Erase.sector < sectors = subst (IsInside sectors c.args.sector_size) c.in-Erase.is inside in
    let fits = mul-le-mul_right c.args.sector_size known in
    let done = laid_erased c.args.from (c.in-Erase.sector * c.args.sector_size) c.overlap-part.result.first c.overlap-part.result.skip c.args.sector_size c.overlap-part.result.len c.args.buffer.now image
    (omega (arith, whole, fits)) there shows part.in_buffer part.in_part part.same part.all in
    c.fill.ensures ∙ done ∙ ap (λ (call : Call). window c.args.from (length c.args.buffer.now) (after_call c.args.sector_size image call)) (sym c.in-Erase.is)

pub returns-in-Program : goal.returns-in-Program
returns-in-Program c = λ sectors image whole inside there shows.
    let part = c.overlap-part-in-Program.ensures in
    let p = c.overlap-part-in-Program.result in
    let bytes = c.in-Program.bytes.items in
    let value = c.deref.ensures.value in
    let some = take (p.skip + p.len - p.skip) (drop p.skip c.deref.result.now) in
    let known : c.in-Program.at + length bytes ≤ sectors * c.args.sector_size = subst (IsInside sectors c.args.sector_size) c.in-Program.is inside in
    let long : length c.deref.result.now ≡ length bytes = ap (λ (xs : List ℕ). length xs) value in
    let left = length-drop p.skip c.deref.result.now in
    let few : length some ≡ p.len = length-take-le (p.skip + p.len - p.skip) (drop p.skip c.deref.result.now) (omega arith) ∙ omega arith in
    let alike : (j : ℕ) → j < length some → get_or some j 0 ≡ get_or bytes (p.skip + j) 0 =
    λ j h. get_or-take (p.skip + p.len - p.skip) (drop p.skip c.deref.result.now) j 0 (omega arith) ∙ get_or-drop p.skip c.deref.result.now j 0 ∙ ap (λ (xs : List ℕ). get_or xs (p.skip + j) 0) value in
    let done = laid_programmed c.args.from c.in-Program.at p.first p.skip some bytes c.args.buffer.now image
    (omega (arith, whole, known)) there shows (omega arith) (omega arith) (λ any. part.same (omega arith))
    (λ k h low high. let a = part.all k h low (omega arith) in (a.0, omega arith)) alike in
    c.clear_bits.ensures ∙ done ∙ ap (λ (call : Call). window c.args.from (length c.args.buffer.now) (after_call c.args.sector_size image call)) (sym c.in-Program.is)
