-- Bytes of an image that were replaced.
use Rattle.std.proofs.Common.{◌≡◌, ℕ, ◌+◌, ◌-◌, ◌≤◌, List, ◌++◌, length, take, drop, sym, ap, ◌∙◌, arith, append_assoc, length-append}
use Rattle.std.proofs.Math.Seq.{drop-append-add, take-length, take-append_seam, drop-append_seam}
use Rattle.std.proofs.lemmas.List.{take-append-le, take-append-drop, length-take-le, drop-drop}
use Rattle.jffs_flash.specs.Image.{window, replaced}

-- what is written over a change, and is no shorter, leaves nothing of it
pub replaced_over : (at : ℕ) (part left image : List ℕ) → length part ≤ length left → at + length left ≤ length image
    → replaced at left (replaced at part image) ≡ replaced at left image
replaced_over at part left image short inside =
    let front = take at image in
    let back = drop (at + length part) image in
    let r = length left - length part in
    let begins : length front ≡ at = length-take-le at image (omega arith) in
    let long = length-append front part in
    let same : at + length left ≡ length (front ++ part) + r = omega arith in
    let whole : at + length part + r ≡ at + length left = omega arith in
    let first : take at (front ++ part ++ back) ≡ front =
    take-append-le at (front ++ part) back (omega arith) ∙ take-append-le at front part (omega arith)
    ∙ ap (λ k. take k front) (sym begins) ∙ take-length front in
    let last : drop (at + length left) (front ++ part ++ back) ≡ drop (at + length left) image =
    ap (λ k. drop k (front ++ part ++ back)) same ∙ drop-append-add (front ++ part) back r
    ∙ drop-drop r (at + length part) image ∙ ap (λ k. drop k image) whole in
    (λ i. first i ++ left ++ last i)

-- what was put into the image stands there
pub window-replaced : (at : ℕ) (part image : List ℕ) → at + length part ≤ length image → window at (length part) (replaced at part image) ≡ part
window-replaced at part image inside =
    let front = take at image in
    let back = drop (at + length part) image in
    let long : length front ≡ at = length-take-le at image (omega arith) in
    let cut : drop at (replaced at part image) ≡ part ++ back =
    ap (λ (xs : List ℕ). drop at xs) (append_assoc front part back)
    ∙ ap (λ n. drop n (front ++ (part ++ back))) (sym long)
    ∙ drop-append_seam front (part ++ back) in
    ap (λ (xs : List ℕ). take (length part) xs) cut ∙ take-append_seam part back

-- what stands there already changes nothing
pub replaced_same : (at : ℕ) (part image : List ℕ) → at + length part ≤ length image → window at (length part) image ≡ part → replaced at part image ≡ image
replaced_same at part image inside same =
    let rest = drop at image in
    ap (λ (xs : List ℕ). take at image ++ xs ++ drop (at + length part) image) (sym same)
    ∙ ap (λ (xs : List ℕ). take at image ++ take (length part) rest ++ xs) (sym (drop-drop (length part) at image))
    ∙ append_assoc (take at image) (take (length part) rest) (drop (length part) rest)
    ∙ ap (λ (xs : List ℕ). take at image ++ xs) (take-append-drop (length part) rest)
    ∙ take-append-drop at image
