-- What a window of an image holds where a part of the image is replaced.
use Rattle.std.proofs.Common.{◌≡◌, ◌⊎◌, inl, inr, ℕ, ◌+◌, ◌-◌, ◌<◌, ◌≤◌, List, ◌++◌, length, take, drop, get_or, replicate, sym, ap, ap₂, ◌∙◌, arith, length-append, length-drop}
use Rattle.std.proofs.lemmas.List.{ext_get_or, get_or-take, get_or-drop, get_or-append_right, get_or_append_left, length-take-le, get_or-replicate, length-replicate}
use Rattle.std.proofs.lemmas.Bool.{cases_lt}
use Rattle.std.specs.Int.Bits.{bit_and}
use Rattle.jffs_flash.specs.Image.{window, replaced, programmed, both_bits, erased_byte}
use Rattle.jffs_flash.proofs.Bits.{length-both_bits, get_or-both_bits}
use Rattle.jffs_flash.proofs.Halves.{length-window}

pub get_or-window : (at n : ℕ) (image : List ℕ) (k : ℕ) → k < n → get_or (window at n image) k 0 ≡ get_or image (at + k) 0
get_or-window at n image k h = get_or-take n (drop at image) k 0 h ∙ get_or-drop at image k 0

-- The bytes of an image of which a part was replaced: before it, in it, and after it.
module _ (at : ℕ) (part image : List ℕ) (inside : at + length part ≤ length image) where
  front : length (take at image) ≡ at
  front = length-take-le at image (omega arith)

  begun : length (take at image ++ part) ≡ at + length part
  begun = omega (arith, front, length-append (take at image) part)

  pub length-replaced : length (replaced at part image) ≡ length image
  length-replaced = omega (arith, begun, length-append (take at image ++ part) (drop (at + length part) image), length-drop (at + length part) image)

  get_or-replaced_in : (k : ℕ) → k < length part → get_or (replaced at part image) (at + k) 0 ≡ get_or part k 0
  get_or-replaced_in k h =
      let there : at + k - at ≡ k = omega arith in
      get_or_append_left (take at image ++ part) (drop (at + length part) image) 0 (at + k) (omega (arith, begun))
      ∙ get_or-append_right (take at image) part at (at + k) 0 front (omega arith)
      ∙ ap (λ i. get_or part i 0) there

  get_or-replaced_out : (k : ℕ) → (k < at) ⊎ (at + length part ≤ k) → get_or (replaced at part image) k 0 ≡ get_or image k 0
  get_or-replaced_out k (inl before) =
      get_or_append_left (take at image ++ part) (drop (at + length part) image) 0 k (omega (arith, begun))
      ∙ get_or_append_left (take at image) part 0 k (omega (arith, front))
      ∙ get_or-take at image k 0 before
  get_or-replaced_out k (inr after) =
      let there : at + length part + (k - (at + length part)) ≡ k = omega arith in
      get_or-append_right (take at image ++ part) (drop (at + length part) image) (at + length part) k 0 begun after
      ∙ get_or-drop (at + length part) image (k - (at + length part)) 0
      ∙ ap (λ i. get_or image i 0) there

-- Of a buffer that shows a window, a first part was changed as the image was: bytes of `short` are
-- those of `part` from `skip` on, and both stand at the same place of the image.
pub laid_part : (from at first skip : ℕ) (short part old image : List ℕ)
    → at + length part ≤ length image → from + length old ≤ length image → old ≡ window from (length old) image
    → first + length short ≤ length old → skip + length short ≤ length part
    → (0 < length short → from + first ≡ at + skip)
    → ((k : ℕ) → k < length old → at ≤ from + k → from + k < at + length part → (first ≤ k) × (k < first + length short))
    → ((j : ℕ) → j < length short → get_or short j 0 ≡ get_or part (skip + j) 0)
    → replaced first short old ≡ window from (length old) (replaced at part image)
laid_part from at first skip short part old image inside there shows fits within same all alike =
    let long = length-replaced first short old fits in
    let still = length-replaced at part image inside in
    let left = length-drop from (replaced at part image) in
    let wide : length (window from (length old) (replaced at part image)) ≡ length old = length-take-le (length old) (drop from (replaced at part image)) (omega arith) in
    let kept : (k : ℕ) → k < length old → get_or old k 0 ≡ get_or image (from + k) 0 =
    λ k h. ap (λ (xs : List ℕ). get_or xs k 0) shows ∙ get_or-window from (length old) image k h in
    ext_get_or 0 _ _ (long ∙ sym wide) (λ k bound.
    let h : k < length old = omega (arith, bound, long) in
    byte k h kept (cases_lt k first) (cases_lt k (first + length short)) ∙ sym (get_or-window from (length old) (replaced at part image) k h))
  where
    outside : (k : ℕ) → k < length old → ((i : ℕ) → i < length old → get_or old i 0 ≡ get_or image (from + i) 0)
        → (k < first) ⊎ (first + length short ≤ k) → (from + k < at) ⊎ (at + length part ≤ from + k)
        → get_or (replaced first short old) k 0 ≡ get_or (replaced at part image) (from + k) 0
    outside k h kept away far =
        get_or-replaced_out first short old fits k away ∙ kept k h ∙ sym (get_or-replaced_out at part image inside (from + k) far)

    -- what isn't of the changed bytes is outside the part
    far_off : (k : ℕ) → k < length old → (k < first) ⊎ (first + length short ≤ k) → (from + k < at) ⊎ (at ≤ from + k)
        → (from + k < at + length part) ⊎ (at + length part ≤ from + k) → (from + k < at) ⊎ (at + length part ≤ from + k)
    far_off k h away (inl before) _ = inl before
    far_off k h away (inr _) (inr after) = inr after
    far_off k h (inl less) (inr low) (inl high) = let in_it = all k h low high in absurd (omega arith)
    far_off k h (inr more) (inr low) (inl high) = let in_it = all k h low high in absurd (omega arith)

    byte : (k : ℕ) → k < length old → ((i : ℕ) → i < length old → get_or old i 0 ≡ get_or image (from + i) 0)
        → (k < first) ⊎ (first ≤ k) → (k < first + length short) ⊎ (first + length short ≤ k)
        → get_or (replaced first short old) k 0 ≡ get_or (replaced at part image) (from + k) 0
    byte k h kept (inl less) _ = outside k h kept (inl less) (far_off k h (inl less) (cases_lt (from + k) at) (cases_lt (from + k) (at + length part)))
    byte k h kept (inr _) (inr more) = outside k h kept (inr more) (far_off k h (inr more) (cases_lt (from + k) at) (cases_lt (from + k) (at + length part)))
    byte k h kept (inr low) (inl high) =
        let place = same (omega arith) in
        let here : first + (k - first) ≡ k = omega arith in
        let image_at : at + (skip + (k - first)) ≡ from + k = omega arith in
        ap (λ i. get_or (replaced first short old) i 0) (sym here)
        ∙ get_or-replaced_in first short old fits (k - first) (omega arith)
        ∙ alike (k - first) (omega arith)
        ∙ sym (get_or-replaced_in at part image inside (skip + (k - first)) (omega arith))
        ∙ ap (λ i. get_or (replaced at part image) i 0) image_at

-- of a sector that is erased, its bytes in the buffer are erased
pub laid_erased : (from at first skip size len : ℕ) (old image : List ℕ)
    → at + size ≤ length image → from + length old ≤ length image → old ≡ window from (length old) image
    → first + len ≤ length old → skip + len ≤ size → (0 < len → from + first ≡ at + skip)
    → ((k : ℕ) → k < length old → at ≤ from + k → from + k < at + size → (first ≤ k) × (k < first + len))
    → replaced first (replicate len erased_byte) old ≡ window from (length old) (replaced at (replicate size erased_byte) image)
laid_erased from at first skip size len old image inside there shows fits within same all =
    let few = length-replicate len erased_byte in
    let many = length-replicate size erased_byte in
    laid_part from at first skip (replicate len erased_byte) (replicate size erased_byte) old image
    (omega arith) there shows (omega arith) (omega arith) (λ some. same (omega arith))
    (λ k h low high. let a = all k h low (omega arith) in (a.0, omega arith))
    (λ j h. get_or-replicate len j erased_byte 0 (omega arith) ∙ sym (get_or-replicate size (skip + j) erased_byte 0 (omega arith)))

-- of bytes that are programmed, those in the buffer are programmed
pub laid_programmed : (from at first skip : ℕ) (some bytes old image : List ℕ)
    → at + length bytes ≤ length image → from + length old ≤ length image → old ≡ window from (length old) image
    → first + length some ≤ length old → skip + length some ≤ length bytes → (0 < length some → from + first ≡ at + skip)
    → ((k : ℕ) → k < length old → at ≤ from + k → from + k < at + length bytes → (first ≤ k) × (k < first + length some))
    → ((j : ℕ) → j < length some → get_or some j 0 ≡ get_or bytes (skip + j) 0)
    → programmed first some old ≡ window from (length old) (programmed at bytes image)
laid_programmed from at first skip some bytes old image inside there shows fits within same all alike =
    let was = window first (length some) old in
    let had = window at (length bytes) image in
    let few : length was ≡ length some = length-window first (length some) old fits in
    let many : length had ≡ length bytes = length-window at (length bytes) image inside in
    let short = length-both_bits was some few in
    let long = length-both_bits had bytes many in
    laid_part from at first skip (both_bits was some) (both_bits had bytes) old image
    (omega arith) there shows (omega arith) (omega arith) (λ any. same (omega arith))
    (λ k h low high. let a = all k h low (omega arith) in (a.0, omega arith))
    (λ j h.
    let below : j < length some = omega arith in
    let place = same (omega arith) in
    let there_j : at + (skip + j) ≡ from + (first + j) = omega arith in
    get_or-both_bits was some j few
    ∙ ap₂ bit_and (get_or-window first (length some) old j below ∙ kept (first + j) (omega arith) ∙ sym (ap (λ i. get_or image i 0) there_j) ∙ sym (get_or-window at (length bytes) image (skip + j) (omega arith))) (alike j below)
    ∙ sym (get_or-both_bits had bytes (skip + j) many))
  where
    kept : (k : ℕ) → k < length old → get_or old k 0 ≡ get_or image (from + k) 0
    kept k h = ap (λ (xs : List ℕ). get_or xs k 0) shows ∙ get_or-window from (length old) image k h
