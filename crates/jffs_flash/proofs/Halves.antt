-- What a failing call leaves lies between the old image and the new one.
use Rattle.std.proofs.Common.{◌≡◌, ℕ, zero, suc, ◌+◌, ◌*◌, ◌/◌, ◌≤◌, List, [], ◌∷◌, ◌++◌, length, take, drop, replicate, refl, sym, ap, ◌∙◌, arith, append_assoc, length-append, length-drop, add-zero}
use Rattle.std.specs.Int.Bits.{bit_and, and_self}
use Rattle.std.proofs.lemmas.Nat.{and_assoc, and_comm}
use Rattle.std.proofs.lemmas.List.{take-append-drop, length-take-le, length-replicate, drop-drop, take-take, append-nil}
use Rattle.jffs_flash.specs.declared.fuse.Fail.{Fail}
use Rattle.jffs_flash.specs.declared.fuse.Fail.TheVariants.{Nothing, Half}
use Rattle.jffs_flash.specs.Image.{window, replaced, both_bits, erased_byte, IsBetween, AreBetween, IsHalfProgrammed, IsHalfErased}
use Rattle.jffs_flash.specs.Fuse.{program_left, erase_left}
use Rattle.jffs_flash.proofs.Bits.{length-both_bits}

-- the new byte lies between
pub between_new : (o b : ℕ) → IsBetween o b (bit_and o b)
between_new o b = record {
  only = ap (λ x. bit_and x o) (and_comm o b) ∙ and_assoc o b o ∙ ap (λ x. bit_and b x) (and_self o) ∙ and_comm b o;
  kept = and_self (bit_and o b);
}

-- the old byte lies between
pub between_old : (o b : ℕ) → IsBetween o b o
between_old o b = record {
  only = and_self o;
  kept = sym (and_assoc b o o) ∙ ap (λ x. bit_and x b) (and_self o);
}

-- the first bytes new, the others old
between_mixed : (k : ℕ) (old bytes : List ℕ) → length old ≡ length bytes
    → AreBetween old bytes (both_bits (take k old) (take k bytes) ++ drop k old)
between_mixed zero [] [] e = tt
between_mixed (suc k) [] [] e = tt
between_mixed zero [] (b ∷ bytes) e = absurd (omega arith)
between_mixed (suc k) [] (b ∷ bytes) e = absurd (omega arith)
between_mixed zero (o ∷ old) [] e = absurd (omega arith)
between_mixed (suc k) (o ∷ old) [] e = absurd (omega arith)
between_mixed zero (o ∷ old) (b ∷ bytes) e = (between_old o b, between_mixed zero old bytes (omega arith))
between_mixed (suc k) (o ∷ old) (b ∷ bytes) e = (between_new o b, between_mixed k old bytes (omega arith))

-- what follows a short part, cut where a longer window ends
window_rest : (n k : ℕ) (xs : List ℕ) → k ≤ n → drop k xs ≡ drop k (take n xs) ++ drop n xs
window_rest n zero xs h = sym (take-append-drop n xs)
window_rest zero (suc k) xs h = absurd (omega arith)
window_rest (suc n) (suc k) [] h = refl
window_rest (suc n) (suc k) (x ∷ xs) h = window_rest n k xs (omega arith)

-- a window inside the image is as long as it says
pub length-window : (at n : ℕ) (image : List ℕ) → at + n ≤ length image → length (window at n image) ≡ n
length-window at n image inside =
    let room : n ≤ length (drop at image) = omega (arith, length-drop at image) in
    length-take-le n (drop at image) room

-- a window of which the first bytes are others is as long
pub length-part : (at n : ℕ) (part image : List ℕ) → length part ≤ n → at + n ≤ length image
    → length (part ++ drop (length part) (window at n image)) ≡ n
length-part at n part image short inside =
    let long = length-window at n image inside in
    omega (arith, length-append part (drop (length part) (window at n image)), length-drop (length part) (window at n image))

-- a change of the first bytes of a window is a change of the window
pub replaced_within : (at n : ℕ) (part image : List ℕ) → length part ≤ n → at + n ≤ length image
    → replaced at part image ≡ replaced at (part ++ drop (length part) (window at n image)) image
replaced_within at n part image short inside =
    let front = take at image in
    let rest = drop at image in
    let middle = drop (length part) (window at n image) in
    let back = drop (at + n) image in
    let cut : drop (at + length part) image ≡ middle ++ back =
    sym (drop-drop (length part) at image)
    ∙ window_rest n (length part) rest short
    ∙ ap (λ (xs : List ℕ). middle ++ xs) (drop-drop n at image) in
    let long = length-part at n part image short inside in
    ap (λ (xs : List ℕ). front ++ part ++ xs) cut
    ∙ sym (append_assoc (front ++ part) middle back)
    ∙ ap (λ (xs : List ℕ). xs ++ back) (append_assoc front part middle)
    ∙ ap (λ k. front ++ (part ++ middle) ++ drop (at + k) image) (sym long)

-- no bytes change nothing
replaced_none : (at : ℕ) (image : List ℕ) → image ≡ replaced at [] image
replaced_none at image =
    sym
    (ap (λ (xs : List ℕ). xs ++ drop (at + 0) image) (append-nil (take at image))
    ∙ ap (λ k. take at image ++ drop k image) (add-zero at)
    ∙ take-append-drop at image)

-- a failing program leaves each byte of its range between the old one and the new one
pub half_programmed : (fail : Fail) (at : ℕ) (bytes image : List ℕ) → at + length bytes ≤ length image
    → IsHalfProgrammed at bytes image (program_left fail at bytes image)
half_programmed Nothing at bytes image inside =
    let n = length bytes in
    record {
      left = window at n image;
      between = between_mixed 0 (window at n image) bytes (length-window at n image inside);
      rest = replaced_none at image ∙ replaced_within at n [] image (omega arith) inside;
    }
half_programmed Half at bytes image inside =
    let n = length bytes in
    let k = n / 2 in
    let old = window at n image in
    let some = take k bytes in
    let part = both_bits (take k old) some in
    let below : k ≤ n = omega arith in
    let long = length-window at n image inside in
    let few : length some ≡ k = length-take-le k bytes below in
    let fewer : length (take k old) ≡ k = length-take-le k old (omega arith) in
    let same : length part ≡ k = length-both_bits (take k old) some (fewer ∙ sym few) ∙ few in
    let seen : window at (length some) image ≡ take k old =
    ap (λ j. take j (drop at image)) few ∙ sym (take-take k n (drop at image) below) in
    record {
      left = part ++ drop k old;
      between = between_mixed k old bytes long;
      rest =
          ap (λ (xs : List ℕ). replaced at (both_bits xs some) image) seen
          ∙ replaced_within at n part image (omega arith) inside
          ∙ ap (λ j. replaced at (part ++ drop j old) image) same;
    }

-- a failing erase leaves the rest of the device alone
pub half_erased : (fail : Fail) (sector_size sector : ℕ) (image : List ℕ)
    → sector * sector_size + sector_size ≤ length image
    → IsHalfErased (sector * sector_size) sector_size image (erase_left fail sector_size sector image)
half_erased Nothing sector_size sector image inside =
    let at = sector * sector_size in
    record {
      left = window at sector_size image;
      long = length-window at sector_size image inside;
      rest = replaced_none at image ∙ replaced_within at sector_size [] image (omega arith) inside;
    }
half_erased Half sector_size sector image inside =
    let at = sector * sector_size in
    let part = replicate (sector_size / 2) erased_byte in
    let short : length part ≤ sector_size = omega (arith, length-replicate (sector_size / 2) erased_byte) in
    record {
      left = part ++ drop (length part) (window at sector_size image);
      long = length-part at sector_size part image short inside;
      rest = replaced_within at sector_size part image short inside;
    }
