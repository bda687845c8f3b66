-- What a store holds once bytes in memory were written through, and what may be left of a call that
-- failed.
use Rattle.std.proofs.Common.{◌≡◌, ℕ, zero, suc, ◌+◌, ◌*◌, ◌<◌, ◌≤◌, List, [], ◌∷◌, ◌++◌, length, take, drop, replicate, Some, refl, sym, ap, subst₂, ◌∙◌, arith, append_assoc, length-append, length-drop}
use Rattle.std.specs.Prelude.{Option, Result, Ok, Err, MatchResult}
use Rattle.std.proofs.lemmas.List.{length-take-le, length-replicate, take-append-drop, drop-drop}
use Rattle.std.proofs.Math.Nat.{mul-le-mul_right}
use Rattle.jffs_flash.specs.Image.{window, replaced, both_bits, programmed, erased, erased_byte, AreBetween, IsHalfProgrammed, IsHalfErased}
use Rattle.jffs_flash.proofs.Bits.{length-both_bits}
use Rattle.jffs_flash.proofs.Halves.{between_new, between_old, length-window}
use Rattle.jffs_flash.proofs.Replaced.{replaced_over, replaced_same, window-replaced}
use Rattle.jffs_file.specs.Kept.{IsLeftAs}
use Rattle.jffs_file.specs.Stored.{first_part, Overwrites}

-- all bytes new
between_all : (old bytes : List ℕ) → length old ≡ length bytes → AreBetween old bytes (both_bits old bytes)
between_all [] [] e = tt
between_all [] (b ∷ bytes) e = absurd (omega arith)
between_all (o ∷ old) [] e = absurd (omega arith)
between_all (o ∷ old) (b ∷ bytes) e = (between_new o b, between_all old bytes (omega arith))

-- the first bytes new, the others old
between_part : (count : ℕ) (old bytes : List ℕ) → length old ≡ length bytes
    → AreBetween old bytes (first_part count (both_bits old bytes) old)
between_part zero [] [] e = tt
between_part (suc count) [] [] e = tt
between_part zero [] (b ∷ bytes) e = absurd (omega arith)
between_part (suc count) [] (b ∷ bytes) e = absurd (omega arith)
between_part zero (o ∷ old) [] e = absurd (omega arith)
between_part (suc count) (o ∷ old) [] e = absurd (omega arith)
between_part zero (o ∷ old) (b ∷ bytes) e = (between_old o b, between_part zero old bytes (omega arith))
between_part (suc count) (o ∷ old) (b ∷ bytes) e = (between_new o b, between_part count old bytes (omega arith))

-- what was put into an image keeps its length
length-replaced : (at : ℕ) (part image : List ℕ) → at + length part ≤ length image → length (replaced at part image) ≡ length image
length-replaced at part image inside =
    omega (
      arith,
      length-append (take at image ++ part) (drop (at + length part) image),
      length-append (take at image) part,
      length-take-le at image (omega arith),
      length-drop (at + length part) image,
    )

-- a program that was done in memory leaves what one may leave that failed
pub all_programmed : (at : ℕ) (bytes image : List ℕ) → at + length bytes ≤ length image
    → IsHalfProgrammed at bytes image (programmed at bytes image)
all_programmed at bytes image inside = record {
  left = both_bits (window at (length bytes) image) bytes;
  between = between_all (window at (length bytes) image) bytes (length-window at (length bytes) image inside);
  rest = refl;
}

-- an erase that was done in memory leaves what one may leave that failed
pub all_erased : (size sector : ℕ) (image : List ℕ) → IsHalfErased (sector * size) size image (erased size sector image)
all_erased size sector image = record {
  left = replicate size erased_byte;
  long = length-replicate size erased_byte;
  rest = refl;
}

-- these bytes were written over those of a store, if it says what it holds
abbrev PutsAll : ℕ → List ℕ → Option (List ℕ) → Option (List ℕ) → Type 0
PutsAll at bytes old new =
    (image : List ℕ) → old ≡ Some image → at + length bytes ≤ length image → new ≡ Some (replaced at bytes image)

-- or a first part of them
abbrev PutsPart : ℕ → List ℕ → Option (List ℕ) → Option (List ℕ) → Type 0
PutsPart at bytes old new =
    (image : List ℕ) → old ≡ Some image → at + length bytes ≤ length image
    → (count : ℕ) × (new ≡ Some (replaced at (first_part count bytes (window at (length bytes) image)) image))

-- what is so of the bytes that are read from memory where a part was put is so of that part
of_put : (Puts : ℕ → List ℕ → Type 0) (offset at len n : ℕ) (part image now : List ℕ)
    → offset ≡ at → len ≡ n → length part ≡ n → at + n ≤ length image → now ≡ replaced at part image
    → Puts offset (window offset len now) → Puts at part
of_put Puts offset at len n part image now there many long inside is =
    let read : window offset len now ≡ part = (λ i. window (there i) ((many ∙ sym long) i) (is i)) ∙ window-replaced at part image (omega arith) in
    subst₂ Puts there read

-- after a write that passed the store holds what stands in memory
pub kept_written : (offset at len n : ℕ) (part image now : List ℕ) (old new : Option (List ℕ))
    → offset ≡ at → len ≡ n → length part ≡ n → at + n ≤ length image → now ≡ replaced at part image
    → PutsAll offset (window offset len now) old new
    → old ≡ Some image
    → new ≡ Some now
kept_written offset at len n part image now old new there many long inside is over same =
    of_put (λ p xs. PutsAll p xs old new) offset at len n part image now there many long inside is over image same (omega arith) ∙ ap (λ (xs : List ℕ). Some xs) (sym is)

-- after one that failed it holds a first part of that
pub left_written : (offset at len n : ℕ) (part image now : List ℕ) (old new : Option (List ℕ))
    → offset ≡ at → len ≡ n → length part ≡ n → at + n ≤ length image → now ≡ replaced at part image
    → PutsPart offset (window offset len now) old new
    → old ≡ Some image
    → (count : ℕ) × (new ≡ Some (replaced at (first_part count part (window at n image)) image))
left_written offset at len n part image now old new there many long inside is over same =
    let some = of_put (λ p xs. PutsPart p xs old new) offset at len n part image now there many long inside is over image same (omega arith) in
    (some.0, some.1 ∙ ap (λ k. Some (replaced at (first_part some.0 part (window at k image)) image)) long)

-- the new bytes of a program are as many as were given
pub length-new : (at : ℕ) (bytes image : List ℕ) → at + length bytes ≤ length image
    → length (both_bits (window at (length bytes) image) bytes) ≡ length bytes
length-new at bytes image inside =
    length-both_bits (window at (length bytes) image) bytes (length-window at (length bytes) image inside)

-- a first part of the new bytes is what a program may leave that failed
pub part_programmed : (at count : ℕ) (bytes image : List ℕ) → at + length bytes ≤ length image
    → IsHalfProgrammed at bytes image
    (replaced at (first_part count (both_bits (window at (length bytes) image) bytes) (window at (length bytes) image)) image)
part_programmed at count bytes image inside = record {
  left = first_part count (both_bits (window at (length bytes) image) bytes) (window at (length bytes) image);
  between = between_part count (window at (length bytes) image) bytes (length-window at (length bytes) image inside);
  rest = refl;
}

-- a first part of two lists of one length is as long
length-part : (count : ℕ) (xs ys : List ℕ) → length xs ≡ length ys → length (first_part count xs ys) ≡ length ys
length-part zero xs ys e = refl
length-part (suc count) [] [] e = refl
length-part (suc count) [] (y ∷ ys) e = absurd (omega arith)
length-part (suc count) (x ∷ xs) [] e = absurd (omega arith)
length-part (suc count) (x ∷ xs) (y ∷ ys) e = omega (arith, length-part count xs ys (omega arith))

-- a sector lies inside the device
pub sector_inside : (sector sectors size : ℕ) (image : List ℕ) → sector < sectors → length image ≡ sectors * size
    → sector * size + size ≤ length image
sector_inside sector sectors size image below whole =
    let within : suc sector * size ≤ sectors * size = mul-le-mul_right size below in
    omega (arith, within)

-- what stands in a range, put there once more
pub window_again : (at n : ℕ) (image : List ℕ) → at + n ≤ length image → replaced at (window at n image) image ≡ image
window_again at n image inside =
    let long = length-window at n image inside in
    replaced_same at (window at n image) image (omega (arith, long)) (ap (λ k. window at k image) long)

-- what follows a short part, cut where a longer window ends
window_rest : (n k : ℕ) (xs : List ℕ) → k ≤ n → drop k xs ≡ drop k (take n xs) ++ drop n xs
window_rest n zero xs h = sym (take-append-drop n xs)
window_rest zero (suc k) xs h = absurd (omega arith)
window_rest (suc n) (suc k) [] h = refl
window_rest (suc n) (suc k) (x ∷ xs) h = window_rest n k xs (omega arith)

-- a range of which some first bytes were written over may be left by an erase that failed
pub half_erased_by : (at n : ℕ) (part image : List ℕ) → length part ≤ n → at + n ≤ length image
    → IsHalfErased at n image (replaced at part image)
half_erased_by at n part image short inside =
    let front = take at image in
    let rest = drop at image in
    let middle = drop (length part) (window at n image) in
    let back = drop (at + n) image in
    let long = length-window at n image inside in
    let whole : length (part ++ middle) ≡ n =
    omega (arith, length-append part middle, length-drop (length part) (window at n image), long) in
    let cut : drop (at + length part) image ≡ middle ++ back =
    sym (drop-drop (length part) at image)
    ∙ window_rest n (length part) rest short
    ∙ ap (λ (xs : List ℕ). middle ++ xs) (drop-drop n at image) in
    record {
      left = part ++ middle;
      long = whole;
      rest =
          ap (λ (xs : List ℕ). front ++ part ++ xs) cut
          ∙ sym (append_assoc (front ++ part) middle back)
          ∙ ap (λ (xs : List ℕ). xs ++ back) (append_assoc front part middle)
          ∙ ap (λ k. front ++ (part ++ middle) ++ drop (at + k) image) (sym whole);
    }

-- so may one that nothing was done to
pub half_erased_none : (at n : ℕ) (image : List ℕ) → at + n ≤ length image → IsHalfErased at n image image
half_erased_none at n image inside =
    record {
      left = window at n image;
      long = length-window at n image inside;
      rest = sym (window_again at n image inside);
    }

-- all of a range that an erase may have left, written over
pub half_erased_over : (at n : ℕ) (part image mid : List ℕ) → length part ≡ n → at + n ≤ length image
    → IsHalfErased at n image mid → replaced at part mid ≡ replaced at part image
half_erased_over at n part image mid long inside half =
    ap (λ (xs : List ℕ). replaced at part xs) half.rest
    ∙ replaced_over at half.left part image (omega (arith, long, half.long)) (omega (arith, long))

-- and a part of it
pub half_erased_more : (at n : ℕ) (part image mid : List ℕ) → length part ≡ n → at + n ≤ length image
    → IsHalfErased at n image mid → IsHalfErased at n image (replaced at part mid)
half_erased_more at n part image mid long inside half =
    record { left = part; long = long; rest = half_erased_over at n part image mid long inside half }

-- it is as long as before
pub length-half_erased : (at n : ℕ) (image mid : List ℕ) → at + n ≤ length image → IsHalfErased at n image mid
    → length mid ≡ length image
length-half_erased at n image mid inside half =
    ap (λ (xs : List ℕ). length xs) half.rest ∙ length-replaced at half.left image (omega (arith, half.long))

-- after a range was written over that held any bytes, the store holds what stands in memory
pub kept_rewritten : (offset at len n : ℕ) (part image now : List ℕ) (old new : Option (List ℕ))
    → offset ≡ at → len ≡ n → length part ≡ n → at + n ≤ length image → now ≡ replaced at part image
    → ((image : List ℕ) → old ≡ Some image → offset + len ≤ length image → new ≡ Some (replaced offset (window offset len now) image))
    → old ≡ Some image
    → new ≡ Some now
kept_rewritten offset at len n part image now old new there many long inside is over same =
    of_put (λ p xs. new ≡ Some (replaced p xs image)) offset at len n part image now there many long inside is
    (over image same (omega (arith, there, many)))
    ∙ ap (λ (xs : List ℕ). Some xs) (sym is)

-- after a call that failed there it holds any bytes in that range
pub left_rewritten : (offset at len n : ℕ) (image : List ℕ) (old new : Option (List ℕ))
    → offset ≡ at → len ≡ n → at + n ≤ length image
    → ((image : List ℕ) → old ≡ Some image → offset + len ≤ length image → IsLeftAs new (IsHalfErased offset len image))
    → old ≡ Some image
    → IsLeftAs new (IsHalfErased at n image)
left_rewritten offset at len n image old new there many inside left same =
    subst₂ (λ a k. IsLeftAs new (IsHalfErased a k image)) there many (left image same (omega (arith, there, many)))

-- bytes that were written over the first ones of a range, or a first part of them, change only that range
pub changed_by : {A E : Type 0} (at size : ℕ) (bytes image : List ℕ) (result : Result A E) (new : Option (List ℕ))
    → length bytes ≤ size → at + size ≤ length image
    → MatchResult result
    (λ _. new ≡ Some (replaced at bytes image))
    (λ _. (count : ℕ) × (new ≡ Some (replaced at (first_part count bytes (window at (length bytes) image)) image)))
    → IsLeftAs new (IsHalfErased at size image)
changed_by at size bytes image (Ok x) new short inside written =
    record { image = replaced at bytes image; same = written; left = half_erased_by at size bytes image short inside }
changed_by at size bytes image (Err e) new short inside written =
    let old = window at (length bytes) image in
    let part = first_part written.0 bytes old in
    let long = length-window at (length bytes) image (omega arith) in
    let same : length part ≡ length old = length-part written.0 bytes old (sym long) in
    record {
      image = replaced at part image;
      same = written.1;
      left = half_erased_by at size part image (omega (arith, same, long)) inside;
    }

-- a whole range that an erase may have left, written over, or a first part of it
pub rewritten : {A E : Type 0} (at size : ℕ) (bytes image : List ℕ) (result : Result A E) (mid new : Option (List ℕ))
    → length bytes ≡ size → at + size ≤ length image → IsLeftAs mid (IsHalfErased at size image)
    → Overwrites at bytes result mid new
    → MatchResult result (λ _. new ≡ Some (replaced at bytes image)) (λ _. IsLeftAs new (IsHalfErased at size image))
rewritten at size bytes image (Ok x) mid new long inside left over =
    let all = length-half_erased at size image left.image inside left.left in
    over left.image left.same (omega (arith, all, long))
    ∙ ap (λ (xs : List ℕ). Some xs) (half_erased_over at size bytes image left.image long inside left.left)
rewritten at size bytes image (Err e) mid new long inside left over =
    let all = length-half_erased at size image left.image inside left.left in
    let some = over left.image left.same (omega (arith, all, long)) in
    let old = window at (length bytes) left.image in
    let part = first_part some.0 bytes old in
    let whole = length-window at (length bytes) left.image (omega (arith, all, long)) in
    let same : length part ≡ length old = length-part some.0 bytes old (sym whole) in
    record {
      image = replaced at part left.image;
      same = some.1;
      left = half_erased_more at size part image left.image (same ∙ whole ∙ long) inside left.left;
    }
