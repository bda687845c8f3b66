-- A flat image whose bytes are replaced inside one sector.
use Rattle.std.proofs.Common.{◌≡◌, ℕ, zero, suc, ◌+◌, ◌-◌, ◌*◌, ◌<◌, ◌≤◌, List, ◌∷◌, ◌++◌, length, take, drop, map, set, refl, sym, ap, ◌∙◌, arith, length-append, length-drop}
use Rattle.std.proofs.Math.Nat.{mul-le-mul_right}
use Rattle.std.proofs.Math.Seq.{take-append-add, drop-append-add}
use Rattle.std.proofs.lemmas.List.{map-set, length-take-le, take-append-le, drop-append-le, take-take, drop-take, drop-drop}
use Rattle.jffs_flash.specs.Image.{replaced}
use Rattle.jffs_log.specs.Image.{sector_of}
use Rattle.jffs_log.specs.Volume.{split, sector_bytes, sectors_in}

pub length-split : (count len : ℕ) (image : List ℕ) → length (split count len image) ≡ count
length-split zero len image = refl
length-split (suc count) len image = let more = length-split count len (drop len image) in omega arith

pub sector_fits : (count len k : ℕ) → k < count → k * len + len ≤ count * len
sector_fits count len k below = let more : suc k ≤ count = below in omega (arith, mul-le-mul_right len more)

pub length-sector : (count len k : ℕ) (image : List ℕ) → length image ≡ count * len → k < count → length (sector_bytes len k image) ≡ len
length-sector count len k image whole below =
    let fits = sector_fits count len k below in
    let e = length-drop (k * len) image in
    length-take-le len (drop (k * len) image) (omega arith)

pub length-replaced : (at : ℕ) (part image : List ℕ) → at + length part ≤ length image → length (replaced at part image) ≡ length image
length-replaced at part image h =
    let e = length-append (take at image ++ part) (drop (at + length part) image) in
    let f = length-append (take at image) part in
    let front = length-take-le at image (omega arith) in
    let back = length-drop (at + length part) image in
    omega arith

-- the first sector holds the change
inside_first : (len at : ℕ) (part image : List ℕ) → at + length part ≤ len → len ≤ length image
    → (take len (replaced at part image) ≡ replaced at part (take len image)) × (drop len (replaced at part image) ≡ drop len image)
inside_first len at part image h long =
    let front = take at image ++ part in
    let back = drop (at + length part) image in
    let r = len - (at + length part) in
    let short = length-take-le at image (omega arith) in
    let f : length front ≡ at + length part = length-append (take at image) part ∙ ap (λ k. k + length part) short in
    let sum : len ≡ length front + r = omega arith in
    let whole : at + length part + r ≡ len = omega arith in (
      ap (λ k. take k (front ++ back)) sum
          ∙ take-append-add front back r
          ∙ ap (λ (xs : List ℕ). front ++ xs) (sym (drop-take (at + length part) r image))
          ∙ ap (λ k. front ++ drop (at + length part) (take k image)) whole
          ∙ ap (λ (xs : List ℕ). xs ++ part ++ drop (at + length part) (take len image)) (sym (take-take at len image (omega arith))),
      ap (λ k. drop k (front ++ back)) sum
          ∙ drop-append-add front back r
          ∙ drop-drop r (at + length part) image
          ∙ ap (λ k. drop k image) whole,
    )

-- a later sector holds the change
inside_later : (len at : ℕ) (part image : List ℕ) → len + at + length part ≤ length image
    → (take len (replaced (len + at) part image) ≡ take len image) × (drop len (replaced (len + at) part image) ≡ replaced at part (drop len image))
inside_later len at part image h =
    let start = take (len + at) image in
    let back = drop (len + at + length part) image in
    let short : length start ≡ len + at = length-take-le (len + at) image (omega arith) in
    let f = length-append start part in
    let sums : len + at + length part ≡ len + (at + length part) = omega arith in (
      take-append-le len (start ++ part) back (omega arith) ∙ take-append-le len start part (omega arith) ∙ take-take len (len + at) image (omega arith),
      drop-append-le len (start ++ part) back (omega arith)
          ∙ ap (λ (xs : List ℕ). xs ++ back) (drop-append-le len start part (omega arith))
          ∙ ap (λ (xs : List ℕ). xs ++ part ++ back) (drop-take len at image)
          ∙ ap (λ k. take at (drop len image) ++ part ++ drop k image) sums
          ∙ ap (λ (xs : List ℕ). take at (drop len image) ++ part ++ xs) (sym (drop-drop (at + length part) len image)),
    )

pub split_replaced : (count len k p : ℕ) (part image : List ℕ) → k < count → p + length part ≤ len → length image ≡ count * len
    → split count len (replaced (k * len + p) part image) ≡ set (split count len image) k (replaced p part (sector_bytes len k image))
split_replaced zero len k p part image h fits long = absurd (omega arith)
split_replaced (suc count) len zero p part image h fits long =
    let both = inside_first len p part image fits (omega arith) in
    let at : 0 * len + p ≡ p = omega arith in
    let there : 0 ≡ 0 * len = omega arith in
    ap (λ j. split (suc count) len (replaced j part image)) at
    ∙ ap (λ (xs : List ℕ). xs ∷ split count len (drop len (replaced p part image))) both.0
    ∙ ap (λ (xs : List ℕ). replaced p part (take len image) ∷ split count len xs) both.1
    ∙ ap (λ j. replaced p part (take len (drop j image)) ∷ split count len (drop len image)) there
split_replaced (suc count) len (suc k) p part image h fits long =
    let room = sector_fits count len k (omega arith) in
    let both = inside_later len (k * len + p) part image (omega arith) in
    let at : suc k * len + p ≡ len + (k * len + p) = omega arith in
    let rest = length-drop len image in
    let there : len + k * len ≡ suc k * len = omega arith in
    ap (λ j. split (suc count) len (replaced j part image)) at
    ∙ ap (λ (xs : List ℕ). xs ∷ split count len (drop len (replaced (len + (k * len + p)) part image))) both.0
    ∙ ap (λ (xs : List ℕ). take len image ∷ split count len xs) both.1
    ∙ ap (λ (xs : List (List ℕ)). take len image ∷ xs) (split_replaced count len k p part (drop len image) (omega arith) fits (omega arith))
    ∙ ap (λ (xs : List ℕ). take len image ∷ set (split count len (drop len image)) k (replaced p part (take len xs))) (drop-drop (k * len) len image)
    ∙ ap (λ j. take len image ∷ set (split count len (drop len image)) k (replaced p part (take len (drop j image)))) there

pub sectors_replaced : (count len k p : ℕ) (part image : List ℕ) → k < count → p + length part ≤ len → length image ≡ count * len
    → sectors_in count len (replaced (k * len + p) part image) ≡ set (sectors_in count len image) k (sector_of (replaced p part (sector_bytes len k image)))
sectors_replaced count len k p part image h fits long =
    ap (map sector_of) (split_replaced count len k p part image h fits long) ∙ map-set sector_of (split count len image) k (replaced p part (sector_bytes len k image))
