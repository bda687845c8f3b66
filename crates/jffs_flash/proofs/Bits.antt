-- Bytes of which both bits are kept.
use Rattle.std.proofs.Common.{◌≡◌, ℕ, zero, suc, ◌+◌, ◌≤◌, List, [], ◌∷◌, ◌++◌, length, take, drop, get_or, refl, arith, length-append, length-drop}
use Rattle.std.specs.Int.Bits.{bit_and}
use Rattle.std.proofs.lemmas.List.{length-take-le}
use Rattle.jffs_flash.specs.Image.{window, programmed, both_bits}

pub length-both_bits : (old bytes : List ℕ) → length old ≡ length bytes → length (both_bits old bytes) ≡ length bytes
length-both_bits [] bytes e = e
length-both_bits (o ∷ old) [] e = refl
length-both_bits (o ∷ old) (b ∷ bytes) e = omega (arith, length-both_bits old bytes (omega arith))

pub get_or-both_bits : (old bytes : List ℕ) (k : ℕ) → length old ≡ length bytes → get_or (both_bits old bytes) k 0 ≡ bit_and (get_or old k 0) (get_or bytes k 0)
get_or-both_bits [] [] k e = refl
get_or-both_bits [] (b ∷ bytes) k e = absurd (omega arith)
get_or-both_bits (o ∷ old) [] k e = absurd (omega arith)
get_or-both_bits (o ∷ old) (b ∷ bytes) zero e = refl
get_or-both_bits (o ∷ old) (b ∷ bytes) (suc k) e = get_or-both_bits old bytes k (omega arith)

pub length-programmed : (at : ℕ) (bytes image : List ℕ) → at + length bytes ≤ length image → length (programmed at bytes image) ≡ length image
length-programmed at bytes image h =
    let was = window at (length bytes) image in
    let part = both_bits was bytes in
    let rest = length-drop at image in
    let seen : length was ≡ length bytes = length-take-le (length bytes) (drop at image) (omega arith) in
    let long = length-both_bits was bytes seen in
    let whole = length-append (take at image ++ part) (drop (at + length part) image) in
    let begun = length-append (take at image) part in
    let front = length-take-le at image (omega arith) in
    let back = length-drop (at + length part) image in
    omega arith
