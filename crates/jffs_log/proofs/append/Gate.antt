-- The two programs of a record.
use Rattle.std.proofs.Common.{◌≡◌, inl, inr, ℕ, zero, suc, ◌+◌, ◌-◌, ◌<◌, ◌≤◌, true, List, [], ◌∷◌, ◌++◌, length, take, drop, replicate, set, get_or, refl, sym, ap, subst, ◌∙◌, arith, append_assoc, length-append}
use Rattle.std.specs.Int.Bits.{bit_and, and_zero_r}
use Rattle.std.proofs.lemmas.Nat.{and_comm}
use Rattle.std.proofs.lemmas.Bool.Decides.{eqb_tells}
use Rattle.std.proofs.Math.Seq.{drop-cons}
use Rattle.std.proofs.lemmas.Grind.{and_numeral}
use Rattle.std.proofs.lemmas.List.{ext_get_or, get_or-replicate, length-replicate, length-set, length-take-le, set_split, set-append_left, set-append_right}
use Rattle.jffs_node.specs.declared.node.Node.{Node}
use Rattle.jffs_node.specs.Record.{spelling, spelling_open, record_len, is_lawful}
use Rattle.jffs_node.proofs.Found.{length_spelled}
use Rattle.jffs_flash.specs.Image.{window, replaced, both_bits, programmed, IsBetween, AreBetween, IsHalfProgrammed}
use Rattle.jffs_flash.proofs.Bits.{length-both_bits, get_or-both_bits}
use Rattle.jffs_log.specs.Gate.{IsWritten}
use Rattle.jffs_log.proofs.ring.Volume.{length-replaced}

and_ones : (b : ℕ) → b < 256 → bit_and 255 b ≡ b
and_ones b h = and_comm 255 b ∙ and_numeral b 254 refl ∙ omega arith

-- erased flash takes any bytes
both_erased : (k : ℕ) (bytes : List ℕ) → length bytes ≡ k → ((i : ℕ) → get_or bytes i 0 < 256) → both_bits (replicate k 255) bytes ≡ bytes
both_erased k bytes long fit =
    let ones : length {A = ℕ} (replicate k 255) ≡ k = length-replicate k 255 in
    let same : length {A = ℕ} (replicate k 255) ≡ length bytes = omega arith in
    let all = length-both_bits (replicate k 255) bytes same in
    ext_get_or 0 (both_bits (replicate k 255) bytes) bytes all
    (λ i h. let below : i < k = omega arith in
    get_or-both_bits (replicate k 255) bytes i same
    ∙ ap (λ o. bit_and o (get_or bytes i 0)) {x = get_or (replicate k 255) i 0} (get_or-replicate k i 255 0 below)
    ∙ and_ones (get_or bytes i 0) (fit i))

pub programmed_erased : (at : ℕ) (bytes image : List ℕ) → window at (length bytes) image ≡ replicate (length bytes) 255 → ((i : ℕ) → get_or bytes i 0 < 256) → programmed at bytes image ≡ replaced at bytes image
programmed_erased at bytes image erased fit =
    ap (λ (xs : List ℕ). replaced at xs image) (ap (λ (xs : List ℕ). both_bits xs bytes) erased ∙ both_erased (length bytes) bytes refl fit)

-- what is left of a byte that was to stay, and of a list of bytes
pub between_long : (old bytes left : List ℕ) → AreBetween old bytes left → length left ≡ length bytes
between_long [] [] [] h = refl
between_long (o ∷ old) (b ∷ bytes) (l ∷ left) h = ap (λ k. suc k) (between_long old bytes left h.1)
between_long [] [] (l ∷ left) h = absurd h
between_long [] (b ∷ bytes) left h = absurd h
between_long (o ∷ old) [] left h = absurd h
between_long (o ∷ old) (b ∷ bytes) [] h = absurd h

between_at : (old bytes left : List ℕ) (k : ℕ) → AreBetween old bytes left → k < length bytes → IsBetween (get_or old k 0) (get_or bytes k 0) (get_or left k 0)
between_at [] [] [] k h below = absurd (omega arith)
between_at (o ∷ old) (b ∷ bytes) (l ∷ left) zero h below = h.0
between_at (o ∷ old) (b ∷ bytes) (l ∷ left) (suc k) h below = between_at old bytes left k h.1 (omega arith)
between_at [] [] (l ∷ left) k h below = absurd h
between_at [] (b ∷ bytes) left k h below = absurd h
between_at (o ∷ old) [] left k h below = absurd h
between_at (o ∷ old) (b ∷ bytes) [] k h below = absurd h

ones_stay : (l : ℕ) → IsBetween 255 255 l → l ≡ 255
ones_stay l h = sym h.only ∙ h.kept

-- one byte inside what was replaced
pub replaced_inside : (at k g : ℕ) (part image : List ℕ) → k < length part → at + length part ≤ length image → replaced (at + k) (g ∷ []) (replaced at part image) ≡ replaced at (set part k g) image
replaced_inside at k g part image below fits =
    let front = take at image in
    let back = drop (at + length part) image in
    let whole = replaced at part image in
    let short : length front ≡ at = length-take-le at image (omega arith) in
    let long = length-replaced at part image fits in
    let e = length-append front part in
    let j : at + k - at ≡ k = omega arith in
    let next : at + k + 1 ≡ suc (at + k) = omega arith in
    append_assoc (take (at + k) whole) (g ∷ []) (drop (at + k + 1) whole)
    ∙ ap (λ i. take (at + k) whole ++ g ∷ drop i whole) next
    ∙ sym (set_split whole (at + k) g (omega arith))
    ∙ set-append_left (front ++ part) back (at + k) g (omega arith)
    ∙ ap (λ (xs : List ℕ). xs ++ back) (set-append_right front part at (at + k) g short (omega arith))
    ∙ ap (λ i. front ++ set part i g ++ back) j
    ∙ ap (λ i. front ++ set part k g ++ drop (at + i) image) (sym (length-set part k g))

pub length-open : (n : Node) → is_lawful n ≡ true → length (spelling_open n) ≡ record_len n
length-open n lawful = length-set (spelling n) 7 255 ∙ length_spelled n lawful

gate_closed : (n : Node) → set (spelling_open n) 7 0 ≡ spelling n
gate_closed n = refl

gate_set : (n : Node) (g : ℕ) → get_or (set (spelling_open n) 7 g) 7 0 ≡ g
gate_set n g = refl

-- after the first program
pub first_half : (at : ℕ) (n : Node) (image new : List ℕ) → is_lawful n ≡ true → window at (record_len n) image ≡ replicate (record_len n) 255 → IsHalfProgrammed at (spelling_open n) image new → IsWritten at n image new
first_half at n image new lawful erased h =
    let long = length-open n lawful in
    let between = subst (λ (xs : List ℕ). AreBetween xs (spelling_open n) h.left) (ap (λ k. window at k image) long ∙ erased) h.between in
    let gate = between_at (replicate (record_len n) 255) (spelling_open n) h.left 7 between (omega arith) in
    let ones : get_or {A = ℕ} (replicate (record_len n) 255) 7 0 ≡ 255 = get_or-replicate (record_len n) 7 255 0 (omega arith) in
    let is : get_or h.left 7 0 ≡ 255 = ones_stay (get_or h.left 7 0) (subst (λ o. IsBetween o 255 (get_or h.left 7 0)) ones gate) in
    record {
      part = h.left;
      rest = h.rest;
      state = inr (between_long (replicate (record_len n) 255) (spelling_open n) h.left between ∙ long, λ e. absurd (omega arith));
    }

inside_record : (at : ℕ) (n : Node) (image : List ℕ) (g : ℕ) → is_lawful n ≡ true → at + record_len n ≤ length image → replaced (at + 7) (g ∷ []) (replaced at (spelling_open n) image) ≡ replaced at (set (spelling_open n) 7 g) image
inside_record at n image g lawful fits = let long = length-open n lawful in replaced_inside at 7 g (spelling_open n) image (omega arith) (omega arith)

one_byte : (at : ℕ) (image : List ℕ) → at < length image → window at 1 image ≡ get_or image at 0 ∷ []
one_byte at image h = ap (λ (xs : List ℕ). take 1 xs) (drop-cons image at 0 h)

-- after the second program
pub second_whole : (at : ℕ) (n : Node) (image : List ℕ) → is_lawful n ≡ true → at + record_len n ≤ length image
    → programmed (at + 7) (0 ∷ []) (replaced at (spelling_open n) image) ≡ replaced at (spelling n) image
second_whole at n image lawful fits =
    let mid = replaced at (spelling_open n) image in
    let long = length-open n lawful in
    let same = length-replaced at (spelling_open n) image (omega arith) in
    ap (λ (xs : List ℕ). replaced (at + 7) (both_bits xs (0 ∷ [])) mid) (one_byte (at + 7) mid (omega arith))
    ∙ ap (λ b. replaced (at + 7) (b ∷ []) mid) (and_zero_r (get_or mid (at + 7) 0))
    ∙ inside_record at n image 0 lawful fits

pub second_half : (at : ℕ) (n : Node) (image new : List ℕ) → is_lawful n ≡ true → at + record_len n ≤ length image → IsHalfProgrammed (at + 7) (0 ∷ []) (replaced at (spelling_open n) image) new → IsWritten at n image new
second_half at n image new lawful fits h =
    let long = length-open n lawful in
    let g = get_or h.left 0 0 in
    let one = one_left h.left (between_long (window (at + 7) 1 (replaced at (spelling_open n) image)) (0 ∷ []) h.left h.between) in
    record {
      part = set (spelling_open n) 7 g;
      rest = h.rest ∙ ap (λ (xs : List ℕ). replaced (at + 7) xs (replaced at (spelling_open n) image)) one ∙ inside_record at n image g lawful fits;
      state = elim (eqb_tells g 0) [
        | inl closed ↦ inl (ap (λ b. set (spelling_open n) 7 b) closed.1 ∙ gate_closed n)
        | inr open_gate ↦ inr (length-set (spelling_open n) 7 g ∙ long, λ e. open_gate.1 (sym (gate_set n g) ∙ e))
      ];
    }
  where
    one_left : (xs : List ℕ) → length xs ≡ 1 → xs ≡ get_or xs 0 0 ∷ []
    one_left [] e = absurd (omega arith)
    one_left (x ∷ []) e = refl
    one_left (x ∷ y ∷ xs) e = absurd (omega arith)
