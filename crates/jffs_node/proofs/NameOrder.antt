-- Names stand in the order of the numbers that their stored bytes spell.
use Rattle.std.proofs.Common.{◌≡◌, ℕ, zero, suc, ◌+◌, ◌-◌, ◌*◌, ◌<◌, ◌≤◌, true, ◌&&◌, ◌==◌, not, eqb, leb, List, [], ◌∷◌, ◌++◌, length, take, drop, replicate, refl, sym, ap, ◌∙◌, w32, w64, arith}
use Rattle.std.specs.List.{AllByRecursion, list_all}
use Rattle.std.specs.Int.{from_be_bytes}
use Rattle.std.specs.Prelude.{bytes_eq}
use Rattle.std.specs.Cmp.{nat_cmp_is, both_tied, unsigned_ties}
use Rattle.std.specs.Ordering.{nat_cmp, ordering_then, is_eq, MatchOrdering}
use Rattle.std.specs.declared.cmp.Ordering.{Ordering}
use Rattle.std.specs.declared.cmp.Ordering.TheVariants.{Less, Equal, Greater}
use Rattle.std.specs.Cmp.Lexicographic.{slice_cmp, texts_ties}
use Rattle.std.proofs.lemmas.Cmp.{ranked, nat_list_cmp_total, tied_itself}
use Rattle.std.proofs.lemmas.List.{take-append-drop, length-take, length-drop, drop-drop}
use Rattle.std.proofs.Math.Seq.{take-length}
use Rattle.std.proofs.lemmas.Bool.{and_parts, leb-true}
use Rattle.jffs_node.specs.Name.{is_name, is_name_byte, padded_name}
use Rattle.jffs_node.specs.Reading.{number_at, name_numbers}
use Rattle.jffs_node.proofs.Names.{long_enough, length-padded}

-- the number that bytes spell after `n`, the highest first
abbrev spelt : ℕ → List ℕ → ℕ
spelt n [] = n
spelt n (b ∷ bs) = spelt (n * 256 + b) bs

abbrev AreBytes : List ℕ → Type 0
AreBytes = AllByRecursion (λ b. b < 256)

-- a lower start stays lower
stays_lower : (n m : ℕ) (us vs : List ℕ) → length us ≡ length vs → AreBytes us → n < m → spelt n us < spelt m vs
stays_lower n m [] [] long small lower = lower
stays_lower n m [] (v ∷ vs) long small lower = absurd (omega arith)
stays_lower n m (u ∷ us) [] long small lower = absurd (omega arith)
stays_lower n m (u ∷ us) (v ∷ vs) long small lower =
    let byte : u < 256 = small.0 in
    stays_lower (n * 256 + u) (m * 256 + v) us vs (omega arith) small.1 (omega arith)

-- as many bytes stand in the order of what they spell
order_spelt : (n : ℕ) (us vs : List ℕ) → length us ≡ length vs → AreBytes us → AreBytes vs → nat_cmp (spelt n us) (spelt n vs) ≡ slice_cmp nat_cmp us vs
order_spelt n [] [] long a b = sym (nat_cmp_is n n Equal refl)
order_spelt n [] (v ∷ vs) long a b = absurd (omega arith)
order_spelt n (u ∷ us) [] long a b = absurd (omega arith)
order_spelt n (u ∷ us) (v ∷ vs) long a b = by (order_spelt (n * 256 + u) us vs (omega arith) a.1 b.1) (nat_cmp u v) refl (ranked u v _ refl)
  where
    by : nat_cmp (spelt (n * 256 + u) us) (spelt (n * 256 + u) vs) ≡ slice_cmp nat_cmp us vs → (r : Ordering) → nat_cmp u v ≡ r → MatchOrdering r (u < v) (u ≡ v) (v < u) → nat_cmp (spelt n (u ∷ us)) (spelt n (v ∷ vs)) ≡ slice_cmp nat_cmp (u ∷ us) (v ∷ vs)
    by rest Less e h =
        let lower : u < v = h in
        sym (nat_cmp_is _ _ Less (stays_lower (n * 256 + u) (n * 256 + v) us vs (omega arith) a.1 (omega arith)))
        ∙ sym (ap (λ r. ordering_then r (slice_cmp nat_cmp us vs)) e)
    by rest Equal e h =
        let same : u ≡ v = h in
        ap (λ w. nat_cmp (spelt (n * 256 + u) us) (spelt (n * 256 + w) vs)) (sym same)
        ∙ rest
        ∙ sym (ap (λ r. ordering_then r (slice_cmp nat_cmp us vs)) e)
    by rest Greater e h =
        let higher : v < u = h in
        sym (nat_cmp_is _ _ Greater (stays_lower (n * 256 + v) (n * 256 + u) vs us (omega arith) b.1 (omega arith)))
        ∙ sym (ap (λ r. ordering_then r (slice_cmp nat_cmp us vs)) e)

spelt_4 : (bs : List ℕ) → length bs ≡ 4 → from_be_bytes w32 bs ≡ spelt 0 bs
spelt_4 [] l = absurd (omega arith)
spelt_4 (a ∷ []) l = absurd (omega arith)
spelt_4 (a ∷ b ∷ []) l = absurd (omega arith)
spelt_4 (a ∷ b ∷ c ∷ []) l = absurd (omega arith)
spelt_4 (a ∷ b ∷ c ∷ d ∷ []) l = omega arith
spelt_4 (a ∷ b ∷ c ∷ d ∷ e ∷ bs) l = absurd (omega arith)

spelt_8 : (bs : List ℕ) → length bs ≡ 8 → from_be_bytes w64 bs ≡ spelt 0 bs
spelt_8 [] l = absurd (omega arith)
spelt_8 (a ∷ []) l = absurd (omega arith)
spelt_8 (a ∷ b ∷ []) l = absurd (omega arith)
spelt_8 (a ∷ b ∷ c ∷ []) l = absurd (omega arith)
spelt_8 (a ∷ b ∷ c ∷ d ∷ []) l = absurd (omega arith)
spelt_8 (a ∷ b ∷ c ∷ d ∷ e ∷ []) l = absurd (omega arith)
spelt_8 (a ∷ b ∷ c ∷ d ∷ e ∷ f ∷ []) l = absurd (omega arith)
spelt_8 (a ∷ b ∷ c ∷ d ∷ e ∷ f ∷ g ∷ []) l = absurd (omega arith)
spelt_8 (a ∷ b ∷ c ∷ d ∷ e ∷ f ∷ g ∷ h ∷ []) l = omega arith
spelt_8 (a ∷ b ∷ c ∷ d ∷ e ∷ f ∷ g ∷ h ∷ i ∷ bs) l = absurd (omega arith)

order_4 : (us vs : List ℕ) → length us ≡ 4 → length vs ≡ 4 → AreBytes us → AreBytes vs → nat_cmp (from_be_bytes w32 us) (from_be_bytes w32 vs) ≡ slice_cmp nat_cmp us vs
order_4 us vs l k a b = (λ i. nat_cmp (spelt_4 us l i) (spelt_4 vs k i)) ∙ order_spelt 0 us vs (omega arith) a b

order_8 : (us vs : List ℕ) → length us ≡ 8 → length vs ≡ 8 → AreBytes us → AreBytes vs → nat_cmp (from_be_bytes w64 us) (from_be_bytes w64 vs) ≡ slice_cmp nat_cmp us vs
order_8 us vs l k a b = (λ i. nat_cmp (spelt_8 us l i) (spelt_8 vs k i)) ∙ order_spelt 0 us vs (omega arith) a b

-- the first parts decide, and else the others
then_assoc : (r s t : Ordering) → ordering_then r (ordering_then s t) ≡ ordering_then (ordering_then r s) t
then_assoc Less s t = refl
then_assoc Equal s t = refl
then_assoc Greater s t = refl

order_append : (us vs xs ys : List ℕ) → length us ≡ length vs → slice_cmp nat_cmp (us ++ xs) (vs ++ ys) ≡ ordering_then (slice_cmp nat_cmp us vs) (slice_cmp nat_cmp xs ys)
order_append [] [] xs ys long = refl
order_append [] (v ∷ vs) xs ys long = absurd (omega arith)
order_append (u ∷ us) [] xs ys long = absurd (omega arith)
order_append (u ∷ us) (v ∷ vs) xs ys long =
    ap (ordering_then (nat_cmp u v)) (order_append us vs xs ys (omega arith))
    ∙ then_assoc (nat_cmp u v) (slice_cmp nat_cmp us vs) (slice_cmp nat_cmp xs ys)

order_split : (k : ℕ) (xs ys : List ℕ) → length xs ≡ length ys → slice_cmp nat_cmp xs ys ≡ ordering_then (slice_cmp nat_cmp (take k xs) (take k ys)) (slice_cmp nat_cmp (drop k xs) (drop k ys))
order_split k xs ys long =
    (λ i. slice_cmp nat_cmp (sym (take-append-drop k xs) i) (sym (take-append-drop k ys) i))
    ∙ order_append (take k xs) (take k ys) (drop k xs) (drop k ys) (omega (arith, length-take k xs, length-take k ys))

bytes_take : (k : ℕ) (xs : List ℕ) → AreBytes xs → AreBytes (take k xs)
bytes_take zero xs small = tt
bytes_take (suc k) [] small = tt
bytes_take (suc k) (x ∷ xs) small = (small.0, bytes_take k xs small.1)

bytes_drop : (k : ℕ) (xs : List ℕ) → AreBytes xs → AreBytes (drop k xs)
bytes_drop zero xs small = small
bytes_drop (suc k) [] small = tt
bytes_drop (suc k) (x ∷ xs) small = bytes_drop k xs small.1

-- lists of twenty bytes stand in the order of three numbers
order_20 : (xs ys : List ℕ) → length xs ≡ 20 → length ys ≡ 20 → AreBytes xs → AreBytes ys
    → ordering_then (ordering_then
    (nat_cmp (number_at w64 0 xs) (number_at w64 0 ys))
    (nat_cmp (number_at w64 8 xs) (number_at w64 8 ys)))
    (nat_cmp (number_at w32 16 xs) (number_at w32 16 ys)) ≡ slice_cmp nat_cmp xs ys
order_20 xs ys lx ly a b =
    let first = order_8 (take 8 xs) (take 8 ys) (length-take 8 xs ∙ omega arith) (length-take 8 ys ∙ omega arith) (bytes_take 8 xs a) (bytes_take 8 ys b) in
    let second = order_8 (take 8 (drop 8 xs)) (take 8 (drop 8 ys)) (omega (arith, length-take 8 (drop 8 xs), length-drop 8 xs)) (omega (arith, length-take 8 (drop 8 ys), length-drop 8 ys)) (bytes_take 8 (drop 8 xs) (bytes_drop 8 xs a)) (bytes_take 8 (drop 8 ys) (bytes_drop 8 ys b)) in
    let third = order_4 (take 4 (drop 16 xs)) (take 4 (drop 16 ys)) (omega (arith, length-take 4 (drop 16 xs), length-drop 16 xs)) (omega (arith, length-take 4 (drop 16 ys), length-drop 16 ys)) (bytes_take 4 (drop 16 xs) (bytes_drop 16 xs a)) (bytes_take 4 (drop 16 ys) (bytes_drop 16 ys b)) in
    let r = slice_cmp nat_cmp (take 8 xs) (take 8 ys) in
    let s = slice_cmp nat_cmp (take 8 (drop 8 xs)) (take 8 (drop 8 ys)) in
    let t = slice_cmp nat_cmp (drop 8 (drop 8 xs)) (drop 8 (drop 8 ys)) in
    (λ i. ordering_then (ordering_then (first i) (second i)) (third i))
    ∙ (λ i. ordering_then (ordering_then r s) (slice_cmp nat_cmp (last xs lx i) (last ys ly i)))
    ∙ sym (then_assoc r s t)
    ∙ sym (ap (ordering_then r) (order_split 8 (drop 8 xs) (drop 8 ys) (omega (arith, length-drop 8 xs, length-drop 8 ys))))
    ∙ sym (order_split 8 xs ys (lx ∙ sym ly))
  where
    last : (l : List ℕ) → length l ≡ 20 → take 4 (drop 16 l) ≡ drop 8 (drop 8 l)
    last l e =
        let four : 4 ≡ length (drop 16 l) = omega (arith, length-drop 16 l) in
        ap (λ k. take k (drop 16 l)) four ∙ take-length (drop 16 l) ∙ sym (drop-drop 8 8 l)

-- what a name has: no zero
abbrev ArePlain : List ℕ → Type 0
ArePlain = AllByRecursion (λ b. (0 < b) × (b < 256))

plain : (bs : List ℕ) → list_all is_name_byte bs ≡ true → ArePlain bs
plain [] h = tt
plain (b ∷ bs) h =
    let all = and_parts (is_name_byte b) (list_all is_name_byte bs) h in
    let both = and_parts (leb 33 b) (leb b 126) (and_parts (leb 33 b && leb b 126) (not (eqb b 47)) all.0).0 in
    let low = leb-true 33 b both.0 in
    let high = leb-true b 126 both.1 in
    ((omega arith, omega arith), plain bs all.1)

-- zeros behind names don't change the order
order_padded : (k m : ℕ) (a b : List ℕ) → length a + k ≡ length b + m → ArePlain a → ArePlain b
    → slice_cmp nat_cmp (a ++ replicate k 0) (b ++ replicate m 0) ≡ slice_cmp nat_cmp a b
order_padded k m [] [] long pa pb =
    let same : m ≡ k = omega arith in
    ap (λ n. slice_cmp nat_cmp (replicate k 0) (replicate n 0)) same ∙ tied_itself nat_list_cmp_total (replicate k 0)
order_padded zero m [] (v ∷ vs) long pa pb = absurd (omega arith)
order_padded (suc k) m [] (v ∷ vs) long pa pb =
    ap (λ r. ordering_then r (slice_cmp nat_cmp (replicate k 0) (vs ++ replicate m 0))) (sym (nat_cmp_is 0 v Less (pb.0.0)))
order_padded k zero (u ∷ us) [] long pa pb = absurd (omega arith)
order_padded k (suc m) (u ∷ us) [] long pa pb =
    ap (λ r. ordering_then r (slice_cmp nat_cmp (us ++ replicate k 0) (replicate m 0))) (sym (nat_cmp_is u 0 Greater (pa.0.0)))
order_padded k m (u ∷ us) (v ∷ vs) long pa pb =
    ap (ordering_then (nat_cmp u v)) (order_padded k m us vs (omega arith) pa.1 pb.1)

padded_bytes : (k : ℕ) (bs : List ℕ) → ArePlain bs → AreBytes (bs ++ replicate k 0)
padded_bytes zero [] p = tt
padded_bytes (suc k) [] p = (omega arith, padded_bytes k [] tt)
padded_bytes k (b ∷ bs) p = (p.0.1, padded_bytes k bs p.1)

-- names stand in the order of the numbers of their stored bytes
pub order_numbers : (a b : List ℕ) → is_name a ≡ true → is_name b ≡ true
    → ordering_then (ordering_then
    (nat_cmp (name_numbers a).0 (name_numbers b).0)
    (nat_cmp (name_numbers a).1 (name_numbers b).1))
    (nat_cmp (name_numbers a).2 (name_numbers b).2) ≡ slice_cmp nat_cmp a b
order_numbers a b na nb =
    let la = (long_enough a na).1 in
    let lb = (long_enough b nb).1 in
    let pa = plain_name a na in
    let pb = plain_name b nb in
    order_20 (padded_name a) (padded_name b) (length-padded a la) (length-padded b lb) (padded_bytes (20 - length a) a pa) (padded_bytes (20 - length b) b pb)
    ∙ order_padded (20 - length a) (20 - length b) a b (omega arith) pa pb
  where
    plain_name : (n : List ℕ) → is_name n ≡ true → ArePlain n
    plain_name n h = plain n (and_parts (leb 1 (length n) && leb (length n) 20) (list_all is_name_byte n) h).1

-- and names are equal where these numbers are
pub equal_numbers : (a b : List ℕ) → is_name a ≡ true → is_name b ≡ true
    → (((name_numbers a).0 == (name_numbers b).0 && (name_numbers a).1 == (name_numbers b).1) && (name_numbers a).2 == (name_numbers b).2) ≡ bytes_eq a b
equal_numbers a b na nb =
    let x = name_numbers a in
    let y = name_numbers b in
    both_tied _ _ (ordering_then (nat_cmp x.0 y.0) (nat_cmp x.1 y.1)) (nat_cmp x.2 y.2)
    (both_tied _ _ (nat_cmp x.0 y.0) (nat_cmp x.1 y.1) (unsigned_ties x.0 y.0) (unsigned_ties x.1 y.1))
    (unsigned_ties x.2 y.2)
    ∙ ap is_eq (order_numbers a b na nb)
    ∙ sym (texts_ties a b)
