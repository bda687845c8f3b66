-- The cells of a file as its bytes and its writers, and how many of them a version wrote.
use Rattle.std.proofs.Common.{◌≡◌, ℕ, zero, suc, ◌+◌, ◌-◌, true, false, Bool, cond, eqb, List, [], ◌∷◌, ◌++◌, length, map, flat_map, take, drop, replicate, count_by, Option, Some, None, refl, sym, ap, ◌∙◌, arith}
use Rattle.std.specs.Option.{option_to_list}
use Rattle.std.proofs.lemmas.List.{map-append, length-map, take-map, drop-map}
use Rattle.std.proofs.lemmas.List.Sums.{sum_by-append, sum_by-cons}
use Rattle.std.proofs.lemmas.Grind.{flat_map-append}
use Rattle.jffs_inodes.specs.Held.{padded_with, spliced_with, sized_with}
use Rattle.jffs_inodes.specs.Fragments.{Fragments, Cell, byte_of, writer_of, cells_of, end_of, laid, part_by, amount_by}
use Rattle.jffs_inodes.proofs.files.Splitting.{amount_cons}
use Rattle.jffs_inodes.proofs.files.Fragments.{blanks}

-- ---- what a function of cells makes of a write
module _ {A : Type 0} (f : Cell → A) where
  pub map_blanks : (n : ℕ) → map f (blanks n) ≡ replicate n (f None)
  map_blanks zero = refl
  map_blanks (suc n) = ap (λ x. f None ∷ x) (map_blanks n)

  pub map_padded : (k : ℕ) (c : List Cell) → map f (padded_with None k c) ≡ padded_with (f None) k (map f c)
  map_padded k c =
      map-append f c (blanks (k - length c))
      ∙ ap (λ x. map f c ++ x) (map_blanks (k - length c) ∙ ap (λ n. replicate (k - n) (f None)) (sym (length-map c f)))

  pub map_spliced : (o r : ℕ) (b c : List Cell) → map f (spliced_with None o r b c) ≡ spliced_with (f None) o r (map f b) (map f c)
  map_spliced o r b c =
      let p = map_padded o c in
      map-append f (take o (padded_with None o c) ++ b) (drop (o + r) (padded_with None o c))
      ∙ ap (λ x. x ++ map f (drop (o + r) (padded_with None o c))) (map-append f (take o (padded_with None o c)) b ∙ ap (λ x. x ++ map f b) (sym (take-map f o (padded_with None o c)) ∙ ap (take o) p))
      ∙ ap (λ x. (take o (padded_with (f None) o (map f c)) ++ map f b) ++ x) (sym (drop-map f (o + r) (padded_with None o c)) ∙ ap (drop (o + r)) p)

  pub map_sized : (size : Option ℕ) (c : List Cell) → map f (sized_with None size c) ≡ sized_with (f None) size (map f c)
  map_sized None c = refl
  map_sized (Some k) c = sym (take-map f k (padded_with None k c)) ∙ ap (take k) (map_padded k c)

pub bytes_of_cells : (w : ℕ) (bytes : List ℕ) → map byte_of (map (λ b. Some (b, w)) bytes) ≡ bytes
bytes_of_cells w [] = refl
bytes_of_cells w (b ∷ bytes) = ap (λ x. b ∷ x) (bytes_of_cells w bytes)

pub writers_of_cells : (w : ℕ) (bytes : List ℕ) → map writer_of (map (λ b. Some (b, w)) bytes) ≡ replicate (length bytes) (Some w)
writers_of_cells w [] = refl
writers_of_cells w (b ∷ bytes) = ap (λ x. Some w ∷ x) (writers_of_cells w bytes)

-- ---- how many bytes a version wrote
abbrev pub counted : ℕ → List Cell → ℕ
counted v c = count_by (λ w. eqb w v) (flat_map option_to_list (map writer_of c))

one : ℕ → ℕ → ℕ
one v w = cond (eqb w v) 1 0

counted_append : (v : ℕ) (a b : List Cell) → counted v (a ++ b) ≡ counted v a + counted v b
counted_append v a b =
    ap (λ x. count_by (λ w. eqb w v) (flat_map option_to_list x)) (map-append writer_of a b)
    ∙ ap (count_by (λ w. eqb w v)) (flat_map-append option_to_list (map writer_of a) (map writer_of b))
    ∙ sum_by-append (λ w. cond (eqb w v) 1 0) (flat_map option_to_list (map writer_of a)) (flat_map option_to_list (map writer_of b))

none_counted : (v n : ℕ) → counted v (blanks n) ≡ 0
none_counted v n = ap (count_by (λ w. eqb w v)) (nothing n)
  where
    nothing : (k : ℕ) → flat_map option_to_list (map writer_of (blanks k)) ≡ []
    nothing zero = refl
    nothing (suc k) = nothing k

fragment_counted : (v w : ℕ) (bytes : List ℕ) → counted v (map (λ b. Some (b, w)) bytes) ≡ cond (eqb w v) (length bytes) 0
fragment_counted v w [] = by_test (eqb w v)
  where
    by_test : (t : Bool) → ◌≡◌ {A = ℕ} 0 (cond t 0 0)
    by_test true = refl
    by_test false = refl
fragment_counted v w (b ∷ bytes) =
    sum_by-cons (λ x. cond (eqb x v) 1 0) w (flat_map option_to_list (map writer_of (map (λ x. Some (x, w)) bytes)))
    ∙ ap (λ n. cond (eqb w v) 1 0 + n) (fragment_counted v w bytes)
    ∙ by_test (eqb w v)
  where
    by_test : (t : Bool) → cond t 1 0 + cond t (length bytes) 0 ≡ cond t (suc (length bytes)) 0
    by_test true = omega arith
    by_test false = refl

pub amount_counted : (v at size : ℕ) (es : Fragments) → counted v (laid at size es) ≡ amount_by v es
amount_counted v at size [] = none_counted v (size - at)
amount_counted v at size (e ∷ es) =
    let a = counted_append v (blanks (e.0 - at)) (cells_of e.1 ++ laid (end_of e) size es) in
    let b = none_counted v (e.0 - at) in
    let c = counted_append v (cells_of e.1) (laid (end_of e) size es) in
    let d : counted v (cells_of e.1) ≡ part_by v e.1 = fragment_counted v e.1.writer e.1.bytes in
    let r = amount_counted v (end_of e) size es in
    let k = amount_cons v e es in
    omega arith
