-- A list of names has one order.
use Rattle.std.proofs.Common.{◌≡◌, ℕ, suc, ◌+◌, Bool, true, false, cond, List, [], ◌∷◌, get_or, refl, sym, ap, subst, ◌∙◌, ⊎_elim, arith}
use Rattle.std.specs.List.{AllByRecursion, sum_by}
use Rattle.std.specs.List.Sorted.{IsPermutation, IsSorted}
use Rattle.std.specs.Ordering.{is_lt, is_gt, ordering_reverse}
use Rattle.std.specs.declared.cmp.Ordering.{Ordering}
use Rattle.std.specs.declared.cmp.Ordering.TheVariants.{Less, Equal, Greater}
use Rattle.std.specs.Cmp.{IsStrictWeakOrder, tied_itself}
use Rattle.std.proofs.lemmas.Bool.{cases_Bool}
use Rattle.std.proofs.lemmas.List.MinMax.{ranks_by}
use Rattle.std.proofs.lemmas.List.Sorted.{sum_by-IsPermutation}
use Rattle.std.proofs.lemmas.List.Sums.{sum_by-cons}
use Rattle.jffs_tree.specs.Look.{name_cmp}
use Rattle.jffs_tree.proofs.listing.Directories.{name_total, name_tied}
use Rattle.jffs_text.specs.Dump.{put_by_name, by_name}

abbrev Named : Type 0
Named = List ℕ × ℕ

abbrev less : Named → Named → Bool
less a b = is_lt (name_cmp a b)

ranked : IsStrictWeakOrder less
ranked = ranks_by name_total (λ (t : Named). t)

-- names of which neither is less
level : (a b : Named) → less a b ≡ false → less b a ≡ false → a ≡ b
level a b h k = name_tied a b (by_order (name_cmp a b) (name_cmp b a) (name_total.antisymm b a) h k)
  where
    by_order : (o p : Ordering) → p ≡ ordering_reverse o → is_lt o ≡ false → is_lt p ≡ false → o ≡ Equal
    by_order Less p e h k = cc
    by_order Equal p e h k = refl
    by_order Greater p e h k = let no : is_lt p ≡ true = ap is_lt e in cc

not_more : (a b : Named) → is_gt (name_cmp a b) ≡ false → less b a ≡ false
not_more a b h = by_order (name_cmp a b) (name_cmp b a) (name_total.antisymm b a) h
  where
    by_order : (o p : Ordering) → p ≡ ordering_reverse o → is_gt o ≡ false → is_lt p ≡ false
    by_order Less p e h = ap is_lt e
    by_order Equal p e h = ap is_lt e
    by_order Greater p e h = cc

not_less : (a b : Named) → is_gt (name_cmp a b) ≡ true → less a b ≡ false
not_less a b h = by_order (name_cmp a b) h
  where
    by_order : (o : Ordering) → is_gt o ≡ true → is_lt o ≡ false
    by_order Less e = cc
    by_order Equal e = refl
    by_order Greater e = refl

-- none of the names is less
abbrev Above : Named → List Named → Type 0
Above a names = AllByRecursion (λ b. less b a ≡ false) names

abbrev Rises : List Named → Type 0
Rises [] = Unit {0}
Rises (a ∷ names) = Above a names × Rises names

above_further : (a b : Named) (names : List Named) → less b a ≡ false → Above b names → Above a names
above_further a b [] h up = tt
above_further a b (c ∷ names) h up = (ranked.chain c b a up.0 h, above_further a b names h up.1)

rises : (names : List Named) → IsSorted name_cmp names → Rises names
rises [] up = tt
rises (a ∷ []) up = (tt, tt)
rises (a ∷ b ∷ names) up =
    let rest = rises (b ∷ names) (λ k d low high.
    let next : suc k + 1 ≡ suc (k + 1) = omega arith in
    subst (λ m. less (get_or (a ∷ b ∷ names) m d) (get_or (b ∷ names) k d) ≡ false) next (up (suc k) d (omega arith) (omega arith))) in
    let first : less b a ≡ false = up 0 a (omega arith) (omega arith) in
    ((first, above_further a b names first rest.0), rest)

-- Putting a name in.
above_put : (a b : Named) (names : List Named) → less a b ≡ false → Above b names → Above b (put_by_name a names)
above_put a b [] h up = (h, tt)
above_put a b (c ∷ names) h up = elim (is_gt (name_cmp a c)) as (λ t. Above b (cond t (c ∷ put_by_name a names) (a ∷ c ∷ names))) [
  | true ↦ (up.0, above_put a b names h up.1)
  | false ↦ (h, up)
]

rises_put : (a : Named) (names : List Named) → Rises names → Rises (put_by_name a names)
rises_put a [] up = (tt, tt)
rises_put a (b ∷ names) up = ⊎_elim
    (λ yes. subst (λ t. Rises (cond t (b ∷ put_by_name a names) (a ∷ b ∷ names))) (sym yes) (above_put a b names (not_less a b yes) up.0, rises_put a names up.1))
    (λ no.
    let first = not_more a b no in
    subst (λ t. Rises (cond t (b ∷ put_by_name a names) (a ∷ b ∷ names))) (sym no) ((first, above_further a b names first up.0), up))
    (cases_Bool (is_gt (name_cmp a b)))

sum_put : (f : Named → ℕ) (a : Named) (names : List Named) → sum_by f (put_by_name a names) ≡ f a + sum_by f names
sum_put f a [] = sum_by-cons f a []
sum_put f a (b ∷ names) =
    let rest = sum_put f a names in
    let here = sum_by-cons f b names in
    let first = sum_by-cons f b (put_by_name a names) in
    let both = sum_by-cons f a (b ∷ names) in
    elim (is_gt (name_cmp a b)) as (λ t. sum_by f (cond t (b ∷ put_by_name a names) (a ∷ b ∷ names)) ≡ f a + sum_by f (b ∷ names)) [
      | true ↦ omega arith
      | false ↦ both
    ]

rises_by_name : (names : List Named) → Rises (by_name names)
rises_by_name [] = tt
rises_by_name (a ∷ names) = rises_put a (by_name names) (rises_by_name names)

sum_by_name : (f : Named → ℕ) (names : List Named) → sum_by f (by_name names) ≡ sum_by f names
sum_by_name f [] = refl
sum_by_name f (a ∷ names) = sum_put f a (by_name names) ∙ ap (λ n. f a + n) (sum_by_name f names) ∙ sym (sum_by-cons f a names)

-- Two rising lists with the same sums are one: how many names are below a first one says that it is
-- first in both.
abbrev below_it : Named → Named → ℕ
below_it a b = cond (less b a) 1 0

none_below : (a : Named) (names : List Named) → Above a names → sum_by (below_it a) names ≡ 0
none_below a [] up = refl
none_below a (b ∷ names) up = let here : below_it a b ≡ 0 = ap (λ t. cond t 1 0) up.0 in let rest = none_below a names up.1 in let all = sum_by-cons (below_it a) b names in omega arith

not_below : (a b : Named) (names : List Named) → sum_by (below_it a) (b ∷ names) ≡ 0 → less b a ≡ false
not_below a b names none = ⊎_elim
    (λ yes. let here : below_it a b ≡ 1 = ap (λ t. cond t 1 0) yes in let all = sum_by-cons (below_it a) b names in absurd (omega arith))
    (λ no. no)
    (cases_Bool (less b a))

itself : (a : Named) → less a a ≡ false
itself a = ap is_lt (tied_itself name_total a)

one_order : (xs ys : List Named) → Rises xs → Rises ys → ((f : Named → ℕ) → sum_by f xs ≡ sum_by f ys) → xs ≡ ys
one_order [] [] p q same = refl
one_order [] (y ∷ ys) p q same = let no = same (λ z. 1) in let all = sum_by-cons (λ z. 1) y ys in let none : sum_by {X = Named} (λ z. 1) [] ≡ 0 = refl in absurd (omega arith)
one_order (x ∷ xs) [] p q same = let no = same (λ z. 1) in let all = sum_by-cons (λ z. 1) x xs in let none : sum_by {X = Named} (λ z. 1) [] ≡ 0 = refl in absurd (omega arith)
one_order (x ∷ xs) (y ∷ ys) p q same =
    let no_less_y = not_below y x xs (same (below_it y) ∙ none_below y (y ∷ ys) (itself y, q.0)) in
    let no_less_x = not_below x y ys (sym (same (below_it x)) ∙ none_below x (x ∷ xs) (itself x, p.0)) in
    let first = level x y no_less_y no_less_x in
    let rest = one_order xs ys p.1 q.1 (λ f. let all = same f in let here = ap f first in let left = sum_by-cons f x xs in let right = sum_by-cons f y ys in omega arith) in
    λ i. first i ∷ rest i

pub in_order : (xs names : List Named) → IsPermutation xs names → IsSorted name_cmp names → names ≡ by_name xs
in_order xs names shuffled sorted =
    one_order names (by_name xs) (rises names sorted) (rises_by_name xs) (λ f. sum_by-IsPermutation f xs names shuffled ∙ sym (sum_by_name f xs))
