-- Two lists without doubles that have the same members are one list in two orders.
use Rattle.std.proofs.Common.{◌≡◌, Bool, true, false, ◌||◌, List, [], ◌∷◌, refl, sym, ap, subst, ◌∙◌, ⊎_elim, arith}
use Rattle.std.specs.List.{AllByRecursion, IsDistinct, list_any}
use Rattle.std.specs.List.Sorted.{IsPermutation}
use Rattle.std.specs.Cmp.{both_ways}
use Rattle.std.proofs.lemmas.Bool.{cases_Bool, or_parts}
use Rattle.std.proofs.lemmas.List.Sorted.{IsPermutation-refl, IsPermutation-cons, IsPermutation-trans, IsPermutation-sym, IsPermutation-swap, list_any-IsPermutation}
use Rattle.std.proofs.lemmas.Map.Keys.{IsDistinct-head, IsDistinct-tail, IsDistinct-IsPermutation}

module _ {X : Type 0} (same : X → X → Bool) where
  pub none_of : (x : X) (xs : List X) → AllByRecursion (λ y. same x y ≡ false) xs → list_any (same x) xs ≡ false
  none_of x [] h = refl
  none_of x (y ∷ ys) h = ap (λ b. b || list_any (same x) ys) h.0 ∙ none_of x ys h.1

  pub each_other : (x : X) (xs : List X) → list_any (same x) xs ≡ false → AllByRecursion (λ y. same x y ≡ false) xs
  each_other x [] h = tt
  each_other x (y ∷ ys) h = let parts = or_parts (same x y) (list_any (same x) ys) h in (parts.0, each_other x ys parts.1)

  module _ (tells : (x y : X) → same x y ≡ true → x ≡ y) (own : (x : X) → same x x ≡ true) where
    flips : (x y : X) → same x y ≡ same y x
    flips x y = both_ways (same x y) (same y x) (turned x y) (turned y x)
      where
        turned : (a b : X) → same a b ≡ true → same b a ≡ true
        turned a b e = ap (λ c. same c a) (sym (tells a b e)) ∙ own a

    -- a member, pulled to the front
    pulled : (x : X) (ys : List X) → list_any (same x) ys ≡ true → (zs : List X) × IsPermutation ys (x ∷ zs)
    pulled x [] h = cc
    pulled x (y ∷ ys) h = ⊎_elim
        (λ first. (ys, subst (λ z. IsPermutation (y ∷ ys) (z ∷ ys)) (sym (tells x y first)) (IsPermutation-refl (y ∷ ys))))
        (λ other.
        let later = pulled x ys (ap (λ b. b || list_any (same x) ys) (sym other) ∙ h) in (
          y ∷ later.0,
          IsPermutation-trans (y ∷ ys) (y ∷ x ∷ later.0) (x ∷ y ∷ later.0) (IsPermutation-cons y ys (x ∷ later.0) later.1)
              (IsPermutation-swap (y ∷ x ∷ later.0) (x ∷ y ∷ later.0) 0 1 (omega arith) (omega arith) refl),
        ))
        (cases_Bool (same x y))

    -- without that member the members are the same again
    pub others : (x : X) (xs zs : List X) → IsDistinct same (x ∷ xs) → IsDistinct same (x ∷ zs) → ((q : X) → list_any (same q) (x ∷ xs) ≡ list_any (same q) (x ∷ zs))
        → (q : X) → list_any (same q) xs ≡ list_any (same q) zs
    others x xs zs d e h q = ⊎_elim
        (λ it.
        let at = tells q x it in
        ap (λ r. list_any (same r) xs) at ∙ none_of x xs (IsDistinct-head same x xs d)
        ∙ sym (ap (λ r. list_any (same r) zs) at ∙ none_of x zs (IsDistinct-head same x zs e)))
        (λ not_it. sym (ap (λ b. b || list_any (same q) xs) not_it) ∙ h q ∙ ap (λ b. b || list_any (same q) zs) not_it)
        (cases_Bool (same q x))

    pub same_members : (xs ys : List X) → IsDistinct same xs → IsDistinct same ys → ((q : X) → list_any (same q) xs ≡ list_any (same q) ys) → IsPermutation xs ys
    same_members [] [] d e h = IsPermutation-refl []
    same_members [] (y ∷ ys) d e h = let no : false ≡ true = h y ∙ ap (λ b. b || list_any (same y) ys) (own y) in cc
    same_members (x ∷ xs) ys d e h =
        let p = pulled x ys (sym (h x) ∙ ap (λ b. b || list_any (same x) xs) (own x)) in
        let f = IsDistinct-IsPermutation same flips ys (x ∷ p.0) p.1 e in
        let rest = same_members xs p.0 (IsDistinct-tail same x xs d) (IsDistinct-tail same x p.0 f)
        (others x xs p.0 d f (λ q. h q ∙ list_any-IsPermutation (same q) ys (x ∷ p.0) p.1)) in
        IsPermutation-trans (x ∷ xs) (x ∷ p.0) ys (IsPermutation-cons x xs p.0 rest) (IsPermutation-sym ys (x ∷ p.0) p.1)
