-- The listing of a directory is one, and the first name after each is the next in it.
use Rattle.std.proofs.Common.{◌≡◌, ℕ, zero, suc, ◌+◌, true, false, cond, ◌||◌, List, [], ◌∷◌, slice_get, Some, None, ◌⊎◌, inl, inr, refl, sym, ap, subst, ◌∙◌, ⊎_elim, arith}
use Rattle.std.specs.List.{AllByRecursion, find, list_any}
use Rattle.std.specs.List.Sorted.{IsStrictlySortedBy}
use Rattle.std.specs.Ordering.{is_lt, ordering_reverse}
use Rattle.std.specs.declared.cmp.Ordering.TheVariants.{Less, Greater}
use Rattle.std.specs.Cmp.{tied_itself}
use Rattle.std.proofs.lemmas.Bool.{cases_Bool}
use Rattle.std.proofs.lemmas.Option.{same_Some}
use Rattle.std.proofs.lemmas.List.Sorted.{list_any-IsPermutation}
use Rattle.std.proofs.lemmas.Map.Keys.{sorted_head, sorted_tail, IsDistinct-from_sorted}
use Rattle.jffs_tree.specs.Look.{name_cmp, names_in}
use Rattle.jffs_tree.specs.Listing.{is_after, ListingsAreOne, NamesFollow, NamesBegin}
use Rattle.jffs_tree.proofs.listing.Directories.{name_total, same_name, tells, own}
use Rattle.jffs_tree.proofs.listing.Members.{others}

-- what is below all others is before each of them
below : (x e : List ℕ × ℕ) (xs : List (List ℕ × ℕ)) (n : ℕ) → AllByRecursion (λ y. name_cmp x y ≡ Less) xs → slice_get xs n ≡ Some e → name_cmp x e ≡ Less
below x e [] n low at = cc
below x e (y ∷ ys) zero low at = subst (λ (z : List ℕ × ℕ). name_cmp x z ≡ Less) (same_Some y e at) low.0
below x e (y ∷ ys) (suc n) low at = below x e ys n low.1 at

begins : (names : List (List ℕ × ℕ)) → find (is_after None) names ≡ slice_get names 0
begins [] = refl
begins (x ∷ xs) = refl

-- after the first of a rising list comes the second
second : (x : List ℕ × ℕ) (xs : List (List ℕ × ℕ)) → AllByRecursion (λ y. name_cmp x y ≡ Less) xs → find (is_after (Some x)) xs ≡ slice_get xs 0
second x [] low = refl
second x (y ∷ ys) low = ap (λ o. cond (is_lt o) (Some y) (find (is_after (Some x)) ys)) low.0

-- none is before itself, nor before one that it is above
skipped : (e x : List ℕ × ℕ) (xs : List (List ℕ × ℕ)) → is_lt (name_cmp e x) ≡ false → find (is_after (Some e)) (x ∷ xs) ≡ find (is_after (Some e)) xs
skipped e x xs unlike = ap (λ b. cond b (Some x) (find (is_after (Some e)) xs)) unlike

next : (names : List (List ℕ × ℕ)) (n : ℕ) (e : List ℕ × ℕ) → IsStrictlySortedBy name_cmp names → slice_get names n ≡ Some e → find (is_after (Some e)) names ≡ slice_get names (suc n)
next [] n e rising at = cc
next (x ∷ xs) zero e rising at =
    let same = same_Some x e at in
    let low = sorted_head name_cmp x xs rising in
    ap (λ (z : List ℕ × ℕ). find (is_after (Some z)) (x ∷ xs)) (sym same)
    ∙ skipped x x xs (ap is_lt (tied_itself name_total x))
    ∙ second x xs low
next (x ∷ xs) (suc n) e rising at =
    let less = below x e xs n (sorted_head name_cmp x xs rising) at in
    skipped e x xs (ap is_lt (name_total.antisymm e x ∙ ap ordering_reverse less))
    ∙ next xs n e (sorted_tail name_cmp x xs rising) at

pub names_follow : NamesFollow
names_follow tree directory names number e listing at =
    next names number e listing.rising at ∙ ap (slice_get names) (let one : suc number ≡ number + 1 = omega arith in one)

pub names_begin : NamesBegin
names_begin = begins

-- of a list whose first is x, one that is there is x or above it
from_first : (q x : List ℕ × ℕ) (xs : List (List ℕ × ℕ)) → AllByRecursion (λ y. name_cmp x y ≡ Less) xs → list_any (same_name q) (x ∷ xs) ≡ true → (same_name q x ≡ true) ⊎ (name_cmp x q ≡ Less)
from_first q x xs low has = ⊎_elim
    (λ here. inl here)
    (λ other. inr (among xs low (ap (λ b. b || list_any (same_name q) xs) (sym other) ∙ has)))
    (cases_Bool (same_name q x))
  where
    among : (ys : List (List ℕ × ℕ)) → AllByRecursion (λ y. name_cmp x y ≡ Less) ys → list_any (same_name q) ys ≡ true → name_cmp x q ≡ Less
    among [] l h = cc
    among (y ∷ ys) l h = ⊎_elim
        (λ here. subst (λ (z : List ℕ × ℕ). name_cmp x z ≡ Less) (sym (tells q y here)) l.0)
        (λ other. among ys l.1 (ap (λ b. b || list_any (same_name q) ys) (sym other) ∙ h))
        (cases_Bool (same_name q y))

-- two rising lists of the same members are one
one : (xs ys : List (List ℕ × ℕ)) → IsStrictlySortedBy name_cmp xs → IsStrictlySortedBy name_cmp ys
    → ((q : List ℕ × ℕ) → list_any (same_name q) xs ≡ list_any (same_name q) ys) → xs ≡ ys
one [] [] a b h = refl
one [] (y ∷ ys) a b h = let no : false ≡ true = h y ∙ ap (λ t. t || list_any (same_name y) ys) (own y) in cc
one (x ∷ xs) [] a b h = let no : true ≡ false = sym (ap (λ t. t || list_any (same_name x) xs) (own x)) ∙ h x in cc
one (x ∷ xs) (y ∷ ys) a b h =
    let front : x ≡ y = first in
    let turned = subst (λ (z : List ℕ × ℕ). (q : List ℕ × ℕ) → list_any (same_name q) (x ∷ xs) ≡ list_any (same_name q) (z ∷ ys)) (sym front) h in
    let other : IsStrictlySortedBy name_cmp (x ∷ ys) = subst (λ (z : List ℕ × ℕ). IsStrictlySortedBy name_cmp (z ∷ ys)) (sym front) b in
    let rest = one xs ys (sorted_tail name_cmp x xs a) (sorted_tail name_cmp y ys b)
    (others same_name tells own x xs ys (IsDistinct-from_sorted name_cmp (x ∷ xs) a) (IsDistinct-from_sorted name_cmp (x ∷ ys) other) turned) in
    λ i. front i ∷ rest i
  where
    first : x ≡ y
    first = ⊎_elim
        (λ here. tells x y here)
        (λ above. ⊎_elim
        (λ here. sym (tells y x here))
        (λ back. let turned = name_total.antisymm y x ∙ ap ordering_reverse back in let no : Less ≡ Greater = sym above ∙ turned in cc)
        (from_first y x xs (sorted_head name_cmp x xs a) (h y ∙ ap (λ t. t || list_any (same_name y) ys) (own y))))
        (from_first x y ys (sorted_head name_cmp y ys b) (sym (h x) ∙ ap (λ t. t || list_any (same_name x) xs) (own x)))

pub listings_are_one : ListingsAreOne
listings_are_one tree directory names more a b =
    one names more a.rising b.rising
    (λ q. sym (list_any-IsPermutation (same_name q) (names_in tree directory) names a.all) ∙ list_any-IsPermutation (same_name q) (names_in tree directory) more b.all)
