-- What holds of each element of a list.
use Rattle.std.proofs.Common.{ℕ, zero, suc, ◌<◌, List, [], ◌∷◌, ◌++◌, length, get_or, arith}
use Rattle.std.specs.List.{AllByRecursion}

module _ {A : Type 0} (P : A → Type 0) where
  pub each_append : (xs ys : List A) → AllByRecursion P xs → AllByRecursion P ys → AllByRecursion P (xs ++ ys)
  each_append [] ys h k = k
  each_append (x ∷ xs) ys h k = (h.0, each_append xs ys h.1 k)

  pub each_front : (xs ys : List A) → AllByRecursion P (xs ++ ys) → AllByRecursion P xs × AllByRecursion P ys
  each_front [] ys h = (tt, h)
  each_front (x ∷ xs) ys h = let later = each_front xs ys h.1 in ((h.0, later.0), later.1)

  pub each_at : (xs : List A) (i : ℕ) (d : A) → i < length xs → AllByRecursion P xs → P (get_or xs i d)
  each_at [] i d l h = absurd (omega arith)
  each_at (x ∷ xs) zero d l h = h.0
  each_at (x ∷ xs) (suc i) d l h = each_at xs i d (omega arith) h.1
