-- What the answer of an order says, and what stands first in one.
use Rattle.std.proofs.Common.{◌≡◌, ℕ, zero, suc, ◌≤◌, Bool, true, false, cond, eqb, ltb, List, refl, sym, ap, ◌∙◌, arith, ⊎_elim, nat_cmp, ◌∷◌, IfSome, slice_get, subst}
use Rattle.std.specs.declared.cmp.Ordering.{Ordering}
use Rattle.std.specs.declared.cmp.Ordering.TheVariants.{Less, Equal, Greater}
use Rattle.std.specs.Ordering.{is_gt, is_eq, ordering_then, ordering_reverse}
use Rattle.std.specs.Cmp.{unsigned_tied}
use Rattle.std.proofs.lemmas.Bool.{cases_lt, cases_eq, lt-ltb, le-ltb, eqb-true, ne_eqb}

-- parts of an answer of two steps
pub then_low : (a b : Ordering) → is_gt (ordering_then a b) ≡ false → is_gt a ≡ false
then_low Less b h = refl
then_low Equal b h = refl
then_low Greater b h = cc

pub then_tied : (a b : Ordering) → ordering_then a b ≡ Equal → (a ≡ Equal) × (b ≡ Equal)
then_tied Less b h = cc
then_tied Equal b h = (refl, h)
then_tied Greater b h = cc

-- neither is above the other
pub level : (a b : Ordering) → a ≡ ordering_reverse b → is_gt a ≡ false → is_gt b ≡ false → b ≡ Equal
level Less Less e h k = cc
level Less Equal e h k = refl
level Less Greater e h k = cc
level Equal Less e h k = cc
level Equal Equal e h k = refl
level Equal Greater e h k = cc
level Greater b e h k = cc

pub nat_tied : (a b : ℕ) → nat_cmp a b ≡ Equal → a ≡ b
nat_tied a b h = eqb-true a b (sym (unsigned_tied a b) ∙ ap is_eq h)

pub nat_low : (a b : ℕ) → is_gt (nat_cmp a b) ≡ false → a ≤ b
nat_low a b h = ⊎_elim
    (λ less. omega arith)
    (λ more. ⊎_elim
    (λ same. omega arith)
    (λ above. absurd (is_above (ltb a b) (eqb a b) (le-ltb a b more) (ne_eqb a b (λ e. omega arith)) h))
    (cases_eq a b))
    (cases_lt a b)
  where
    is_above : (l e : Bool) → l ≡ false → e ≡ false → is_gt (cond l Less (cond e Equal Greater)) ≡ false → ⊥
    is_above true e p q h = cc
    is_above false true p q h = cc
    is_above false false p q h = cc

pub zero_low : (b : ℕ) → is_gt (nat_cmp 0 b) ≡ false
zero_low zero = refl
zero_low (suc b) = ap (λ t. is_gt (cond t Less (cond (eqb 0 (suc b)) Equal Greater))) (lt-ltb 0 (suc b) (omega arith))

-- what holds of the first element of a list that begins with it
pub of_first : {X : Type 0} {r t : List X} {k : X} (P : X → Type 0) → r ≡ k ∷ t → IfSome (slice_get r 0) P → P k
of_first P e h = subst (λ x. IfSome (slice_get x 0) P) e h
