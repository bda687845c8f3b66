-- A map of inodes, as the definitions look into a tree.
use Rattle.std.proofs.Common.{◌≡◌, ℕ, ◌<◌, Bool, true, false, cond, ◌&&◌, eqb, ltb, T, map, List, [], ◌∷◌, Some, refl, sym, ap, subst, ◌∙◌, ⊎_elim, arith, nat_cmp}
use Rattle.std.specs.Ordering.{is_lt, eq_by_cmp}
use Rattle.std.specs.Cmp.{unsigned_tied}
use Rattle.std.proofs.lemmas.Bool.{cases_Bool, and_parts, eqb-true, eq-eqb, ne_eqb, ltb-true}
use Rattle.std.proofs.lemmas.Option.{none-some}
use Rattle.std.specs.List.{AllByRecursion}
use Rattle.std.specs.List.Sorted.{IsStrictlySortedBy}
use Rattle.std.specs.FinMap.Entries as entries
use Rattle.std.specs.declared.cmp.Ordering.{Ordering}
use Rattle.std.specs.declared.cmp.Ordering.TheVariants.{Less, Equal, Greater}
use Rattle.std.specs.Map.{lookup}
use Rattle.std.specs.BTreeMap.{is_at}

pub found_by : {K X : Type 0} (R : K → K → Ordering) (q : K) (es : List (K × X)) → lookup (is_at (R q)) es ≡ entries.find R q es
found_by R q [] = refl
found_by R q (e ∷ es) = ap (λ o. cond (is_at (R q) e.0) (Some e.1) o) (found_by R q es)

pub t_true : (b : Bool) → T b → b ≡ true
t_true true h = refl
t_true false h = absurd h

pub is_less : (x y : ℕ) → is_lt (nat_cmp x y) ≡ true → x < y
is_less x y h = ⊎_elim
    (λ less. ltb-true x y less)
    (λ more. absurd (not_less (eqb x y) (sym (ap (λ t. is_lt (cond t Less (cond (eqb x y) Equal Greater))) more) ∙ h)))
    (cases_Bool (ltb x y))
  where
    not_less : (t : Bool) → is_lt (cond t Equal Greater) ≡ true → ⊥
    not_less true e = cc
    not_less false e = cc

both : (a b : Bool) → T a → T b → T (a && b)
both true b p q = q
both false b p q = p

module _ {K X : Type 0} (R : K → K → Ordering) where
  below : (k : K) (es : List (K × X)) → AllByRecursion (λ y. R k y ≡ Less) (map (λ e. e.0) es) → T (entries.below_all R k es)
  below k [] h = tt
  below k (e ∷ es) h = both (is_lt (R k e.0)) (entries.below_all R k es) (subst (λ o. T (is_lt o)) (sym h.0) tt) (below k es h.1)

  pub sorted_by : (es : List (K × X)) → IsStrictlySortedBy R (map (λ e. e.0) es) → T (entries.is_sorted R es)
  unfolding IsStrictlySortedBy
  sorted_by [] h = tt
  sorted_by (e ∷ es) h = both (entries.below_all R e.0 es) (entries.is_sorted R es) (below e.0 es h.0) (sorted_by es h.1)

module _ {X : Type 0} where
  -- The first entry of a sorted map, and those after it.
  pub tail_sorted : (e : ℕ × X) (es : List (ℕ × X)) → T (entries.is_sorted nat_cmp (e ∷ es)) → T (entries.is_sorted nat_cmp es)
  tail_sorted e es h = subst T (sym (and_parts (entries.below_all nat_cmp e.0 es) (entries.is_sorted nat_cmp es) (t_true _ h)).1) tt

  pub tail_behind : (e : ℕ × X) (es : List (ℕ × X)) → T (entries.is_sorted nat_cmp (e ∷ es)) → T (entries.below_all nat_cmp e.0 es)
  tail_behind e es h = subst T (sym (and_parts (entries.below_all nat_cmp e.0 es) (entries.is_sorted nat_cmp es) (t_true _ h)).0) tt

  pub at_first : (e : ℕ × X) (es : List (ℕ × X)) → entries.find nat_cmp e.0 (e ∷ es) ≡ Some e.1
  at_first e es = ap (λ t. cond t (Some e.1) (entries.find nat_cmp e.0 es)) (unsigned_tied e.0 e.0 ∙ eq-eqb e.0 e.0 refl)

  above : (k : ℕ) (es : List (ℕ × X)) (j : ℕ) (x : X) → T (entries.below_all nat_cmp k es) → entries.find nat_cmp j es ≡ Some x → k < j
  above k [] j x h is = absurd (none-some x is)
  above k (e ∷ es) j x h is =
      let parts = and_parts (is_lt (nat_cmp k e.0)) (entries.below_all nat_cmp k es) (t_true _ h) in
      ⊎_elim
      (λ tied. let same : j ≡ e.0 = eqb-true j e.0 (sym (unsigned_tied j e.0) ∙ tied) in let low = is_less k e.0 parts.0 in omega arith)
      (λ apart. above k es j x (subst T (sym parts.1) tt) (sym (ap (λ t. cond t (Some e.1) (entries.find nat_cmp j es)) apart) ∙ is))
      (cases_Bool (eq_by_cmp nat_cmp j e.0))

  pub behind : (e : ℕ × X) (es : List (ℕ × X)) (j : ℕ) (x : X) → T (entries.is_sorted nat_cmp (e ∷ es)) → entries.find nat_cmp j es ≡ Some x → e.0 < j
  behind e es j x h is = above e.0 es j x (tail_behind e es h) is

  pub at_later : (e : ℕ × X) (es : List (ℕ × X)) (j : ℕ) (x : X) → T (entries.is_sorted nat_cmp (e ∷ es)) → entries.find nat_cmp j es ≡ Some x → entries.find nat_cmp j (e ∷ es) ≡ Some x
  at_later e es j x h is = ap (λ t. cond t (Some e.1) (entries.find nat_cmp j es)) (unsigned_tied j e.0 ∙ ne_eqb j e.0 (λ same. let l = behind e es j x h is in omega arith)) ∙ is
