-- All marks of a version: a walk over its entries, and sums of entries.
use Rattle.std.proofs.Common.{◌≡◌, ◌≢◌, ℕ, zero, suc, drop, slice_get, ◌+◌, ◌<◌, ◌≤◌, min, Bool, true, false, cond, not, eqb, T, [], ◌∷◌, map, Option, Some, None, refl, sym, ap, subst, ◌∙◌, arith, ⊎_elim, nat_cmp}
use Rattle.std.specs.List.{AllByRecursion, filter, sum_by}
use Rattle.std.specs.List.Sorted.{IsStrictlySortedBy}
use Rattle.std.specs.Option.{unwrap_or}
use Rattle.std.specs.Ordering.{is_eq, is_lt, is_gt, eq_by_cmp}
use Rattle.std.specs.declared.cmp.Ordering.{Ordering}
use Rattle.std.specs.declared.cmp.Ordering.TheVariants.{Less, Equal, Greater}
use Rattle.std.specs.FinMap.Entries as entries
use Rattle.std.proofs.lemmas.Bool.{cases_Bool, cases_eq, and_parts, eq-eqb, ne_eqb}
use Rattle.std.proofs.lemmas.List.Sums.{sum_by-cons}
use Rattle.jffs_marks.specs.Marks.{MarkKey, Counts, mark_cmp, marks_of, SplitsAt}
use Rattle.jffs_marks.proofs.Maps.{sorted_by, t_true}
use Rattle.jffs_marks.proofs.Marking.{mark_low}
use Rattle.jffs_marks.proofs.Places.{one_key, own_key}
use Rattle.jffs_marks.proofs.Walks.{new_at, old_at}
use Rattle.jffs_marks.proofs.Order.{then_tied, nat_tied}

-- Keys that the order doesn't tell apart are one.
same_key : (a b : MarkKey) → mark_cmp a b ≡ Equal → a ≡ b
same_key a b h =
    let parts = then_tied (nat_cmp b.0.0 a.0.0) (nat_cmp a.1 b.1) h in
    let x = nat_tied b.0.0 a.0.0 parts.0 in
    let y = nat_tied a.1 b.1 parts.1 in
    λ j. (record { 0 = sym x j }, y j)

not_above : (o : Ordering) → is_lt o ≡ true → is_gt o ≡ false
not_above Less h = refl
not_above Equal h = cc
not_above Greater h = cc

not_tied : (o : Ordering) → is_lt o ≡ true → is_eq o ≡ false
not_tied Less h = refl
not_tied Equal h = cc
not_tied Greater h = cc

abbrev pub Sorted : Counts → Type 0
Sorted counts = T (entries.is_sorted mark_cmp counts)

abbrev Above : MarkKey → Counts → Type 0
Above k counts = T (entries.below_all mark_cmp k counts)

rest_sorted : (e : MarkKey × ℕ) (es : Counts) → Sorted (e ∷ es) → Sorted es
rest_sorted e es h = subst T (sym (and_parts (entries.below_all mark_cmp e.0 es) (entries.is_sorted mark_cmp es) (t_true _ h)).1) tt

rest_above : (e : MarkKey × ℕ) (es : Counts) → Sorted (e ∷ es) → Above e.0 es
rest_above e es h = subst T (sym (and_parts (entries.below_all mark_cmp e.0 es) (entries.is_sorted mark_cmp es) (t_true _ h)).0) tt

-- A walk over the entries from the first that a version may have.
pub record AreFrom (v : ℕ) (left : Counts) : Type 0 where
  pub sorted : Sorted left
  pub from : AllByRecursion (λ e. e.0.0.0 ≤ v) left

module _ (v : ℕ) where
  own_first : (e : MarkKey × ℕ) (es : Counts) → eqb e.0.0.0 v ≡ true → marks_of (e ∷ es) v ≡ e.1 + marks_of es v
  own_first e es at = ap (λ b. sum_by (λ x. x.1) (cond b (e ∷ filter (λ x. eqb x.0.0.0 v) es) (filter (λ x. eqb x.0.0.0 v) es))) at ∙ sum_by-cons (λ x. x.1) e (filter (λ x. eqb x.0.0.0 v) es)

  other_first : (e : MarkKey × ℕ) (es : Counts) → eqb e.0.0.0 v ≡ false → marks_of (e ∷ es) v ≡ marks_of es v
  other_first e es at = ap (λ b. sum_by (λ x. x.1) (cond b (e ∷ filter (λ x. eqb x.0.0.0 v) es) (filter (λ x. eqb x.0.0.0 v) es))) at

  later : (k : MarkKey) (es : Counts) → k.0.0 < v → Above k es → marks_of es v ≡ 0
  later k [] less h = refl
  later k (e ∷ es) less h =
      let parts = and_parts (is_lt (mark_cmp k e.0)) (entries.below_all mark_cmp k es) (t_true _ h) in
      let low : e.0.0.0 ≤ k.0.0 = mark_low k e.0 (not_above (mark_cmp k e.0) parts.0) in
      other_first e es (ne_eqb e.0.0.0 v (λ same. omega (arith, low, less, same))) ∙ later k es less (subst T (sym parts.1) tt)

  pub behind_first : (left : Counts) (e : MarkKey × ℕ) (es : Counts) → left ≡ e ∷ es → AreFrom v left → AreFrom v es
  behind_first left e es is from = let f = subst (λ (xs : Counts). AreFrom v xs) is from in record { sorted = rest_sorted e es f.sorted; from = f.from.1 }

  pub one_read : (left : Counts) (e : MarkKey × ℕ) (es : Counts) → left ≡ e ∷ es → e.0.0.0 ≡ v → marks_of left v ≡ e.1 + marks_of es v
  one_read left e es is at = ap (λ (xs : Counts). marks_of xs v) is ∙ own_first e es (eq-eqb e.0.0.0 v at)

  pub none_left : (left : Counts) (e : MarkKey × ℕ) (es : Counts) → left ≡ e ∷ es → AreFrom v left → e.0.0.0 ≢ v → marks_of left v ≡ 0
  none_left left e es is from other =
      let f = subst (λ (xs : Counts). AreFrom v xs) is from in
      let low = f.from.0 in
      ap (λ (xs : Counts). marks_of xs v) is ∙ other_first e es (ne_eqb e.0.0.0 v other)
      ∙ later e.0 es (⊎_elim (λ same. absurd (other (sym same))) (λ apart. omega (arith, low, apart)) (cases_eq v e.0.0.0)) (rest_above e es f.sorted)

  -- The entries from an index on, where those before it are of newer versions.
  drop_sorted : (i : ℕ) (es : Counts) → Sorted es → Sorted (drop i es)
  drop_sorted zero es h = h
  drop_sorted (suc i) [] h = h
  drop_sorted (suc i) (e ∷ es) h = drop_sorted i es (rest_sorted e es h)

  drop_low : (i : ℕ) (es : Counts) → ((j : ℕ) (e : MarkKey × ℕ) → slice_get es j ≡ Some e → i ≤ j → e.0.0.0 ≤ v) → AllByRecursion (λ e. e.0.0.0 ≤ v) (drop i es)
  drop_low zero [] h = tt
  drop_low zero (e ∷ es) h = (h 0 e refl (omega arith), drop_low zero es (λ j x is l. h (suc j) x is (omega arith)))
  drop_low (suc i) [] h = tt
  drop_low (suc i) (e ∷ es) h = drop_low i es (λ j x is l. h (suc j) x is (omega arith))

  drop_same : (i : ℕ) (es : Counts) → ((j : ℕ) (e : MarkKey × ℕ) → slice_get es j ≡ Some e → j < i → v < e.0.0.0) → marks_of (drop i es) v ≡ marks_of es v
  drop_same zero es h = refl
  drop_same (suc i) [] h = refl
  drop_same (suc i) (e ∷ es) h =
      drop_same i es (λ j x is l. h (suc j) x is (omega arith))
      ∙ sym (other_first e es (ne_eqb e.0.0.0 v (λ same. let l = h 0 e refl (omega arith) in omega (arith, l, same))))

  module _ (counts : Counts) (i : ℕ) (split : SplitsAt counts (v + 1) i) where
    pub split_from : IsStrictlySortedBy mark_cmp (map (λ e. e.0) counts) → AreFrom v (drop i counts)
    split_from ordered = record {
      sorted = drop_sorted i counts (sorted_by mark_cmp counts ordered);
      from = drop_low i counts (λ j e is l. let h = old_at counts (v + 1) i split j e is l in omega (arith, h));
    }

    pub same_marks : marks_of (drop i counts) v ≡ marks_of counts v
    same_marks = drop_same i counts (λ j e is l. let h = new_at counts (v + 1) i split j e is l in omega (arith, h))

-- Sums of entries in order.
abbrev pub summed : Counts → ℕ
summed counts = sum_by (λ e. e.1) counts

abbrev pub at : MarkKey → Counts → ℕ
at k counts = unwrap_or (entries.find mark_cmp k counts) 0

missing : (k : MarkKey) (es : Counts) → Above k es → entries.find mark_cmp k es ≡ None
missing k [] h = refl
missing k (e ∷ es) h =
    let parts = and_parts (is_lt (mark_cmp k e.0)) (entries.below_all mark_cmp k es) (t_true _ h) in
    ap (λ b. cond b (Some e.1) (entries.find mark_cmp k es)) (not_tied (mark_cmp k e.0) parts.0) ∙ missing k es (subst T (sym parts.1) tt)

pub sum_without : (k : MarkKey) (es : Counts) → Sorted es → summed (entries.where_key mark_cmp (λ x. not (eq_by_cmp mark_cmp k x)) es) + at k es ≡ summed es
sum_without k [] h = refl
sum_without k (e ∷ es) h =
    let left = entries.where_key mark_cmp (λ x. not (eq_by_cmp mark_cmp k x)) es in
    let rest = sum_without k es (rest_sorted e es h) in
    let s : summed (e ∷ es) ≡ e.1 + summed es = sum_by-cons (λ x. x.1) e es in
    ⊎_elim
    (λ tied.
    let a : summed (entries.where_key mark_cmp (λ x. not (eq_by_cmp mark_cmp k x)) (e ∷ es)) ≡ summed left = ap (λ t. summed (cond (not t) (e ∷ left) left)) tied in
    let b : at k (e ∷ es) ≡ e.1 = ap (λ t. unwrap_or (cond t (Some e.1) (entries.find mark_cmp k es)) 0) tied in
    let z : at k es ≡ 0 = ap (λ (o : Option ℕ). unwrap_or o 0) (missing k es (subst (λ q. Above q es) (sym (one_key k e.0 tied)) (rest_above e es h))) in
    omega (arith, rest, s, a, b, z))
    (λ apart.
    let a : summed (entries.where_key mark_cmp (λ x. not (eq_by_cmp mark_cmp k x)) (e ∷ es)) ≡ e.1 + summed left = ap (λ t. summed (cond (not t) (e ∷ left) left)) apart ∙ sum_by-cons (λ x. x.1) e left in
    let b : at k (e ∷ es) ≡ at k es = ap (λ t. unwrap_or (cond t (Some e.1) (entries.find mark_cmp k es)) 0) apart in
    omega (arith, rest, s, a, b))
    (cases_Bool (eq_by_cmp mark_cmp k e.0))

pub zero_all : (es : Counts) → Sorted es → ((q : MarkKey) → at q es ≡ 0) → summed es ≡ 0
zero_all [] h z = refl
zero_all (e ∷ es) h z =
    let head : e.1 ≡ 0 = sym (ap (λ t. unwrap_or (cond t (Some e.1) (entries.find mark_cmp e.0 es)) 0) (own_key e.0)) ∙ z e.0 in
    let rest = zero_all es (rest_sorted e es h) (λ q. ⊎_elim
    (λ tied. ap (λ (o : Option ℕ). unwrap_or o 0) (missing q es (subst (λ x. Above x es) (sym (one_key q e.0 tied)) (rest_above e es h))))
    (λ apart. sym (ap (λ t. unwrap_or (cond t (Some e.1) (entries.find mark_cmp q es)) 0) apart) ∙ z q)
    (cases_Bool (eq_by_cmp mark_cmp q e.0))) in
    let s : summed (e ∷ es) ≡ e.1 + summed es = sum_by-cons (λ x. x.1) e es in
    omega (arith, head, rest, s)

pub alike : (p : MarkKey → Bool) (q x : MarkKey) → mark_cmp q x ≡ Equal → p x ≡ p q
alike p q x tied = ap p (sym (same_key q x tied))

-- A sum that stops at a most, where nothing is left to add.
pub whole : (t z most : ℕ) → t ≤ most → z ≡ 0 → t ≡ min (t + z) most
whole t z most low none = grind (arith, low, none)
