-- Counts in order: which entry stands where, and what a change at one place does to the look-ups.
use Rattle.std.proofs.Common.{◌≡◌, ℕ, zero, suc, ◌<◌, ◌≤◌, Bool, true, false, cond, eqb, ltb, List, [], ◌∷◌, ◌++◌, get_or, set, slice_get, length, Option, Some, None, refl, sym, ap, subst, ◌∙◌, arith}
use Rattle.std.specs.List.{AllByRecursion, filter, insert}
use Rattle.std.specs.List.Sorted.{IsStrictlySortedBy}
use Rattle.std.specs.Cmp.{IsTotalOrder, IsEquivalence, nat_cmp_total, then_total, on_total, eq_by_cmp_equiv}
use Rattle.std.specs.Ordering.{is_gt, eq_by_cmp}
use Rattle.std.specs.declared.cmp.Ordering.TheVariants.{Less}
use Rattle.std.specs.Option.{IsSome, option_map, unwrap_or}
use Rattle.std.specs.Map.{lookup, keys_of, set_value}
use Rattle.std.specs.BTreeMap.{is_at}
use Rattle.std.proofs.lemmas.Bool.{and_parts, and_from, eqb-true, eq-eqb, lt-ltb}
use Rattle.std.proofs.lemmas.Cmp.{back_total}
use Rattle.std.proofs.lemmas.Option.{same_Some, slice_get_within, slice_get_read, slice_get-map, get_or_from_slice_get}
use Rattle.std.proofs.lemmas.Map.{lookup-set_value, lookup-insert, keys-set_value, none_passes_from_lookup}
use Rattle.std.proofs.lemmas.Map.Keys.{IsDistinct-from_sorted, IsDistinct-head, IsDistinct-tail, Less-from_sorted}
use Rattle.std.proofs.lemmas.Map.Entries.{place_from_lookup, lookup_from_place, lookup-filter-values, option_filter}
use Rattle.std.specs.List.{IsDistinct}
use Rattle.jffs_marks.specs.Marks.{MarkKey, Counts, mark_key, mark_cmp, mark_of}
use Rattle.jffs_marks.proofs.Marking.{mark_tied, mark_low}

-- Keys that the order doesn't tell apart are one.
pub one_key : (a b : MarkKey) → eq_by_cmp mark_cmp a b ≡ true → a ≡ b
one_key a b h =
    let parts = and_parts (eqb b.0.0 a.0.0) (eqb b.1 a.1) (sym (mark_tied a b) ∙ h) in
    let x = eqb-true b.0.0 a.0.0 parts.0 in
    let y = eqb-true b.1 a.1 parts.1 in
    λ j. (record { 0 = sym x j }, sym y j)

pub own_key : (a : MarkKey) → eq_by_cmp mark_cmp a a ≡ true
own_key a = mark_tied a a ∙ and_from (eqb a.0.0 a.0.0) (eqb a.1 a.1) (eq-eqb a.0.0 a.0.0 refl) (eq-eqb a.1 a.1 refl)

pub mark_total : IsTotalOrder mark_cmp
mark_total = then_total (on_total (λ (k : MarkKey). k.0.0) (back_total nat_cmp_total)) (on_total (λ (k : MarkKey). k.1) nat_cmp_total)

same_keys : IsEquivalence (eq_by_cmp mark_cmp)
same_keys = eq_by_cmp_equiv mark_total

abbrev pub InOrder : Counts → Type 0
InOrder counts = IsStrictlySortedBy mark_cmp (keys_of counts)

distinct : (counts : Counts) → InOrder counts → IsDistinct (eq_by_cmp mark_cmp) (keys_of counts)
distinct counts ordered = IsDistinct-from_sorted mark_cmp (keys_of counts) ordered

-- the element that was read at an index
pub read_at : (counts : Counts) (i : ℕ) (e : MarkKey × ℕ) → i < length counts → e ≡ get_or counts i e → slice_get counts i ≡ Some e
read_at counts i e within read = slice_get_read counts (length counts) i e refl within read

pub key_at : (counts : Counts) (i : ℕ) (e : MarkKey × ℕ) → slice_get counts i ≡ Some e → slice_get (keys_of counts) i ≡ Some e.0
key_at counts i e is = slice_get-map (λ (x : MarkKey × ℕ). x.0) counts i ∙ ap (λ (o : Option (MarkKey × ℕ)). option_map (λ x. x.0) o) is

-- The entry at an index.
module _ (counts : Counts) (ordered : InOrder counts) where
  pub found_at : (i : ℕ) (k : MarkKey) (c : ℕ) → slice_get counts i ≡ Some (k, c) → lookup (is_at (mark_cmp k)) counts ≡ Some c
  found_at i k c is = lookup_from_place same_keys counts i k c (distinct counts ordered) is

  pub mark_at : (i : ℕ) (k : MarkKey) (c : ℕ) → slice_get counts i ≡ Some (k, c) → mark_of counts k.0.0 k.1 ≡ c
  mark_at i k c is = ap (λ (o : Option ℕ). unwrap_or o 0) (found_at i k c is)

  -- A version that has marks in an inode has an entry.
  pub entry_of : (v i : ℕ) → 0 < mark_of counts v i → (j : ℕ) × (slice_get counts j ≡ Some (mark_key v i, mark_of counts v i))
  entry_of v i some = by_value (lookup (is_at (mark_cmp (mark_key v i))) counts) refl some
    where
      by_value : (o : Option ℕ) → lookup (is_at (mark_cmp (mark_key v i))) counts ≡ o → 0 < unwrap_or o 0 → (j : ℕ) × (slice_get counts j ≡ Some (mark_key v i, unwrap_or o 0))
      by_value None is l = absurd (omega arith)
      by_value (Some c) is l =
          let p = place_from_lookup (is_at (mark_cmp (mark_key v i))) counts c is in
          (p.0, p.2 ∙ ap (λ (k : MarkKey). Some (k, c)) (sym (one_key (mark_key v i) p.1 p.3)))

  pub before : (i j : ℕ) (a b : MarkKey × ℕ) → slice_get counts i ≡ Some a → slice_get counts j ≡ Some b → i < j → mark_cmp a.0 b.0 ≡ Less
  before i j a b at_i at_j l =
      let x = key_at counts i a at_i in
      let y = key_at counts j b at_j in
      let p = get_or_from_slice_get (keys_of counts) i a.0 a.0 x in
      let q = get_or_from_slice_get (keys_of counts) j b.0 a.0 y in
      subst (λ (k : MarkKey). mark_cmp k b.0 ≡ Less) p
      (subst (λ (k : MarkKey). mark_cmp (get_or (keys_of counts) i a.0) k ≡ Less) q
      (Less-from_sorted mark_cmp (keys_of counts) i j a.0 ordered l (slice_get_within (keys_of counts) j b.0 y)))

  -- Versions fall along the entries.
  pub no_newer : (i j : ℕ) (a b : MarkKey × ℕ) → slice_get counts i ≡ Some a → slice_get counts j ≡ Some b → i < j → b.0.0.0 ≤ a.0.0.0
  no_newer i j a b at_i at_j l = mark_low a.0 b.0 (ap is_gt (before i j a b at_i at_j l))

-- what holds of all holds at an index
all_at : {X : Type 0} (P : X → Type 0) (xs : List X) (i : ℕ) (x : X) → AllByRecursion P xs → slice_get xs i ≡ Some x → P x
all_at P [] i x h is = cc
all_at P (y ∷ xs) zero x h is = subst P (same_Some y x is) h.0
all_at P (y ∷ xs) (suc i) x h is = all_at P xs i x h.1 is

-- Another count for the key at an index.
write_is : (es : Counts) (i : ℕ) (k : MarkKey) (c w : ℕ) → IsDistinct (eq_by_cmp mark_cmp) (keys_of es) → slice_get es i ≡ Some (k, c) → set es i (k, w) ≡ set_value (is_at (mark_cmp k)) es w
write_is [] i k c w apart is = refl
write_is (e ∷ es) zero k c w apart is =
    let at : k ≡ e.0 = ap (λ (x : MarkKey × ℕ). x.0) (sym (same_Some e (k, c) is)) in
    let same : is_at (mark_cmp k) e.0 ≡ true = ap (λ (x : MarkKey). is_at (mark_cmp k) x) (sym at) ∙ own_key k in
    ap (λ (x : MarkKey). (x, w) ∷ es) at ∙ sym (ap (λ b. cond b ((e.0, w) ∷ es) (e ∷ set_value (is_at (mark_cmp k)) es w)) same)
write_is (e ∷ es) (suc i) k c w apart is =
    let other : eq_by_cmp mark_cmp e.0 k ≡ false = all_at (λ y. eq_by_cmp mark_cmp e.0 y ≡ false) (keys_of es) i k (IsDistinct-head (eq_by_cmp mark_cmp) e.0 (keys_of es) apart) (key_at es i (k, c) is) in
    let differs : is_at (mark_cmp k) e.0 ≡ false = same_keys.symm k e.0 ∙ other in
    ap (λ (t : Counts). e ∷ t) (write_is es i k c w (IsDistinct-tail (eq_by_cmp mark_cmp) e.0 (keys_of es) apart) is)
    ∙ sym (ap (λ b. cond b ((e.0, w) ∷ es) (e ∷ set_value (is_at (mark_cmp k)) es w)) differs)

module _ (es : Counts) (i : ℕ) (k : MarkKey) (c w : ℕ) (ordered : InOrder es) (is : slice_get es i ≡ Some (k, c)) where
  pub written : (q : MarkKey) → lookup (is_at (mark_cmp q)) (set es i (k, w)) ≡ cond (is_at (mark_cmp k) q) (Some w) (lookup (is_at (mark_cmp q)) es)
  written q =
      ap (λ (t : Counts). lookup (is_at (mark_cmp q)) t) (write_is es i k c w (distinct es ordered) is)
      ∙ lookup-set_value same_keys (is_at (mark_cmp k)) (λ x y h. same_keys.congr k x y h) q w es (some (lookup (is_at (mark_cmp k)) es) (found_at es ordered i k c is))
    where
      some : (o : Option ℕ) → o ≡ Some c → IsSome o
      some None e = cc
      some (Some x) e = refl

  pub still_in_order : InOrder (set es i (k, w))
  still_in_order = subst (IsStrictlySortedBy mark_cmp) (sym (ap (λ (t : Counts). keys_of t) (write_is es i k c w (distinct es ordered) is) ∙ keys-set_value (is_at (mark_cmp k)) es w)) ordered

-- A new entry where its key belongs.
all_with : (P : MarkKey → Type 0) (es : Counts) (i : ℕ) (k : MarkKey) (w : ℕ) → AllByRecursion P (keys_of es) → P k → AllByRecursion P (keys_of (insert es i (k, w)))
all_with P [] zero k w h p = (p, tt)
all_with P [] (suc i) k w h p = (p, tt)
all_with P (e ∷ es) zero k w h p = (p, h)
all_with P (e ∷ es) (suc i) k w h p = (h.0, all_with P es i k w h.1 p)

all_by : (P : MarkKey → Type 0) (es : Counts) → ((j : ℕ) (e : MarkKey × ℕ) → slice_get es j ≡ Some e → P e.0) → AllByRecursion P (keys_of es)
all_by P [] h = tt
all_by P (e ∷ es) h = (h 0 e refl, all_by P es (λ j x is. h (suc j) x is))

pub inserted_in_order : (es : Counts) (i : ℕ) (k : MarkKey) (w : ℕ) → InOrder es
    → ((j : ℕ) (e : MarkKey × ℕ) → j < i → slice_get es j ≡ Some e → mark_cmp e.0 k ≡ Less)
    → ((j : ℕ) (e : MarkKey × ℕ) → i ≤ j → slice_get es j ≡ Some e → mark_cmp k e.0 ≡ Less)
    → InOrder (insert es i (k, w))
unfolding IsStrictlySortedBy
inserted_in_order [] zero k w ordered low high = (tt, tt)
inserted_in_order [] (suc i) k w ordered low high = (tt, tt)
inserted_in_order (e ∷ es) zero k w ordered low high = (all_by (λ x. mark_cmp k x ≡ Less) (e ∷ es) (λ j x is. high j x (omega arith) is), ordered)
inserted_in_order (e ∷ es) (suc i) k w ordered low high = (
  all_with (λ x. mark_cmp e.0 x ≡ Less) es i k w ordered.0 (low 0 e (omega arith) refl),
  inserted_in_order es i k w ordered.1 (λ j x l is. low (suc j) x (omega arith) is) (λ j x l is. high (suc j) x (omega arith) is),
)

pub inserted : (es : Counts) (i : ℕ) (k : MarkKey) (w : ℕ) → lookup (is_at (mark_cmp k)) es ≡ None → (q : MarkKey) → lookup (is_at (mark_cmp q)) (insert es i (k, w)) ≡ cond (is_at (mark_cmp k) q) (Some w) (lookup (is_at (mark_cmp q)) es)
inserted es i k w none q = lookup-insert same_keys k w q es i (none_passes_from_lookup (is_at (mark_cmp k)) es none)

-- Spent entries that are dropped: all of them, or the last one.
abbrev pub live : Counts → Counts
live es = filter (λ e. ltb 0 e.1) es

all_live : (P : MarkKey → Type 0) (es : Counts) → AllByRecursion P (keys_of es) → AllByRecursion P (keys_of (live es))
all_live P [] h = tt
all_live P (e ∷ es) h = by_test (ltb 0 e.1) (all_live P es h.1)
  where
    by_test : (b : Bool) → AllByRecursion P (keys_of (live es)) → AllByRecursion P (keys_of (cond b (e ∷ live es) (live es)))
    by_test true rest = (h.0, rest)
    by_test false rest = rest

pub live_in_order : (es : Counts) → InOrder es → InOrder (live es)
unfolding IsStrictlySortedBy
live_in_order [] ordered = tt
live_in_order (e ∷ es) ordered = by_test (ltb 0 e.1) (live_in_order es ordered.1)
  where
    by_test : (b : Bool) → InOrder (live es) → InOrder (cond b (e ∷ live es) (live es))
    by_test true rest = (all_live (λ x. mark_cmp e.0 x ≡ Less) es ordered.0, rest)
    by_test false rest = rest

pub live_marks : (es : Counts) → InOrder es → (v i : ℕ) → mark_of (live es) v i ≡ mark_of es v i
live_marks es ordered v i =
    ap (λ (o : Option ℕ). unwrap_or o 0) (lookup-filter-values same_keys (ltb 0) (mark_key v i) es (distinct es ordered))
    ∙ by_value (lookup (is_at (mark_cmp (mark_key v i))) es)
  where
    by_value : (o : Option ℕ) → unwrap_or (option_filter (ltb 0) o) 0 ≡ unwrap_or o 0
    by_value None = refl
    by_value (Some zero) = refl
    by_value (Some (suc n)) = ap (λ b. unwrap_or (cond b (Some (suc n)) None) 0) (lt-ltb 0 (suc n) (omega arith))

front_all : (P : MarkKey → Type 0) (es t : Counts) → AllByRecursion P (keys_of (es ++ t)) → AllByRecursion P (keys_of es)
front_all P [] t h = tt
front_all P (e ∷ es) t h = (h.0, front_all P es t h.1)

pub front_in_order : (es t : Counts) → InOrder (es ++ t) → InOrder es
unfolding IsStrictlySortedBy
front_in_order [] t ordered = tt
front_in_order (e ∷ es) t ordered = (front_all (λ x. mark_cmp e.0 x ≡ Less) es t ordered.0, front_in_order es t ordered.1)

pub without_last : (es : Counts) (e : MarkKey × ℕ) → e.1 ≡ 0 → (v i : ℕ) → mark_of (es ++ e ∷ []) v i ≡ mark_of es v i
without_last [] e none v i = by_test (is_at (mark_cmp (mark_key v i)) e.0)
  where
    by_test : (b : Bool) → unwrap_or (cond b (Some e.1) None) 0 ≡ 0
    by_test true = none
    by_test false = refl
without_last (x ∷ es) e none v i = by_test (is_at (mark_cmp (mark_key v i)) x.0) (without_last es e none v i)
  where
    by_test : (b : Bool) → mark_of (es ++ e ∷ []) v i ≡ mark_of es v i → unwrap_or (cond b (Some x.1) (lookup (is_at (mark_cmp (mark_key v i))) (es ++ e ∷ []))) 0 ≡ unwrap_or (cond b (Some x.1) (lookup (is_at (mark_cmp (mark_key v i))) es)) 0
    by_test true rest = refl
    by_test false rest = rest
