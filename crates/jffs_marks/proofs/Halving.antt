-- A search by halves: what an entry in the middle says of those on both sides.
use Rattle.std.proofs.Common.{◌≡◌, ℕ, ◌+◌, ◌<◌, ◌≤◌, true, false, true≢false, ◌&&◌, eqb, ⊎_elim, length, get_or, slice_get, Some, refl, sym, ap, subst, ◌∙◌, arith}
use Rattle.std.specs.Ordering.{is_eq, is_lt}
use Rattle.std.specs.declared.cmp.Ordering.{Ordering}
use Rattle.std.specs.declared.cmp.Ordering.TheVariants.{Less, Equal, Greater}
use Rattle.std.proofs.lemmas.Bool.{cases_lt, and_from, eq-eqb, false_from_ne_true}
use Rattle.std.proofs.lemmas.Option.{slice_get-get_or, get_or_from_slice_get}
use Rattle.jffs_marks.specs.Marks.{MarkKey, Counts, mark_cmp, BelongsAt, IsPlaceWithin}
use Rattle.jffs_marks.proofs.Places.{InOrder, mark_total, one_key, before}

less : (o : Ordering) → is_lt o ≡ true → o ≡ Less
less Less h = refl
less Equal h = cc
less Greater h = cc

greater : (o : Ordering) → is_lt o ≡ false → is_eq o ≡ false → o ≡ Greater
greater Less h e = cc
greater Equal h e = cc
greater Greater h e = refl

module _ (counts : Counts) (ordered : InOrder counts) (key : MarkKey) where
  before_too : (i j : ℕ) (a b : MarkKey × ℕ) → slice_get counts i ≡ Some a → slice_get counts j ≡ Some b → i < j → is_lt (mark_cmp b.0 key) ≡ true → is_lt (mark_cmp a.0 key) ≡ true
  before_too i j a b at_i at_j l h = ap is_lt (mark_total.trans a.0 b.0 key (before counts ordered i j a b at_i at_j l) (less (mark_cmp b.0 key) h))

  pub anywhere : IsPlaceWithin counts key 0 (length counts)
  anywhere = record {
    ends = (omega arith, omega arith);
    low = λ k d l h. absurd (omega (arith, h));
    high = λ k d l h. absurd (omega (arith, l, h));
  }

  pub upper_half : (from to mid : ℕ) (e : MarkKey × ℕ) → IsPlaceWithin counts key from to → mid < to → slice_get counts mid ≡ Some e → is_lt (mark_cmp e.0 key) ≡ true → IsPlaceWithin counts key (mid + 1) to
  upper_half from to mid e p within at h = record {
    ends = (omega (arith, within), p.ends.1);
    low = λ k d l m. ⊎_elim
        (λ below. before_too k mid (get_or counts k d) e (slice_get-get_or counts k d (omega (arith, m, within, p.ends.1))) at below h)
        (λ above. let same : k ≡ mid = omega (arith, above, m) in
        let read = get_or_from_slice_get counts k e d (subst (λ n. slice_get counts n ≡ Some e) (sym same) at) in
        subst (λ (x : MarkKey × ℕ). is_lt (mark_cmp x.0 key) ≡ true) (sym read) h)
        (cases_lt k mid);
    high = p.high;
  }

  pub lower_half : (from to mid : ℕ) (e : MarkKey × ℕ) → IsPlaceWithin counts key from to → from ≤ mid → mid < to → slice_get counts mid ≡ Some e → is_lt (mark_cmp e.0 key) ≡ false → IsPlaceWithin counts key from mid
  lower_half from to mid e p start within at h = record {
    ends = (start, omega (arith, within, p.ends.1));
    low = p.low;
    high = λ k d l m. ⊎_elim
        (λ above. false_from_ne_true (is_lt (mark_cmp (get_or counts k d).0 key))
        (λ is. true≢false (sym (before_too mid k e (get_or counts k d) at (slice_get-get_or counts k d m) above is) ∙ h)))
        (λ below. let same : k ≡ mid = omega (arith, below, l) in
        let read = get_or_from_slice_get counts k e d (subst (λ n. slice_get counts n ≡ Some e) (sym same) at) in
        subst (λ (x : MarkKey × ℕ). is_lt (mark_cmp x.0 key) ≡ false) (sym read) h)
        (cases_lt mid k);
  }

  -- Where the halves meet and the key doesn't stand, it belongs.
  pub met_absent : (i j : ℕ) → j ≤ i → IsPlaceWithin counts key i j → ((e : MarkKey × ℕ) → slice_get counts i ≡ Some e → (eqb e.0.0.0 key.0.0 && eqb e.0.1 key.1) ≡ false) → BelongsAt counts key i
  met_absent i j met p other = record {
    within = omega (arith, p.ends.0, p.ends.1);
    between = (
      λ k d l m. less (mark_cmp (get_or counts k d).0 key) (p.low k d l m),
      λ k d l m. greater (mark_cmp (get_or counts k d).0 key) (high k d l m) (false_from_ne_true (is_eq (mark_cmp (get_or counts k d).0 key)) (apart k d l m)),
    );
  }
    where
      high : (k : ℕ) (d : MarkKey × ℕ) → i ≤ k → k < length counts → is_lt (mark_cmp (get_or counts k d).0 key) ≡ false
      high k d l m = p.high k d (omega (arith, l, met)) m

      apart : (k : ℕ) (d : MarkKey × ℕ) → i ≤ k → k < length counts → is_eq (mark_cmp (get_or counts k d).0 key) ≡ true → ⊥
      apart k d l m is =
          let same : (get_or counts k d).0 ≡ key = one_key (get_or counts k d).0 key is in
          ⊎_elim
          (λ above. true≢false (sym
          (ap is_lt (subst (λ x. mark_cmp (get_or counts i d).0 x ≡ Less) same (before counts ordered i k (get_or counts i d) (get_or counts k d) (slice_get-get_or counts i d (omega (arith, above, m))) (slice_get-get_or counts k d m) above)))
          ∙ high i d (omega arith) (omega (arith, above, m))))
          (λ below. let equal : i ≡ k = omega (arith, below, l) in
          let at : slice_get counts i ≡ Some (get_or counts k d) = subst (λ n. slice_get counts n ≡ Some (get_or counts k d)) (sym equal) (slice_get-get_or counts k d m) in
          true≢false (sym
          (and_from (eqb (get_or counts k d).0.0.0 key.0.0) (eqb (get_or counts k d).0.1 key.1) (eq-eqb (get_or counts k d).0.0.0 key.0.0 (ap (λ (x : MarkKey). x.0.0) same)) (eq-eqb (get_or counts k d).0.1 key.1 (ap (λ (x : MarkKey). x.1) same)))
          ∙ other (get_or counts k d) at))
          (cases_lt i k)
