-- Walks over the entries from a place on: what is known when they stop.
use Rattle.std.proofs.Common.{◌≡◌, ◌≢◌, ℕ, suc, ◌+◌, ◌-◌, ◌<◌, ◌≤◌, ◌∷◌, length, drop, slice_get, Some, refl, sym, ap, subst, ◌∙◌, ⊎_elim, arith}
use Rattle.std.specs.Ordering.{is_gt}
use Rattle.std.proofs.lemmas.Bool.{cases_lt}
use Rattle.std.proofs.lemmas.Option.{same_Some, slice_get_within, get_or_from_slice_get}
use Rattle.std.proofs.Math.Seq.{drop-cons}
use Rattle.jffs_marks.specs.Marks.{MarkKey, Counts, mark_key, mark_of, SplitsAt}
use Rattle.jffs_marks.proofs.Marking.{mark_second, zero_or_more}
use Rattle.jffs_marks.proofs.Places.{InOrder, entry_of, before, no_newer}

module _ (counts : Counts) (first i : ℕ) (split : SplitsAt counts first i) where
  pub new_at : (j : ℕ) (e : MarkKey × ℕ) → slice_get counts j ≡ Some e → j < i → first ≤ e.0.0.0
  new_at j e is l = subst (λ (x : MarkKey × ℕ). first ≤ x.0.0.0) (get_or_from_slice_get counts j e e is) (split.parts.0 j e (omega arith) l)

  pub old_at : (j : ℕ) (e : MarkKey × ℕ) → slice_get counts j ≡ Some e → i ≤ j → e.0.0.0 < first
  old_at j e is l = subst (λ (x : MarkKey × ℕ). x.0.0.0 < first) (get_or_from_slice_get counts j e e is) (split.parts.1 j e l (slice_get_within counts j e is))

pub drop_at : (counts : Counts) (i : ℕ) (e : MarkKey × ℕ) → slice_get counts i ≡ Some e → drop i counts ≡ e ∷ drop (i + 1) counts
drop_at counts i e is =
    let next : suc i ≡ i + 1 = omega arith in
    drop-cons counts i e (slice_get_within counts i e is)
    ∙ ap (λ (x : MarkKey × ℕ). x ∷ drop (suc i) counts) (get_or_from_slice_get counts i e e is)
    ∙ ap (λ n. e ∷ drop n counts) next

-- no marks where no entry has any
none_of : (counts : Counts) → InOrder counts → (v i : ℕ) → ((j : ℕ) → slice_get counts j ≡ Some (mark_key v i, mark_of counts v i) → mark_of counts v i ≡ 0) → mark_of counts v i ≡ 0
none_of counts ordered v i none = ⊎_elim
    (λ zero. zero)
    (λ some. let entry = entry_of counts ordered v i some in none entry.0 entry.1)
    (zero_or_more (mark_of counts v i))

-- Towards newer versions: the entries from the index on are spent, where they are of versions from
-- `first` on.
pub record AreSpentFrom (counts : Counts) (first i : ℕ) : Type 0 where
  pub within : i ≤ length counts
  pub newer : (j : ℕ) (e : MarkKey × ℕ) → slice_get counts j ≡ Some e → j < i → first ≤ e.0.0.0
  pub spent : (j : ℕ) (e : MarkKey × ℕ) → slice_get counts j ≡ Some e → i ≤ j → first ≤ e.0.0.0 → e.1 ≡ 0

module _ (counts : Counts) (ordered : InOrder counts) (first n : ℕ) (some : 0 < n) (e : MarkKey × ℕ) (is : slice_get counts (n - 1) ≡ Some e) (walk : AreSpentFrom counts first n) where
  pub one_spent : e.1 ≡ 0 → AreSpentFrom counts first (n - 1)
  one_spent none = record {
    within = let w = walk.within in omega (arith, w);
    newer = λ j x at l. walk.newer j x at (omega (arith, l));
    spent = λ j x at l low. ⊎_elim
        (λ here. let same : j ≡ n - 1 = omega (arith, here, l) in
        ap (λ (y : MarkKey × ℕ). y.1) (same_Some x e (sym at ∙ ap (λ k. slice_get counts k) same ∙ is)) ∙ none)
        (λ further. walk.spent j x at further low)
        (cases_lt j n);
  }

  pub is_new : first ≤ e.0.0.0
  is_new = walk.newer (n - 1) e is (omega (arith, some))

  -- the version of the entry is the least that may have marks
  pub none_older : (w j : ℕ) → first ≤ w → w < e.0.0.0 → mark_of counts w j ≡ 0
  none_older w j low less = none_of counts ordered w j (λ k at. ⊎_elim
      (λ newer. absurd (⊎_elim
      (λ newest. let l = no_newer counts ordered k (n - 1) (mark_key w j, mark_of counts w j) e at is newest in omega (arith, l, less))
      (λ here. let same : k ≡ n - 1 = omega (arith, here, newer) in
      let own = ap (λ (y : MarkKey × ℕ). y.0.0.0) (same_Some (mark_key w j, mark_of counts w j) e (sym at ∙ ap (λ k. slice_get counts k) same ∙ is)) in
      omega (arith, own, less))
      (cases_lt k (n - 1))))
      (λ further. walk.spent k (mark_key w j, mark_of counts w j) at further low)
      (cases_lt k n))

pub none_from : (counts : Counts) → InOrder counts → (first : ℕ) → AreSpentFrom counts first 0 → (v i : ℕ) → first ≤ v → mark_of counts v i ≡ 0
none_from counts ordered first walk v i low = none_of counts ordered v i (λ k at. walk.spent k (mark_key v i, mark_of counts v i) at (omega arith) low)

-- Towards older versions: the entries of a version before the index are spent, and none from there
-- on is newer.
pub record AreSpentTo (counts : Counts) (v i : ℕ) : Type 0 where
  pub older : (j : ℕ) (e : MarkKey × ℕ) → slice_get counts j ≡ Some e → i ≤ j → e.0.0.0 ≤ v
  pub spent : (j : ℕ) (e : MarkKey × ℕ) → slice_get counts j ≡ Some e → j < i → e.0.0.0 ≡ v → e.1 ≡ 0

pub to_split : (counts : Counts) (v i : ℕ) → SplitsAt counts (v + 1) i → AreSpentTo counts v i
to_split counts v i split = record {
  older = λ j e is l. let old = old_at counts (v + 1) i split j e is l in omega (arith, old);
  spent = λ j e is l own. let new = new_at counts (v + 1) i split j e is l in absurd (omega (arith, new, own));
}

module _ (counts : Counts) (ordered : InOrder counts) (v i : ℕ) (e : MarkKey × ℕ) (is : slice_get counts i ≡ Some e) (walk : AreSpentTo counts v i) where
  pub spent_too : e.1 ≡ 0 → AreSpentTo counts v (i + 1)
  spent_too none = record {
    older = λ j x at l. walk.older j x at (omega (arith, l));
    spent = λ j x at l own. ⊎_elim
        (λ less. walk.spent j x at less own)
        (λ here. let same : j ≡ i = omega (arith, here, l) in
        ap (λ (y : MarkKey × ℕ). y.1) (same_Some x e (sym at ∙ ap (λ k. slice_get counts k) same ∙ is)) ∙ none)
        (cases_lt j i);
  }

  pub none_there : e.0.0.0 ≢ v → (j : ℕ) → mark_of counts v j ≡ 0
  none_there other j = none_of counts ordered v j (λ k at. ⊎_elim
      (λ less. walk.spent k (mark_key v j, mark_of counts v j) at less refl)
      (λ more. absurd (⊎_elim
      (λ further.
      let low = walk.older i e is (omega arith) in
      let l = no_newer counts ordered i k e (mark_key v j, mark_of counts v j) is at further in
      other (omega (arith, low, l)))
      (λ here. let same : k ≡ i = omega (arith, here, more) in
      other (sym (ap (λ (y : MarkKey × ℕ). y.0.0.0) (same_Some (mark_key v j, mark_of counts v j) e (sym at ∙ ap (λ k. slice_get counts k) same ∙ is)))))
      (cases_lt i k)))
      (cases_lt k i))

  pub is_least : e.0.0.0 ≡ v → (j : ℕ) → 0 < mark_of counts v j → e.0.1 ≤ j
  is_least own j some =
      let entry = entry_of counts ordered v j some in
      ⊎_elim
      (λ less. let none = walk.spent entry.0 (mark_key v j, mark_of counts v j) entry.1 less refl in absurd (omega (arith, none, some)))
      (λ more. ⊎_elim
      (λ further. mark_second e.0 (mark_key v j) own (ap is_gt (before counts ordered i entry.0 e (mark_key v j, mark_of counts v j) is entry.1 further)))
      (λ here. let same : entry.0 ≡ i = omega (arith, here, more) in
      let inode : j ≡ e.0.1 = ap (λ (y : MarkKey × ℕ). y.0.1) (same_Some (mark_key v j, mark_of counts v j) e (sym entry.1 ∙ ap (λ k. slice_get counts k) same ∙ is)) in
      omega (arith, inode))
      (cases_lt i entry.0))
      (cases_lt entry.0 i)

pub none_to : (counts : Counts) → InOrder counts → (v n : ℕ) → length counts ≤ n → AreSpentTo counts v n → (j : ℕ) → mark_of counts v j ≡ 0
none_to counts ordered v n all walk j = none_of counts ordered v j (λ k at. let l = slice_get_within counts k (mark_key v j, mark_of counts v j) at in walk.spent k (mark_key v j, mark_of counts v j) at (omega (arith, l, all)) refl)
