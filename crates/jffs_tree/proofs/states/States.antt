-- A state, inode by inode, and what a search in it finds.
use Rattle.std.proofs.Common.{◌≡◌, ℕ, Bool, true, false, cond, T, [], ◌∷◌, ◌⊎◌, inl, inr, ⊎_elim, Some, None, refl, sym, ap, subst, ◌∙◌, nat_cmp}
use Rattle.std.specs.List.{list_any, list_all, find}
use Rattle.std.specs.Ordering.{eq_by_cmp}
use Rattle.std.specs.Cmp.{unsigned_tied}
use Rattle.std.specs.FinMap.Entries as entries
use Rattle.std.proofs.lemmas.Bool.{eqb-true, and_parts, and_from, or_left, or_right, or_from, cases_Bool}
use Rattle.std.proofs.lemmas.Option.{same_Some}
use Rattle.jffs_inodes.specs.Held.{Entry}
use Rattle.jffs_tree.specs.State.{State, at}
use Rattle.jffs_marks.proofs.Maps.{tail_sorted, at_first, at_later}

pub at_cases : (x : ℕ × Entry) (s : State) (i : ℕ) (e : Entry) → at (x ∷ s) i ≡ Some e → ((i ≡ x.0) × (x.1 ≡ e)) ⊎ (at s i ≡ Some e)
at_cases x s i e is = ⊎_elim
    (λ tied.
    let same = same_Some x.1 e (sym (ap (λ t. cond t (Some x.1) (at s i)) tied) ∙ is) in
    inl (eqb-true i x.0 (sym (unsigned_tied i x.0) ∙ tied), same))
    (λ apart. inr (sym (ap (λ t. cond t (Some x.1) (at s i)) apart) ∙ is))
    (cases_Bool (eq_by_cmp nat_cmp i x.0))

module _ (test : (ℕ × Entry) → Bool) where
  -- a test of all entries, and of each
  pub all_at : (s : State) (i : ℕ) (e : Entry) → list_all test s ≡ true → at s i ≡ Some e → test (i, e) ≡ true
  all_at [] i e h is = cc
  all_at (x ∷ s) i e h is =
      let parts = and_parts (test x) (list_all test s) h in
      ⊎_elim
      (λ here. ap test (λ j. (here.0 j, sym here.1 j)) ∙ parts.0)
      (λ later. all_at s i e parts.1 later)
      (at_cases x s i e is)

  pub all_from : (s : State) → T (entries.is_sorted nat_cmp s) → ((i : ℕ) (e : Entry) → at s i ≡ Some e → test (i, e) ≡ true) → list_all test s ≡ true
  all_from [] h each = refl
  all_from (x ∷ s) h each =
      and_from (test x) (list_all test s) (each x.0 x.1 (at_first x s)) (all_from s (tail_sorted x s h) (λ i e is. each i e (at_later x s i e h is)))

  pub any_at : (s : State) (i : ℕ) (e : Entry) → at s i ≡ Some e → test (i, e) ≡ true → list_any test s ≡ true
  any_at [] i e is h = cc
  any_at (x ∷ s) i e is h = ⊎_elim
      (λ here. or_left (test x) (list_any test s) (ap test (λ j. (sym here.0 j, here.1 j)) ∙ h))
      (λ later. or_right (test x) (list_any test s) (any_at s i e later h))
      (at_cases x s i e is)

  pub none_at : (s : State) (i : ℕ) (e : Entry) → list_any test s ≡ false → at s i ≡ Some e → test (i, e) ≡ false
  none_at s i e h is = ⊎_elim (λ yes. let any = any_at s i e is yes in cc) (λ no. no) (cases_Bool (test (i, e)))

  pub none_from : (s : State) → T (entries.is_sorted nat_cmp s) → ((i : ℕ) (e : Entry) → at s i ≡ Some e → test (i, e) ≡ false) → list_any test s ≡ false
  none_from [] h each = refl
  none_from (x ∷ s) h each =
      or_from (test x) (list_any test s) (each x.0 x.1 (at_first x s)) (none_from s (tail_sorted x s h) (λ i e is. each i e (at_later x s i e h is)))

  -- what a search finds is there, and where it finds none there is none
  pub found_at : (s : State) (x : ℕ × Entry) → T (entries.is_sorted nat_cmp s) → find test s ≡ Some x → (at s x.0 ≡ Some x.1) × (test x ≡ true)
  found_at [] x h is = cc
  found_at (y ∷ s) x h is = ⊎_elim
      (λ passes.
      let same = same_Some y x (sym (ap (λ t. cond t (Some y) (find test s)) passes) ∙ is) in
      subst (λ (z : ℕ × Entry). (at (y ∷ s) z.0 ≡ Some z.1) × (test z ≡ true)) same (at_first y s, passes))
      (λ fails.
      let later = found_at s x (tail_sorted y s h) (sym (ap (λ t. cond t (Some y) (find test s)) fails) ∙ is) in
      (at_later y s x.0 x.1 h later.0, later.1))
      (cases_Bool (test y))

  pub not_found : (s : State) (i : ℕ) (e : Entry) → find test s ≡ None → at s i ≡ Some e → test (i, e) ≡ false
  not_found s i e h is = none_at s i e (none_any s h) is
    where
      none_any : (s : State) → find test s ≡ None → list_any test s ≡ false
      none_any [] h = refl
      none_any (y ∷ s) h = ⊎_elim
          (λ passes. let some : Some y ≡ None = sym (ap (λ t. cond t (Some y) (find test s)) passes) ∙ h in cc)
          (λ fails. or_from (test y) (list_any test s) fails (none_any s (sym (ap (λ t. cond t (Some y) (find test s)) fails) ∙ h)))
          (cases_Bool (test y))
