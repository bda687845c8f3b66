-- What the index of children says is what a walk over the tree finds.
use Rattle.std.proofs.Common.{◌≡◌, ℕ, ◌≤◌, Bool, true, false, cond, ◌&&◌, eqb, T, List, [], ◌∷◌, option_map, IfSome, IfNone, Option, Some, None, refl, sym, ap, ◌∙◌, ⊎_elim, arith, nat_cmp, bytes_eq}
use Rattle.std.specs.List as lists
use Rattle.std.specs.Ordering.{eq_by_cmp}
use Rattle.std.specs.Option.{option_map_or}
use Rattle.std.specs.Cmp.{unsigned_tied}
use Rattle.std.specs.FinMap.Entries as entries
use Rattle.std.proofs.lemmas.Bool.{cases_Bool, and_parts, and_from, eqb-true, or_cases, or_left, or_right}
use Rattle.std.proofs.lemmas.Slice.Eq.{bytes_eq-Decides}
use Rattle.std.proofs.lemmas.Option.{same_Some}
use Rattle.jffs_tree.specs.State.{child, is_child}
use Rattle.jffs_inodes.specs.Held.{Held}
use Rattle.jffs_inodes.specs.Inodes.{Tree, held_in}
use Rattle.jffs_tree.specs.Origin.{state_in}
use Rattle.jffs_tree.specs.Index.{ChildKey, has_child, stands_at, is_named, IsIndexOf}
use Rattle.jffs_marks.proofs.Maps.{tail_sorted, at_first, behind, at_later}

pub some_of : (test : Held → Bool) (o : Option Held) → option_map_or test o false ≡ true → (h : Held) × (o ≡ Some h) × (test h ≡ true)
some_of test None e = cc
some_of test (Some h) e = (h, refl, e)

module _ (p : ℕ) (name : List ℕ) where
  abbrev test : Held → Bool
  test h = (eqb h.entry.parent p) && bytes_eq h.entry.name name

  abbrev stands : Tree → ℕ → Bool
  stands tree i = option_map_or test (held_in tree i) false

  found : (b : Bool) (z : ℕ × Held) (tree : Tree) → test z.1 ≡ b → child (state_in (z ∷ tree)) p name ≡ cond b (Some z.0) (child (state_in tree) p name)
  found true z tree e = ap (λ t. option_map (λ x. x.0) (cond t (Some (z.0, z.1.entry)) (lists.find (is_child p name) (state_in tree)))) e
  found false z tree e = ap (λ t. option_map (λ x. x.0) (cond t (Some (z.0, z.1.entry)) (lists.find (is_child p name) (state_in tree)))) e

  child_stands : (tree : Tree) → T (entries.is_sorted nat_cmp tree) → (c : ℕ) → child (state_in tree) p name ≡ Some c → stands tree c ≡ true
  child_stands [] sorted c is = cc
  child_stands (z ∷ tree) sorted c is = ⊎_elim
      (λ here.
      let same = same_Some z.0 c (sym (found true z tree here) ∙ is) in
      ap (λ k. stands (z ∷ tree) k) (sym same) ∙ ap (λ o. option_map_or test o false) (at_first z tree) ∙ here)
      (λ not_here.
      let later = some_of test (held_in tree c) (child_stands tree (tail_sorted z tree sorted) c (sym (found false z tree not_here) ∙ is)) in
      ap (λ o. option_map_or test o false) (at_later z tree c later.0 sorted later.1) ∙ later.2)
      (cases_Bool (test z.1))

  child_least : (tree : Tree) → T (entries.is_sorted nat_cmp tree) → (c : ℕ) → child (state_in tree) p name ≡ Some c → (j : ℕ) → stands tree j ≡ true → c ≤ j
  child_least [] sorted c is j at = cc
  child_least (z ∷ tree) sorted c is j at = ⊎_elim
      (λ tied.
      let same : j ≡ z.0 = eqb-true j z.0 (sym (unsigned_tied j z.0) ∙ tied) in
      let here : test z.1 ≡ true = sym (ap (λ t. option_map_or test (cond t (Some z.1) (held_in tree j)) false) tied) ∙ at in
      let low = same_Some z.0 c (sym (found true z tree here) ∙ is) in
      omega arith)
      (λ apart.
      let there : stands tree j ≡ true = sym (ap (λ t. option_map_or test (cond t (Some z.1) (held_in tree j)) false) apart) ∙ at in
      let h = some_of test (held_in tree j) there in
      let low = behind z tree j h.0 sorted h.1 in
      ⊎_elim
      (λ here. let same = same_Some z.0 c (sym (found true z tree here) ∙ is) in omega arith)
      (λ not_here. child_least tree (tail_sorted z tree sorted) c (sym (found false z tree not_here) ∙ is) j there)
      (cases_Bool (test z.1)))
      (cases_Bool (eq_by_cmp nat_cmp j z.0))

  child_none : (tree : Tree) → child (state_in tree) p name ≡ None → (j : ℕ) → stands tree j ≡ false
  child_none [] is j = refl
  child_none (z ∷ tree) is j = ⊎_elim
      (λ here. let first : ◌≡◌ {A = Option ℕ} (Some z.0) None = sym (found true z tree here) ∙ is in cc)
      (λ not_here. ⊎_elim
      (λ tied. ap (λ t. option_map_or test (cond t (Some z.1) (held_in tree j)) false) tied ∙ not_here)
      (λ apart. ap (λ t. option_map_or test (cond t (Some z.1) (held_in tree j)) false) apart ∙ child_none tree (sym (found false z tree not_here) ∙ is) j)
      (cases_Bool (eq_by_cmp nat_cmp j z.0)))
      (cases_Bool (test z.1))

  module _ (tree : Tree) (keys : List ChildKey) (sorted : T (entries.is_sorted nat_cmp tree)) (index : IsIndexOf tree keys) where
    by_both : (r o : Option ℕ) → child (state_in tree) p name ≡ o
        → IfSome r (λ i. has_child keys (p, Some name, i) ≡ true)
        → IfSome r (λ i. (j : ℕ) → has_child keys (p, Some name, j) ≡ true → i ≤ j)
        → IfNone r ((j : ℕ) → has_child keys (p, Some name, j) ≡ false) → r ≡ o
    by_both None None is there least none = refl
    by_both (Some i) None is there least none = let a = index (p, Some name, i) in let b = child_none tree is i in cc
    by_both None (Some c) is there least none = let a = index (p, Some name, c) in let b = child_stands tree sorted c is in let d = none c in cc
    by_both (Some i) (Some c) is there least none =
        let low : i ≤ c = least c (index (p, Some name, c) ∙ child_stands tree sorted c is) in
        let high : c ≤ i = child_least tree sorted c is i (sym (index (p, Some name, i)) ∙ there) in
        let same : i ≡ c = omega arith in
        ap (λ k. Some k) same

    pub child_found : (r : Option ℕ)
        → IfSome r (λ i. has_child keys (p, Some name, i) ≡ true)
        → IfSome r (λ i. (j : ℕ) → has_child keys (p, Some name, j) ≡ true → i ≤ j)
        → IfNone r ((j : ℕ) → has_child keys (p, Some name, j) ≡ false) → r ≡ child (state_in tree) p name
    child_found r there least none = by_both r (child (state_in tree) p name) refl there least none

-- The same of a directory.
any_of_held : (p : ℕ) (tree : Tree) (i : ℕ) (h : Held) → held_in tree i ≡ Some h → eqb h.entry.parent p ≡ true → lists.list_any (λ e. eqb e.1.parent p) (state_in tree) ≡ true
any_of_held p [] i h is at = cc
any_of_held p (z ∷ tree) i h is at = ⊎_elim
    (λ tied.
    let same = same_Some z.1 h (sym (ap (λ t. cond t (Some z.1) (held_in tree i)) tied) ∙ is) in
    or_left (eqb z.1.entry.parent p) _ (ap (λ x. eqb x.entry.parent p) same ∙ at))
    (λ apart. or_right (eqb z.1.entry.parent p) _ (any_of_held p tree i h (sym (ap (λ t. cond t (Some z.1) (held_in tree i)) apart) ∙ is) at))
    (cases_Bool (eq_by_cmp nat_cmp i z.0))

held_of_any : (p : ℕ) (tree : Tree) → T (entries.is_sorted nat_cmp tree) → lists.list_any (λ e. eqb e.1.parent p) (state_in tree) ≡ true
    → (i : ℕ) × (h : Held) × (held_in tree i ≡ Some h) × (eqb h.entry.parent p ≡ true)
held_of_any p [] sorted any = cc
held_of_any p (z ∷ tree) sorted any = ⊎_elim
    (λ here. (z.0, z.1, at_first z tree, here))
    (λ there. let later = held_of_any p tree (tail_sorted z tree sorted) there in (later.0, later.1, at_later z tree later.0 later.1 sorted later.2, later.3))
    (or_cases (eqb z.1.entry.parent p) (lists.list_any (λ e. eqb e.1.parent p) (state_in tree)) any)

module _ (p : ℕ) (tree : Tree) (keys : List ChildKey) (sorted : T (entries.is_sorted nat_cmp tree)) (index : IsIndexOf tree keys) where
  pub any_found : (r : Bool) → (r ≡ true → (q : ChildKey) × (has_child keys q ≡ true) × (q.0 ≡ p)) → (r ≡ false → (q : ChildKey) → q.0 ≡ p → has_child keys q ≡ false)
      → r ≡ lists.list_any (λ e. eqb e.1.parent p) (state_in tree)
  any_found true some none =
      let q = some refl in
      let h = some_of (λ (x : Held). (eqb x.entry.parent q.0.0) && is_named x.entry.name q.0.1) (held_in tree q.0.2) (sym (index q.0) ∙ q.1) in
      sym (any_of_held p tree q.0.2 h.0 h.1 (ap (λ k. eqb h.0.entry.parent k) (sym q.2) ∙ (and_parts (eqb h.0.entry.parent q.0.0) (is_named h.0.entry.name q.0.1) h.2).0))
  any_found false some none = ⊎_elim
      (λ any.
      let h = held_of_any p tree sorted any in
      let q : ChildKey = (p, Some h.1.entry.name, h.0) in
      let at : stands_at tree q ≡ true =
      ap (λ o. option_map_or (λ (x : Held). (eqb x.entry.parent p) && bytes_eq x.entry.name h.1.entry.name) o false) h.2
      ∙ and_from (eqb h.1.entry.parent p) _ h.3 ((bytes_eq-Decides h.1.entry.name h.1.entry.name).1 refl) in
      let a = index q in
      let b = none refl q refl in
      cc)
      (λ never. sym never)
      (cases_Bool (lists.list_any (λ e. eqb e.1.parent p) (state_in tree)))
