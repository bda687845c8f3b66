-- What the index lists of a directory is what a walk over the tree finds there.
use Rattle.std.proofs.Common.{◌≡◌, ℕ, ◌≢◌, Bool, true, false, cond, ◌&&◌, eqb, List, [], ◌∷◌, ◌++◌, option_map, Option, Some, None, refl, sym, ap, subst, ◌∙◌, ⊎_elim, nat_cmp}
use Rattle.std.specs.List.{AllByRecursion, filter}
use Rattle.std.specs.List.Sorted.{IsStrictlySortedBy}
use Rattle.std.specs.Ordering.{is_gt, is_le, ordering_then}
use Rattle.std.specs.Option.{option_to_list, option_cmp}
use Rattle.std.specs.declared.cmp.Ordering.{Ordering}
use Rattle.std.specs.declared.cmp.Ordering.TheVariants.{Less, Equal, Greater}
use Rattle.std.specs.Cmp.{nat_cmp_total, tied_itself}
use Rattle.std.specs.Cmp.Lexicographic.{slice_cmp}
use Rattle.std.specs.BTreeMap.Range.{range_contains}
use Rattle.std.specs.declared.ops.Bound.TheVariants.{Included, Unbounded}
use Rattle.std.proofs.lemmas.Bool.{cases_Bool, eqb-true, eq-eqb, ne_eqb}
use Rattle.std.proofs.lemmas.List.{append-nil, append_assoc}
use Rattle.std.proofs.lemmas.List.Kept.{IsStrictlySortedBy-filter}
use Rattle.std.proofs.lemmas.Map.Keys.{sorted_head, sorted_tail}
use Rattle.jffs_tree.specs.Index.{ChildKey, key_cmp, name_under, names_under}
use Rattle.jffs_tree.specs.Look.{name_cmp}
use Rattle.jffs_tree.proofs.listing.KeyOrder.{between_names}
use Rattle.jffs_tree.proofs.listing.Indexed.{low_in_directory}

-- the keys rise, from the first that the directory may have
pub record IsFrom (p : ℕ) (keys : List ChildKey) : Type 0 where
  pub rising : IsStrictlySortedBy key_cmp keys
  pub from : AllByRecursion (λ k. is_gt (key_cmp (p, None, 0) k) ≡ false) keys

module _ (p : ℕ) where
  pub other_name : (k : ChildKey) → eqb k.0 p ≡ false → name_under p k ≡ []
  other_name k e = ap (λ b. cond b (option_to_list (option_map (λ name. (name, k.2)) k.1)) []) e

  -- after a key of a later directory there is none of this one
  pub later : (k : ChildKey) (ks : List ChildKey) → is_gt (key_cmp (p, None, 0) k) ≡ false → eqb k.0 p ≡ false → AllByRecursion (λ y. key_cmp k y ≡ Less) ks → names_under p ks ≡ []
  later k [] from other above = refl
  later k (y ∷ ys) from other above =
      ap (λ xs. xs ++ names_under p ys) (other_name y apart) ∙ later k ys from other above.1
    where
      apart : eqb y.0 p ≡ false
      apart = ⊎_elim
          (λ same.
          let at = eqb-true y.0 p same in
          let no = eq-eqb k.0 p (between_names p y.1 y.2 k from (ap (λ x. is_gt (key_cmp k (x, y.1, y.2))) (sym at) ∙ ap is_gt above.0)) in
          cc)
          (λ n. n)
          (cases_Bool (eqb y.0 p))

  pub behind_first : (left : List ChildKey) (k : ChildKey) (ks : List ChildKey) → left ≡ k ∷ ks → IsFrom p left → IsFrom p ks
  behind_first left k ks is from = let f = subst (λ xs. IsFrom p xs) is from in record { rising = sorted_tail key_cmp k ks f.rising; from = f.from.1 }

  pub one_more : (name : List ℕ) (k : ChildKey) → eqb k.0 p ≡ true → k.1 ≡ Some name → name_under p k ≡ (name, k.2) ∷ []
  one_more name k at is =
      ap (λ b. cond b (option_to_list (option_map (λ x. (x, k.2)) k.1)) []) at
      ∙ ap (λ o. option_to_list (option_map (λ x. (x, k.2)) o)) is

  none_more : (k : ChildKey) → k.1 ≡ None → name_under p k ≡ []
  none_more k is = ap (λ o. cond (eqb k.0 p) (option_to_list (option_map (λ x. (x, k.2)) o)) []) is ∙ either (eqb k.0 p)
    where
      either : (b : Bool) → ◌≡◌ {A = List (List ℕ × ℕ)} (cond b [] []) []
      either true = refl
      either false = refl

  -- A walk that has read some names, with these keys left.
  module _ (names whole : List (List ℕ × ℕ)) (left : List ChildKey) (so_far : names ++ names_under p left ≡ whole) where
    pub read_name : (k : ChildKey) (ks : List ChildKey) (a : List ℕ) → left ≡ k ∷ ks → k.0 ≡ p → k.1 ≡ Some a → (names ++ (a, k.2) ∷ []) ++ names_under p ks ≡ whole
    read_name k ks a is at named =
        append_assoc names ((a, k.2) ∷ []) (names_under p ks)
        ∙ ap (λ xs. names ++ (xs ++ names_under p ks)) (sym (one_more a k (eq-eqb k.0 p at) named))
        ∙ ap (λ xs. names ++ names_under p xs) (sym is) ∙ so_far

    pub read_none : (k : ChildKey) (ks : List ChildKey) → left ≡ k ∷ ks → k.1 ≡ None → names ++ names_under p ks ≡ whole
    read_none k ks is named = ap (λ xs. names ++ (xs ++ names_under p ks)) (sym (none_more k named)) ∙ ap (λ xs. names ++ names_under p xs) (sym is) ∙ so_far

    pub read_all : left ≡ [] → names ≡ whole
    read_all is = sym (append-nil names) ∙ ap (λ xs. names ++ names_under p xs) (sym is) ∙ so_far

    pub stopped : (k : ChildKey) (ks : List ChildKey) → left ≡ k ∷ ks → IsFrom p left → k.0 ≢ p → names ≡ whole
    stopped k ks is from other =
        let f = subst (λ xs. IsFrom p xs) is from in
        let b = ne_eqb k.0 p other in
        sym (append-nil names)
        ∙ ap (λ xs. names ++ xs) (sym (ap (λ xs. xs ++ names_under p ks) (other_name k b) ∙ later k ks f.from.0 b (sorted_head key_cmp k ks f.rising)))
        ∙ ap (λ xs. names ++ names_under p xs) (sym is) ∙ so_far

  -- what the range of the directory has
  abbrev pub in_range : ChildKey → Bool
  in_range k = range_contains key_cmp (Included (p, None, 0)) Unbounded k

  low : (k : ChildKey) → in_range k ≡ true → is_gt (key_cmp (p, None, 0) k) ≡ false
  low k h = by_order (key_cmp (p, None, 0) k) h
    where
      by_order : (o : Ordering) → (is_le o && true) ≡ true → is_gt o ≡ false
      by_order Less e = refl
      by_order Equal e = refl
      by_order Greater e = cc

  in_other : (k : ChildKey) → in_range k ≡ false → eqb k.0 p ≡ false
  in_other k h = ⊎_elim
      (λ same. absurd (by_order (key_cmp (p, None, 0) k) h (low_in_directory p k (eqb-true k.0 p same))))
      (λ n. n)
      (cases_Bool (eqb k.0 p))
    where
      by_order : (o : Ordering) → (is_le o && true) ≡ false → is_gt o ≡ false → ⊥
      by_order Less e g = cc
      by_order Equal e g = cc
      by_order Greater e g = cc

  from_range : (ks : List ChildKey) → AllByRecursion (λ k. is_gt (key_cmp (p, None, 0) k) ≡ false) (filter in_range ks)
  from_range [] = tt
  from_range (k ∷ ks) = ⊎_elim
      (λ yes. subst (λ b. AllByRecursion (λ y. is_gt (key_cmp (p, None, 0) y) ≡ false) (cond b (k ∷ filter in_range ks) (filter in_range ks))) (sym yes) (low k yes, from_range ks))
      (λ no. subst (λ b. AllByRecursion (λ y. is_gt (key_cmp (p, None, 0) y) ≡ false) (cond b (k ∷ filter in_range ks) (filter in_range ks))) (sym no) (from_range ks))
      (cases_Bool (in_range k))

  pub same_names : (ks : List ChildKey) → names_under p (filter in_range ks) ≡ names_under p ks
  same_names [] = refl
  same_names (k ∷ ks) = ⊎_elim
      (λ yes. ap (λ b. names_under p (cond b (k ∷ filter in_range ks) (filter in_range ks))) yes ∙ ap (λ xs. name_under p k ++ xs) (same_names ks))
      (λ no. ap (λ b. names_under p (cond b (k ∷ filter in_range ks) (filter in_range ks))) no ∙ same_names ks ∙ sym (ap (λ xs. xs ++ names_under p ks) (other_name k (in_other k no))))
      (cases_Bool (in_range k))

  pub range_from : (ks : List ChildKey) → IsStrictlySortedBy key_cmp ks → IsFrom p (filter in_range ks)
  range_from ks rising = record { rising = IsStrictlySortedBy-filter key_cmp in_range ks rising; from = from_range ks }

  -- The names of a directory rise as its keys do.
  name_less : (k y : ChildKey) (a b : List ℕ) → eqb k.0 p ≡ true → eqb y.0 p ≡ true → k.1 ≡ Some a → y.1 ≡ Some b → key_cmp k y ≡ Less → name_cmp (a, k.2) (b, y.2) ≡ Less
  name_less k y a b x z e f less =
      sym (
      ap (λ o. ordering_then (ordering_then o (option_cmp (slice_cmp nat_cmp) k.1 y.1)) (nat_cmp k.2 y.2)) (ap (λ n. nat_cmp n y.0) at ∙ tied_itself nat_cmp_total y.0)
      ∙ ap (λ o. ordering_then (option_cmp (slice_cmp nat_cmp) o y.1) (nat_cmp k.2 y.2)) e
      ∙ ap (λ o. ordering_then (option_cmp (slice_cmp nat_cmp) (Some a) o) (nat_cmp k.2 y.2)) f)
      ∙ less
    where
      at : k.0 ≡ y.0
      at = eqb-true k.0 p x ∙ sym (eqb-true y.0 p z)

  -- A key has a name in the directory or it has none.
  pub by_name : (P : List (List ℕ × ℕ) → Type 0) (k : ChildKey) → P [] → ((a : List ℕ) → eqb k.0 p ≡ true → k.1 ≡ Some a → P ((a, k.2) ∷ [])) → P (name_under p k)
  by_name P k none some = ⊎_elim
      (λ at. by_part at k.1 refl)
      (λ other. subst P (sym (other_name k other)) none)
      (cases_Bool (eqb k.0 p))
    where
      by_part : eqb k.0 p ≡ true → (o : Option (List ℕ)) → k.1 ≡ o → P (name_under p k)
      by_part at None is = subst P (sym (none_more k is)) none
      by_part at (Some a) is = subst P (sym (one_more a k at is)) (some a at is)

  names_above : (k : ChildKey) (a : List ℕ) (ks : List ChildKey) → eqb k.0 p ≡ true → k.1 ≡ Some a → AllByRecursion (λ y. key_cmp k y ≡ Less) ks → AllByRecursion (λ y. name_cmp (a, k.2) y ≡ Less) (names_under p ks)
  names_above k a [] at is above = tt
  names_above k a (y ∷ ys) at is above =
      let rest = names_above k a ys at is above.1 in
      by_name (λ xs. AllByRecursion (λ z. name_cmp (a, k.2) z ≡ Less) (xs ++ names_under p ys)) y rest
      (λ b here named. (name_less k y a b at here is named above.0, rest))

  pub names_rise : (ks : List ChildKey) → IsStrictlySortedBy key_cmp ks → IsStrictlySortedBy name_cmp (names_under p ks)
  unfolding IsStrictlySortedBy
  names_rise [] rising = tt
  names_rise (k ∷ ks) rising =
      let rest = names_rise ks rising.1 in
      by_name (λ xs. IsStrictlySortedBy name_cmp (xs ++ names_under p ks)) k rest
      (λ a at is. (names_above k a ks at is rising.0, rest))
