-- What the marks say of a tree is what a walk over it finds.
use Rattle.std.proofs.Common.{◌≡◌, ℕ, ◌<◌, ◌≤◌, Bool, true, false, cond, ◌&&◌, ◌||◌, eqb, leb, ltb, T, List, [], ◌∷◌, flat_map, count_by, Option, Some, None, refl, sym, ap, ◌∙◌, arith, ⊎_elim, nat_cmp}
use Rattle.std.specs.List.{list_any}
use Rattle.std.specs.Option.{option_map_or}
use Rattle.std.specs.Cmp.{unsigned_tied}
use Rattle.std.specs.FinMap.Entries as entries
use Rattle.std.proofs.lemmas.Bool.{cases_Bool, eqb-true, eq-eqb, ne_eqb, and_from, and_parts, or_left, or_right, le-leb, leb-true, lt-ltb, ltb-true}
use Rattle.std.proofs.lemmas.List.Folds.{list_any-append}
use Rattle.std.proofs.lemmas.List.Sums.{sum_by-cons}
use Rattle.std.proofs.lemmas.Option.{same_Some}
use Rattle.jffs_inodes.specs.Held.{Held, versions_held}
use Rattle.jffs_inodes.specs.Inodes.{Tree, held_in}
use Rattle.jffs_tree.specs.Origin.{holder}
use Rattle.jffs_tree.specs.Look.{holds_version, any_live_in}
use Rattle.jffs_marks.specs.Marks.{Counts, mark_of}
use Rattle.jffs_inodes.specs.Marked.{held_marks, AreMarksOf}
use Rattle.jffs_marks.proofs.Maps.{tail_sorted, at_first, behind}
use Rattle.jffs_tree.proofs.versions.Totals.{no_marks}

-- Counting and finding agree.
pub counts_any : (p : ℕ → Bool) (xs : List ℕ) → ltb 0 (count_by p xs) ≡ list_any p xs
counts_any p [] = refl
counts_any p (x ∷ xs) = ⊎_elim
    (λ here. lt-ltb 0 (count_by p (x ∷ xs)) (let e = sum_by-cons (λ y. cond (p y) 1 0) x xs in let f : ◌≡◌ {A = ℕ} (cond (p x) 1 0) 1 = ap (λ b. cond b 1 0) here in omega (arith, e, f)) ∙ sym (or_left (p x) (list_any p xs) here))
    (λ not_here.
    let e = sum_by-cons (λ y. cond (p y) 1 0) x xs in
    let f : ◌≡◌ {A = ℕ} (cond (p x) 1 0) 0 = ap (λ b. cond b 1 0) not_here in
    let g : count_by p (x ∷ xs) ≡ count_by p xs = omega (arith, e, f) in
    ap (λ n. ltb 0 n) g ∙ counts_any p xs ∙ ap (λ b. b || list_any p xs) (sym not_here))
    (cases_Bool (p x))

-- a version that counts, and is one of those that a test takes
some_counts : (p : ℕ → Bool) (v : ℕ) → p v ≡ true → (xs : List ℕ) → list_any (λ w. eqb w v) xs ≡ true → list_any p xs ≡ true
some_counts p v has [] h = h
some_counts p v has (x ∷ xs) h = ⊎_elim
    (λ here. or_left (p x) (list_any p xs) (ap p (eqb-true x v here) ∙ has))
    (λ not_here. or_right (p x) (list_any p xs) (some_counts p v has xs (ap (λ b. b || list_any (λ w. eqb w v) xs) (sym not_here) ∙ h)))
    (cases_Bool (eqb x v))

none_counts : (p : ℕ → Bool) (xs : List ℕ) → ((v : ℕ) → p v ≡ true → list_any (λ w. eqb w v) xs ≡ false) → list_any p xs ≡ false
none_counts p [] h = refl
none_counts p (x ∷ xs) h = ⊎_elim
    (λ here. let never = h x here in let own : list_any (λ w. eqb w x) (x ∷ xs) ≡ true = or_left (eqb x x) (list_any (λ w. eqb w x) xs) (eq-eqb x x refl) in cc)
    (λ not_here. ap (λ b. b || list_any p xs) not_here ∙ none_counts p xs (λ v has. ⊎_elim
    (λ some. let never = h v has in let too : list_any (λ w. eqb w v) (x ∷ xs) ≡ true = or_right (eqb x v) (list_any (λ w. eqb w v) xs) some in cc)
    (λ rest. rest)
    (cases_Bool (list_any (λ w. eqb w v) xs))))
    (cases_Bool (p x))

pub marks_hold : (tree : Tree) (v i : ℕ) → ltb 0 (held_marks tree v i) ≡ holds_version tree i v
marks_hold tree v i = by_held (held_in tree i)
  where
    by_held : (o : Option Held) → ltb 0 (option_map_or (λ h. count_by (λ w. eqb w v) (versions_held (i, h))) o 0) ≡ option_map_or (λ h. list_any (λ w. eqb w v) (versions_held (i, h))) o false
    by_held None = refl
    by_held (Some h) = counts_any (λ w. eqb w v) (versions_held (i, h))

-- The first inode of a tree, and the others.
module _ (v : ℕ) (y : ℕ × Held) (ys : Tree) where
  at_first_marks : held_marks (y ∷ ys) v y.0 ≡ count_by (λ w. eqb w v) (versions_held y)
  at_first_marks = ap (λ (o : Option Held). option_map_or (λ h. count_by (λ w. eqb w v) (versions_held (y.0, h))) o 0) (at_first y ys)

  at_other_marks : (i : ℕ) → eqb i y.0 ≡ false → held_marks (y ∷ ys) v i ≡ held_marks ys v i
  at_other_marks i other = ap (λ t. option_map_or (λ h. count_by (λ w. eqb w v) (versions_held (i, h))) (cond t (Some y.1) (held_in ys i)) 0) (unsigned_tied i y.0 ∙ other)

  first_holds : (b : Bool) → list_any (λ w. eqb w v) (versions_held y) ≡ b → ltb 0 (held_marks (y ∷ ys) v y.0) ≡ b
  first_holds b h = ap (λ n. ltb 0 n) at_first_marks ∙ counts_any (λ w. eqb w v) (versions_held y) ∙ h

  -- marks after the first are marks of the whole
  in_rest : T (entries.is_sorted nat_cmp (y ∷ ys)) → (j : ℕ) → 0 < held_marks ys v j → held_marks (y ∷ ys) v j ≡ held_marks ys v j
  in_rest sorted j some = at_other_marks j (ne_eqb j y.0 (λ same. let none = no_marks v y ys sorted in let e = ap (λ k. held_marks ys v k) same in omega (arith, some, none, e)))

  none_in_rest : T (entries.is_sorted nat_cmp (y ∷ ys)) → ((j : ℕ) → held_marks (y ∷ ys) v j ≡ 0) → (j : ℕ) → held_marks ys v j ≡ 0
  none_in_rest sorted none j = ⊎_elim
      (λ same. ap (λ k. held_marks ys v k) (eqb-true j y.0 same) ∙ no_marks v y ys sorted)
      (λ other. sym (at_other_marks j other) ∙ none j)
      (cases_Bool (eqb j y.0))

not_positive : (n : ℕ) → ltb 0 n ≡ true → n ≡ 0 → ⊥
not_positive n h z = let l = ltb-true 0 n h in omega (arith, l, z)

module _ (v : ℕ) where
  pub holder_none : (tree : Tree) → T (entries.is_sorted nat_cmp tree) → ((j : ℕ) → held_marks tree v j ≡ 0) → holder tree v ≡ None
  holder_none [] sorted none = refl
  holder_none (y ∷ ys) sorted none = ⊎_elim
      (λ here. absurd (not_positive (held_marks (y ∷ ys) v y.0) (first_holds v y ys true here) (none y.0)))
      (λ not_here. ap (λ b. cond b (Some y) (holder ys v)) not_here ∙ holder_none ys (tail_sorted y ys sorted) (none_in_rest v y ys sorted none))
      (cases_Bool (list_any (λ w. eqb w v) (versions_held y)))

  pub holder_some : (tree : Tree) → T (entries.is_sorted nat_cmp tree) → (i : ℕ) (h : Held) → held_in tree i ≡ Some h → 0 < held_marks tree v i → ((j : ℕ) → 0 < held_marks tree v j → i ≤ j) → holder tree v ≡ Some (i, h)
  holder_some [] sorted i h is some least = cc
  holder_some (y ∷ ys) sorted i h is some least = ⊎_elim
      (λ same.
      let at : i ≡ y.0 = eqb-true i y.0 same in
      let own : y.1 ≡ h = same_Some y.1 h (sym (ap (λ t. cond t (Some y.1) (held_in ys i)) (unsigned_tied i y.0 ∙ same)) ∙ is) in
      let pos : ltb 0 (held_marks (y ∷ ys) v y.0) ≡ true = ap (λ k. ltb 0 (held_marks (y ∷ ys) v k)) (sym at) ∙ lt-ltb 0 (held_marks (y ∷ ys) v i) some in
      let here : list_any (λ w. eqb w v) (versions_held y) ≡ true = sym (first_holds v y ys (list_any (λ w. eqb w v) (versions_held y)) refl) ∙ pos in
      ap (λ b. cond b (Some y) (holder ys v)) here ∙ ap (λ (x : ℕ × Held). Some x) (λ j. (sym at j, own j)))
      (λ other.
      let there : held_in ys i ≡ Some h = sym (ap (λ t. cond t (Some y.1) (held_in ys i)) (unsigned_tied i y.0 ∙ other)) ∙ is in
      let above = behind y ys i h sorted there in
      let not_here : list_any (λ w. eqb w v) (versions_held y) ≡ false = ⊎_elim
      (λ here. absurd (let low = least y.0 (ltb-true 0 (held_marks (y ∷ ys) v y.0) (first_holds v y ys true here)) in omega (arith, low, above)))
      (λ rest. rest)
      (cases_Bool (list_any (λ w. eqb w v) (versions_held y))) in
      let e = at_other_marks v y ys i other in
      ap (λ b. cond b (Some y) (holder ys v)) not_here
      ∙ holder_some ys (tail_sorted y ys sorted) i h there (omega (arith, some, e)) (λ j more. least j (let f = in_rest v y ys sorted j more in omega (arith, more, f))))
      (cases_Bool (eqb i y.0))

-- Versions from the first to the last.
module _ (first last : ℕ) where
  abbrev between : ℕ → Bool
  between w = leb first w && leb w last

  pub any_some : (tree : Tree) (v i : ℕ) → first ≤ v → v ≤ last → 0 < held_marks tree v i → any_live_in tree first last ≡ true
  any_some [] v i low high some = absurd (omega (arith, some))
  any_some (y ∷ ys) v i low high some =
      list_any-append between (versions_held y) (flat_map versions_held ys)
      ∙ ⊎_elim
      (λ same.
      let pos : ltb 0 (held_marks (y ∷ ys) v y.0) ≡ true = ap (λ k. ltb 0 (held_marks (y ∷ ys) v k)) (sym (eqb-true i y.0 same)) ∙ lt-ltb 0 (held_marks (y ∷ ys) v i) some in
      let here : list_any (λ w. eqb w v) (versions_held y) ≡ true = sym (first_holds v y ys (list_any (λ w. eqb w v) (versions_held y)) refl) ∙ pos in
      or_left _ _ (some_counts between v (and_from (leb first v) (leb v last) (le-leb first v low) (le-leb v last high)) (versions_held y) here))
      (λ other. or_right _ _ (any_some ys v i low high (let e = at_other_marks v y ys i other in omega (arith, some, e))))
      (cases_Bool (eqb i y.0))

  pub any_none : (tree : Tree) → T (entries.is_sorted nat_cmp tree) → ((v i : ℕ) → first ≤ v → v ≤ last → held_marks tree v i ≡ 0) → any_live_in tree first last ≡ false
  any_none [] sorted none = refl
  any_none (y ∷ ys) sorted none =
      list_any-append between (versions_held y) (flat_map versions_held ys)
      ∙ ap (λ b. b || list_any between (flat_map versions_held ys)) (none_counts between (versions_held y) (λ v within.
      let parts = and_parts (leb first v) (leb v last) within in
      ⊎_elim
      (λ here. absurd (not_positive (held_marks (y ∷ ys) v y.0) (first_holds v y ys true here) (none v y.0 (leb-true first v parts.0) (leb-true v last parts.1))))
      (λ rest. rest)
      (cases_Bool (list_any (λ w. eqb w v) (versions_held y)))))
      ∙ any_none ys (tail_sorted y ys sorted) (λ v i low high. none_in_rest_at v i low high)
    where
      none_in_rest_at : (v i : ℕ) → first ≤ v → v ≤ last → held_marks ys v i ≡ 0
      none_in_rest_at v i low high = none_in_rest v y ys sorted (λ j. none v j low high) i

-- As the marks tell it.
module _ (tree : Tree) (counts : Counts) (sorted : T (entries.is_sorted nat_cmp tree)) (marked : AreMarksOf tree counts) where
  pub any_told : (first last : ℕ) (r : Bool) → (r ≡ true → (v : ℕ) × (i : ℕ) × (first ≤ v) × (v ≤ last) × (0 < mark_of counts v i))
      → (r ≡ false → (v i : ℕ) → first ≤ v → v ≤ last → mark_of counts v i ≡ 0) → r ≡ any_live_in tree first last
  any_told first last true some none = let x = some refl in let m = marked x.0 x.1 in let l = x.4 in sym (any_some first last tree x.0 x.1 x.2 x.3 (omega (arith, m, l)))
  any_told first last false some none = sym (any_none first last tree sorted (λ v i low high. sym (marked v i) ∙ none refl v i low high))

  pub none_told : (v : ℕ) → ((j : ℕ) → mark_of counts v j ≡ 0) → holder tree v ≡ None
  none_told v none = holder_none v tree sorted (λ j. sym (marked v j) ∙ none j)

  pub some_told : (v i : ℕ) (h : Held) → held_in tree i ≡ Some h → 0 < mark_of counts v i → ((j : ℕ) → 0 < mark_of counts v j → i ≤ j) → holder tree v ≡ Some (i, h)
  some_told v i h is some least =
      holder_some v tree sorted i h is (let m = marked v i in omega (arith, m, some)) (λ j more. least j (let m = marked v j in omega (arith, m, more)))
