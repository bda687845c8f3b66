-- All marks of a version: what is kept, and a count over the tree.
use Rattle.std.proofs.Common.{◌≡◌, ℕ, ◌+◌, Bool, true, false, cond, ◌&&◌, not, eqb, T, [], ◌∷◌, map, flat_map, count_by, Option, Some, None, refl, sym, ap, ◌∙◌, arith, ⊎_elim, nat_cmp}
use Rattle.std.specs.List.{filter}
use Rattle.std.specs.List.Sorted.{IsStrictlySortedBy}
use Rattle.std.specs.Option.{unwrap_or, option_map_or}
use Rattle.std.specs.Ordering.{eq_by_cmp}
use Rattle.std.specs.Cmp.{unsigned_tied}
use Rattle.std.specs.FinMap.Entries as entries
use Rattle.std.proofs.lemmas.Bool.{cases_Bool, eqb-true, eq-eqb}
use Rattle.std.proofs.lemmas.List.Sums.{sum_by-append}
use Rattle.jffs_inodes.specs.Held.{Held, versions_held}
use Rattle.jffs_inodes.specs.Inodes.{Tree, held_in}
use Rattle.jffs_tree.specs.Look.{marks_in}
use Rattle.jffs_marks.specs.Marks.{MarkKey, Counts, mark_key, mark_cmp, marks_of}
use Rattle.jffs_inodes.specs.Marked.{held_marks, AreMarksOf}
use Rattle.jffs_marks.proofs.Maps.{found_by, sorted_by, tail_sorted, at_first, behind}
use Rattle.jffs_marks.proofs.Marking.{mark_tied}
use Rattle.jffs_marks.proofs.Places.{one_key}
use Rattle.jffs_marks.proofs.Totals.{Sorted, summed, at, sum_without, zero_all, alike}

abbrev marks_held : ℕ → ℕ × Held → ℕ
marks_held v h = count_by (λ w. eqb w v) (versions_held h)

pub no_marks : (v : ℕ) (y : ℕ × Held) (ys : Tree) → T (entries.is_sorted nat_cmp (y ∷ ys)) → held_marks ys v y.0 ≡ 0
no_marks v y ys h = by_held (held_in ys y.0) refl
  where
    by_held : (o : Option Held) → held_in ys y.0 ≡ o → option_map_or (λ x. count_by (λ w. eqb w v) (versions_held (y.0, x))) o 0 ≡ 0
    by_held None is = refl
    by_held (Some x) is = absurd (let less = behind y ys y.0 x h is in omega (arith, less))

nothing : (b : Bool) → ◌≡◌ {A = ℕ} (cond b 0 0) 0
nothing true = refl
nothing false = refl

pick : (b : Bool) (o : Option ℕ) → unwrap_or (cond b o None) 0 ≡ cond b (unwrap_or o 0) 0
pick true o = refl
pick false o = refl

module _ (v : ℕ) where
  -- What is kept of a version is what the tree holds of it, so the sums agree.
  agree : (ys : Tree) → T (entries.is_sorted nat_cmp ys) → (xs : Counts) → Sorted xs → ((q : MarkKey) → at q xs ≡ cond (eqb q.0.0 v) (held_marks ys v q.1) 0) → summed xs ≡ marks_in ys v
  agree [] sorted xs s h = zero_all xs s (λ q. h q ∙ nothing (eqb q.0.0 v))
  agree (y ∷ ys) sorted xs s h =
      let k : MarkKey = mark_key v y.0 in
      let p : MarkKey → Bool = λ x. not (eq_by_cmp mark_cmp k x) in
      let rest = agree ys (tail_sorted y ys sorted) (entries.where_key mark_cmp p xs) (entries.is_sorted-where_key mark_cmp p xs s)
      (λ q. ap (λ (o : Option ℕ). unwrap_or o 0) (entries.find-where_key mark_cmp p q (λ x tied. alike p q x tied) xs) ∙ pick (p q) (entries.find mark_cmp q xs) ∙ left q) in
      let own : at k xs ≡ marks_held v y =
      h k ∙ ap (λ b. cond b (held_marks (y ∷ ys) v y.0) 0) (eq-eqb v v refl)
      ∙ ap (λ (o : Option Held). option_map_or (λ x. count_by (λ w. eqb w v) (versions_held (y.0, x))) o 0) (at_first y ys) in
      let both = sum_without k xs s in
      let all : marks_in (y ∷ ys) v ≡ marks_held v y + marks_in ys v = sum_by-append (λ w. cond (eqb w v) 1 0) (versions_held y) (flat_map versions_held ys) in
      omega (arith, rest, own, both, all)
    where
      left : (q : MarkKey) → cond (not (eq_by_cmp mark_cmp (mark_key v y.0) q)) (at q xs) 0 ≡ cond (eqb q.0.0 v) (held_marks ys v q.1) 0
      left q = ⊎_elim
          (λ tied.
          ap (λ t. cond (not t) (at q xs) 0) tied
          ∙ sym (ap (λ (x : MarkKey). cond (eqb x.0.0 v) (held_marks ys v x.1) 0) (sym (one_key (mark_key v y.0) q tied)) ∙ ap (λ m. cond (eqb v v) m 0) (no_marks v y ys sorted) ∙ nothing (eqb v v)))
          (λ apart. ap (λ t. cond (not t) (at q xs) 0) apart ∙ h q ∙ ⊎_elim
          (λ own.
          let differs : eqb q.1 y.0 ≡ false = sym (ap (λ b. b && eqb q.1 y.0) own) ∙ sym (mark_tied (mark_key v y.0) q) ∙ apart in
          ap (λ m. cond (eqb q.0.0 v) m 0) (ap (λ t. option_map_or (λ x. count_by (λ w. eqb w v) (versions_held (q.1, x))) (cond t (Some y.1) (held_in ys q.1)) 0) (unsigned_tied q.1 y.0 ∙ differs)))
          (λ other. ap (λ b. cond b (held_marks (y ∷ ys) v q.1) 0) other ∙ sym (ap (λ b. cond b (held_marks ys v q.1) 0) other))
          (cases_Bool (eqb q.0.0 v)))
          (cases_Bool (eq_by_cmp mark_cmp (mark_key v y.0) q))

pub marks_counted : (tree : Tree) (counts : Counts) → T (entries.is_sorted nat_cmp tree) → IsStrictlySortedBy mark_cmp (map (λ e. e.0) counts) → AreMarksOf tree counts → (v : ℕ) → marks_of counts v ≡ marks_in tree v
marks_counted tree counts sorted rising marked v =
    agree v tree sorted (filter (λ e. eqb e.0.0.0 v) counts) (entries.is_sorted-where_key mark_cmp (λ k. eqb k.0.0 v) counts (sorted_by mark_cmp counts rising))
    (λ q.
    ap (λ (o : Option ℕ). unwrap_or o 0) (entries.find-where_key mark_cmp (λ k. eqb k.0.0 v) q (λ x tied. alike (λ k. eqb k.0.0 v) q x tied) counts)
    ∙ pick (eqb q.0.0 v) (entries.find mark_cmp q counts)
    ∙ ⊎_elim
    (λ own.
    let same = eqb-true q.0.0 v own in
    ap (λ m. cond (eqb q.0.0 v) m 0) (ap (λ (o : Option ℕ). unwrap_or o 0) (sym (found_by mark_cmp q counts)) ∙ marked q.0.0 q.1 ∙ ap (λ w. held_marks tree w q.1) same))
    (λ other. ap (λ b. cond b (at q counts) 0) other ∙ sym (ap (λ b. cond b (held_marks tree v q.1) 0) other))
    (cases_Bool (eqb q.0.0 v)))
