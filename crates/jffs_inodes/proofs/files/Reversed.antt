-- Fragments in a map whose last one stands first, read in ascending order.
use Rattle.std.proofs.Common.{◌≡◌, ℕ, ◌+◌, ◌<◌, ◌≤◌, Bool, true, false, cond, not, ◌&&◌, ltb, leb, List, [], ◌∷◌, ◌++◌, length, ◌⊎◌, inl, inr, ⊎_elim, None, Some, refl, sym, ap, subst, ◌∙◌, arith, append_assoc, length-append, nat_cmp}
use Rattle.std.specs.List.{AllByRecursion, filter}
use Rattle.std.specs.List.Sorted.{IsStrictlySortedBy}
use Rattle.std.specs.Ordering.{is_lt, is_le, match_ordering}
use Rattle.std.specs.Cmp.{unsigned_tied, nat_cmp_is}
use Rattle.std.specs.Map.{lookup, remove_entry, set_value, keys_of}
use Rattle.std.specs.BTreeMap.{is_at, insert_entry}
use Rattle.std.specs.BTreeMap.Range.{range_contains}
use Rattle.std.specs.declared.cmp.Reverse.{Reverse}
use Rattle.std.specs.declared.cmp.Ordering.{Ordering}
use Rattle.std.specs.declared.cmp.Ordering.TheVariants.{Less, Equal, Greater}
use Rattle.std.specs.declared.ops.Bound.TheVariants.{Unbounded, Included}
use Rattle.std.proofs.lemmas.Bool.{cases_Bool, cases_lt, cases_eq, eqb-true, ne_eqb, lt-ltb, le-ltb, le-leb, lt-leb}
use Rattle.std.proofs.lemmas.List.{append-nil}
use Rattle.std.proofs.lemmas.List.Elements.{filter-append}
use Rattle.std.proofs.lemmas.Option.{none-some}
use Rattle.jffs_node.proofs.Each.{each_append}
use Rattle.jffs_inodes.specs.declared.fragment.Fragment.{Fragment}
use Rattle.jffs_inodes.specs.Fragments.{Fragments, FragmentMap, ascending, late_cmp, before, from}
use Rattle.jffs_marks.proofs.Maps.{is_less}
use Rattle.jffs_marks.proofs.Marking.{same_either_way}
use Rattle.jffs_inodes.proofs.files.Splitting.{greater, less}

-- the entries of the map
abbrev pub Late : Type 0
Late = List (Reverse ℕ × Fragment)

-- the fragments that such entries are
abbrev pub view : Late → FragmentMap
view ms = record { entries = ascending ms }

-- all begin before an offset
abbrev pub Below : ℕ → Fragments → Type 0
Below k es = AllByRecursion (λ e. e.0 < k) es

-- ---- a list with one fragment more at its end
module _ (test : ℕ → Bool) (k : ℕ) (g : Fragment) (not_it : test k ≡ false) where
  lookup_skip : (es : Fragments) → lookup test (es ++ (k, g) ∷ []) ≡ lookup test es
  lookup_skip [] = ap (λ b. cond b (Some g) None) not_it
  lookup_skip (e ∷ es) = ap (λ o. cond (test e.0) (Some e.1) o) (lookup_skip es)

  pushed : (b : Bool) (e : ℕ × Fragment) (x y : Fragments) → cond b (x ++ (k, g) ∷ []) (e ∷ (y ++ (k, g) ∷ [])) ≡ cond b x (e ∷ y) ++ (k, g) ∷ []
  pushed true e x y = refl
  pushed false e x y = refl

  remove_skip : (es : Fragments) → remove_entry test (es ++ (k, g) ∷ []) ≡ remove_entry test es ++ (k, g) ∷ []
  remove_skip [] = ap (λ b. cond b [] ((k, g) ∷ [])) not_it
  remove_skip (e ∷ es) = ap (λ x. cond (test e.0) (es ++ (k, g) ∷ []) (e ∷ x)) (remove_skip es) ∙ pushed (test e.0) e es (remove_entry test es)

  set_skip : (f : Fragment) (es : Fragments) → set_value test (es ++ (k, g) ∷ []) f ≡ set_value test es f ++ (k, g) ∷ []
  set_skip f [] = ap (λ b. cond b ((k, f) ∷ []) ((k, g) ∷ [])) not_it
  set_skip f (e ∷ es) = ap (λ x. cond (test e.0) ((e.0, f) ∷ (es ++ (k, g) ∷ [])) (e ∷ x)) (set_skip f es) ∙ pushed (test e.0) e ((e.0, f) ∷ es) (set_value test es f)

-- ---- what stands after fragments that the search passes
not_tied : (k j : ℕ) → j < k → is_at (nat_cmp k) j ≡ false
not_tied k j l = unsigned_tied k j ∙ ne_eqb k j (λ same. omega (arith, same, l))

module _ (k : ℕ) (after : Fragments) where
  lookup_past : (es : Fragments) → Below k es → lookup (is_at (nat_cmp k)) (es ++ after) ≡ lookup (is_at (nat_cmp k)) after
  lookup_past [] h = refl
  lookup_past (e ∷ es) h = ap (λ b. cond b (Some e.1) (lookup (is_at (nat_cmp k)) (es ++ after))) (not_tied k e.0 h.0) ∙ lookup_past es h.1

  remove_past : (es : Fragments) → Below k es → remove_entry (is_at (nat_cmp k)) (es ++ after) ≡ es ++ remove_entry (is_at (nat_cmp k)) after
  remove_past [] h = refl
  remove_past (e ∷ es) h = ap (λ b. cond b (es ++ after) (e ∷ remove_entry (is_at (nat_cmp k)) (es ++ after))) (not_tied k e.0 h.0) ∙ ap (λ x. e ∷ x) (remove_past es h.1)

  set_past : (f : Fragment) (es : Fragments) → Below k es → set_value (is_at (nat_cmp k)) (es ++ after) f ≡ es ++ set_value (is_at (nat_cmp k)) after f
  set_past f [] h = refl
  set_past f (e ∷ es) h = ap (λ b. cond b ((e.0, f) ∷ (es ++ after)) (e ∷ set_value (is_at (nat_cmp k)) (es ++ after) f)) (not_tied k e.0 h.0) ∙ ap (λ x. e ∷ x) (set_past f es h.1)

  insert_past : (f : Fragment) (es : Fragments) → Below k es → insert_entry nat_cmp (es ++ after) k f ≡ es ++ insert_entry nat_cmp after k f
  insert_past f [] h = refl
  insert_past f (e ∷ es) h =
      ap (λ (o : Ordering). match_ordering o ((k, f) ∷ e ∷ (es ++ after)) ((e.0, f) ∷ (es ++ after)) (e ∷ insert_entry nat_cmp (es ++ after) k f)) (greater k e.0 h.0)
      ∙ ap (λ x. e ∷ x) (insert_past f es h.1)

-- ---- the keys ascend
abbrev IsLate : Late → Type 0
IsLate ms = IsStrictlySortedBy late_cmp (keys_of ms)

below : (k : Reverse ℕ) (ms : Late) → AllByRecursion (λ x. late_cmp k x ≡ Less) (keys_of ms) → Below k.0 (ascending ms)
below k [] h = tt
below k (e ∷ ms) h = each_append (λ x. x.0 < k.0) (ascending ms) ((e.0.0, e.1) ∷ []) (below k ms h.1) (is_less e.0.0 k.0 (ap is_lt h.0), tt)

-- what is known of the first entry: the others begin before it
late_first : (e : Reverse ℕ × Fragment) (ms : Late) → IsLate (e ∷ ms) → Below e.0.0 (ascending ms) × IsLate ms
unfolding IsStrictlySortedBy
late_first e ms h = (below e.0 ms h.0, h.1)

sorted_end : (k : ℕ) (g : Fragment) (es : Fragments) → IsStrictlySortedBy nat_cmp (keys_of es) → Below k es → IsStrictlySortedBy nat_cmp (keys_of (es ++ (k, g) ∷ []))
unfolding IsStrictlySortedBy
sorted_end k g [] s b = (tt, tt)
sorted_end k g (e ∷ es) s b = (each_end es s.0 (less e.0 k b.0), sorted_end k g es s.1 b.1)
  where
    each_end : (xs : Fragments) → AllByRecursion (λ y. nat_cmp e.0 y ≡ Less) (keys_of xs) → nat_cmp e.0 k ≡ Less → AllByRecursion (λ y. nat_cmp e.0 y ≡ Less) (keys_of (xs ++ (k, g) ∷ []))
    each_end [] h l = (l, tt)
    each_end (x ∷ xs) h l = (h.0, each_end xs h.1 l)

pub sorted_ascending : (ms : Late) → IsLate ms → IsStrictlySortedBy nat_cmp (keys_of (ascending ms))
unfolding IsStrictlySortedBy
sorted_ascending [] h = tt
sorted_ascending (e ∷ ms) h = let l = late_first e ms h in sorted_end e.0.0 e.1 (ascending ms) (sorted_ascending ms l.1) l.0

-- ---- what is read, taken out, changed and put in
same_tie : (k : ℕ) (q : Reverse ℕ) → is_at (late_cmp (record { 0 = k })) q ≡ is_at (nat_cmp k) q.0
same_tie k q = unsigned_tied q.0 k ∙ same_either_way q.0 k ∙ sym (unsigned_tied k q.0)

module _ (k : ℕ) where
  abbrev late : Reverse ℕ → Bool
  late = is_at (late_cmp (record { 0 = k }))

  abbrev test : ℕ → Bool
  test = is_at (nat_cmp k)

  -- what holds at an entry, by whether it is the one
  at_entry : (e : Reverse ℕ × Fragment) (ms : Late) → IsLate (e ∷ ms) → ((test e.0.0 ≡ true) × (late e.0 ≡ true) × Below k (ascending ms)) ⊎ ((test e.0.0 ≡ false) × (late e.0 ≡ false))
  at_entry e ms h = ⊎_elim
      (λ yes.
      let same : k ≡ e.0.0 = eqb-true k e.0.0 (sym (unsigned_tied k e.0.0) ∙ yes) in
      inl (yes, same_tie k e.0 ∙ yes, subst (λ j. Below j (ascending ms)) (sym same) (late_first e ms h).0))
      (λ no. inr (no, same_tie k e.0 ∙ no))
      (cases_Bool (test e.0.0))

  pub lookup_ascending : (ms : Late) → IsLate ms → lookup late ms ≡ lookup test (ascending ms)
  lookup_ascending [] h = refl
  lookup_ascending (e ∷ ms) h = ⊎_elim
      (λ yes.
      ap (λ b. cond b (Some e.1) (lookup late ms)) yes.1
      ∙ sym (lookup_past k ((e.0.0, e.1) ∷ []) (ascending ms) yes.2 ∙ ap (λ b. cond b (Some e.1) None) yes.0))
      (λ no.
      ap (λ b. cond b (Some e.1) (lookup late ms)) no.1
      ∙ lookup_ascending ms (late_first e ms h).1
      ∙ sym (lookup_skip test e.0.0 e.1 no.0 (ascending ms)))
      (at_entry e ms h)

  pub remove_ascending : (ms : Late) → IsLate ms → ascending (remove_entry late ms) ≡ remove_entry test (ascending ms)
  remove_ascending [] h = refl
  remove_ascending (e ∷ ms) h = ⊎_elim
      (λ yes.
      ap (λ b. ascending (cond b ms (e ∷ remove_entry late ms))) yes.1
      ∙ sym (append-nil (ascending ms))
      ∙ sym (remove_past k ((e.0.0, e.1) ∷ []) (ascending ms) yes.2 ∙ ap (λ b. ascending ms ++ cond b [] ((e.0.0, e.1) ∷ [])) yes.0))
      (λ no.
      ap (λ b. ascending (cond b ms (e ∷ remove_entry late ms))) no.1
      ∙ ap (λ x. x ++ (e.0.0, e.1) ∷ []) (remove_ascending ms (late_first e ms h).1)
      ∙ sym (remove_skip test e.0.0 e.1 no.0 (ascending ms)))
      (at_entry e ms h)

  pub set_ascending : (f : Fragment) (ms : Late) → IsLate ms → ascending (set_value late ms f) ≡ set_value test (ascending ms) f
  set_ascending f [] h = refl
  set_ascending f (e ∷ ms) h = ⊎_elim
      (λ yes.
      ap (λ b. ascending (cond b ((e.0, f) ∷ ms) (e ∷ set_value late ms f))) yes.1
      ∙ sym (set_past k ((e.0.0, e.1) ∷ []) f (ascending ms) yes.2 ∙ ap (λ b. ascending ms ++ cond b ((e.0.0, f) ∷ []) ((e.0.0, e.1) ∷ [])) yes.0))
      (λ no.
      ap (λ b. ascending (cond b ((e.0, f) ∷ ms) (e ∷ set_value late ms f))) no.1
      ∙ ap (λ x. x ++ (e.0.0, e.1) ∷ []) (set_ascending f ms (late_first e ms h).1)
      ∙ sym (set_skip test e.0.0 e.1 no.0 f (ascending ms)))
      (at_entry e ms h)

insert_skip : (k j : ℕ) (f g : Fragment) → k < j → (es : Fragments) → insert_entry nat_cmp (es ++ (j, g) ∷ []) k f ≡ insert_entry nat_cmp es k f ++ (j, g) ∷ []
insert_skip k j f g l [] = ap (λ (o : Ordering). match_ordering o ((k, f) ∷ (j, g) ∷ []) ((j, f) ∷ []) ((j, g) ∷ (k, f) ∷ [])) (less k j l)
insert_skip k j f g l (e ∷ es) =
    ap (λ x. match_ordering (nat_cmp k e.0) ((k, f) ∷ e ∷ (es ++ (j, g) ∷ [])) ((e.0, f) ∷ (es ++ (j, g) ∷ [])) (e ∷ x)) (insert_skip k j f g l es)
    ∙ by_order (nat_cmp k e.0)
  where
    by_order : (o : Ordering) → match_ordering o ((k, f) ∷ e ∷ (es ++ (j, g) ∷ [])) ((e.0, f) ∷ (es ++ (j, g) ∷ [])) (e ∷ (insert_entry nat_cmp es k f ++ (j, g) ∷ []))
        ≡ match_ordering o ((k, f) ∷ e ∷ es) ((e.0, f) ∷ es) (e ∷ insert_entry nat_cmp es k f) ++ (j, g) ∷ []
    by_order Less = refl
    by_order Equal = refl
    by_order Greater = refl

widened : (j k : ℕ) (es : Fragments) → j ≤ k → Below j es → Below k es
widened j k [] l h = tt
widened j k (e ∷ es) l h = let b = h.0 in (omega arith, widened j k es l h.1)

pub insert_ascending : (k : ℕ) (f : Fragment) (ms : Late) → IsLate ms → ascending (insert_entry late_cmp ms (record { 0 = k }) f) ≡ insert_entry nat_cmp (ascending ms) k f
insert_ascending k f [] h = refl
insert_ascending k f (e ∷ ms) h = ⊎_elim
    (λ before.
    in_late (greater j k before)
    ∙ ap (λ x. x ++ (j, e.1) ∷ []) (insert_ascending k f ms first.1)
    ∙ sym (insert_skip k j f e.1 before (ascending ms)))
    (λ from. ⊎_elim
    (λ same.
    in_late (tie j k (sym same))
    ∙ sym (insert_past k ((j, e.1) ∷ []) f (ascending ms) (widened j k (ascending ms) from first.0) ∙ at_last (tie k j same)))
    (λ apart.
    let after : j < k = omega (arith, from, apart) in
    in_late (less j k after)
    ∙ append_assoc (ascending ms) ((j, e.1) ∷ []) ((k, f) ∷ [])
    ∙ sym (insert_past k ((j, e.1) ∷ []) f (ascending ms) (widened j k (ascending ms) from first.0) ∙ at_last (greater k j after)))
    (cases_eq k j))
    (cases_lt k j)
  where
    j : ℕ
    j = e.0.0

    first : Below j (ascending ms) × IsLate ms
    first = late_first e ms h

    tie : (a b : ℕ) → a ≡ b → nat_cmp a b ≡ Equal
    tie a b same = sym (nat_cmp_is a b Equal same)

    in_late : {o : Ordering} → nat_cmp j k ≡ o → ascending (insert_entry late_cmp (e ∷ ms) (record { 0 = k }) f)
        ≡ ascending (match_ordering o ((record { 0 = k }, f) ∷ e ∷ ms) ((e.0, f) ∷ ms) (e ∷ insert_entry late_cmp ms (record { 0 = k }) f))
    in_late is = ap (λ (o : Ordering). ascending (match_ordering o ((record { 0 = k }, f) ∷ e ∷ ms) ((e.0, f) ∷ ms) (e ∷ insert_entry late_cmp ms (record { 0 = k }) f))) is

    at_last : {o : Ordering} → nat_cmp k j ≡ o → ascending ms ++ insert_entry nat_cmp ((j, e.1) ∷ []) k f
        ≡ ascending ms ++ match_ordering o ((k, f) ∷ (j, e.1) ∷ []) ((j, f) ∷ []) ((j, e.1) ∷ (k, f) ∷ [])
    at_last is = ap (λ (o : Ordering). ascending ms ++ match_ordering o ((k, f) ∷ (j, e.1) ∷ []) ((j, f) ∷ []) ((j, e.1) ∷ (k, f) ∷ [])) is

-- What isn't there can't be changed.
pub set_none : (test : ℕ → Bool) (f : Fragment) (es : Fragments) → lookup test es ≡ None → set_value test es f ≡ es
set_none test f [] is = refl
set_none test f (e ∷ es) is = ⊎_elim
    (λ yes. let some : Some e.1 ≡ None = sym (ap (λ b. cond b (Some e.1) (lookup test es)) yes) ∙ is in absurd (none-some e.1 (sym some)))
    (λ no.
    ap (λ b. cond b ((e.0, f) ∷ es) (e ∷ set_value test es f)) no
    ∙ ap (λ x. e ∷ x) (set_none test f es (sym (ap (λ b. cond b (Some e.1) (lookup test es)) no) ∙ is)))
    (cases_Bool (test e.0))

-- ---- which ones a range has
filter_ascending : (p : Reverse ℕ → Bool) (q : ℕ → Bool) → ((r : Reverse ℕ) → p r ≡ q r.0) → (ms : Late) → ascending (filter (λ e. p e.0) ms) ≡ filter (λ e. q e.0) (ascending ms)
filter_ascending p q same [] = refl
filter_ascending p q same (e ∷ ms) =
    ap (λ b. ascending (cond b (e ∷ filter (λ e. p e.0) ms) (filter (λ e. p e.0) ms))) (same e.0)
    ∙ by_test (q e.0.0)
    ∙ ap (λ x. x ++ cond (q e.0.0) ((e.0.0, e.1) ∷ []) []) (filter_ascending p q same ms)
    ∙ sym (filter-append (λ e. q e.0) (ascending ms) ((e.0.0, e.1) ∷ []))
  where
    by_test : (b : Bool) → ascending (cond b (e ∷ filter (λ e. p e.0) ms) (filter (λ e. p e.0) ms)) ≡ ascending (filter (λ e. p e.0) ms) ++ cond b ((e.0.0, e.1) ∷ []) []
    by_test true = refl
    by_test false = sym (append-nil (ascending (filter (λ e. p e.0) ms)))

-- a comparison and the test of the numbers
by_cmp : (a b : ℕ) → (is_le (nat_cmp a b) ≡ ltb a (b + 1)) × (not (is_lt (nat_cmp a b)) ≡ leb b a)
by_cmp a b = ⊎_elim
    (λ low.
    let o = less a b low in
    (ap is_le o ∙ sym (lt-ltb a (b + 1) (omega (arith, low))), ap (λ t. not (is_lt t)) o ∙ sym (lt-leb b a low)))
    (λ from. ⊎_elim
    (λ same.
    let o = sym (nat_cmp_is a b Equal same) in
    (ap is_le o ∙ sym (lt-ltb a (b + 1) (omega (arith, same))), ap (λ t. not (is_lt t)) o ∙ sym (le-leb b a from)))
    (λ apart.
    let o = greater a b (omega (arith, from, apart)) in
    (ap is_le o ∙ sym (le-ltb a (b + 1) (omega (arith, from, apart))), ap (λ t. not (is_lt t)) o ∙ sym (le-leb b a from)))
    (cases_eq a b))
    (cases_lt a b)

pub before_ascending : (at : ℕ) (ms : Late) → ascending (filter (λ e. range_contains late_cmp (Included (record { 0 = at })) Unbounded e.0) ms) ≡ before (at + 1) (ascending ms)
before_ascending at ms = filter_ascending (range_contains late_cmp (Included (record { 0 = at })) Unbounded) (λ k. ltb k (at + 1)) (λ r. and_true (is_le (nat_cmp r.0 at)) ∙ (by_cmp r.0 at).0) ms
  where
    and_true : (b : Bool) → (b && true) ≡ b
    and_true true = refl
    and_true false = refl

pub from_ascending : (at : ℕ) (ms : Late) → ascending (filter (λ e. range_contains late_cmp Unbounded (Included (record { 0 = at })) e.0) ms) ≡ from at (ascending ms)
from_ascending at ms = filter_ascending (range_contains late_cmp Unbounded (Included (record { 0 = at }))) (λ k. leb at k) (λ r. (by_cmp r.0 at).1) ms

pub length_ascending : (ms : Late) → length (ascending ms) ≡ length ms
length_ascending [] = refl
length_ascending (e ∷ ms) = let l = length_ascending ms in length-append (ascending ms) ((e.0.0, e.1) ∷ []) ∙ (omega (arith, l))

append_ascending : (ms : Late) (e : Reverse ℕ × Fragment) → ascending (ms ++ e ∷ []) ≡ (e.0.0, e.1) ∷ ascending ms
append_ascending [] e = refl
append_ascending (x ∷ ms) e = ap (λ es. es ++ (x.0.0, x.1) ∷ []) (append_ascending ms e)

-- The last in the map is the first of the file.
pub last_ascending : (all ms : Late) (e : Reverse ℕ × Fragment) → all ≡ ms ++ e ∷ [] → ascending all ≡ (e.0.0, e.1) ∷ ascending ms
last_ascending all ms e is = ap ascending is ∙ append_ascending ms e
