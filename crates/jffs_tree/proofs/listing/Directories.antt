-- The names that the index has in a directory are those that a walk over the tree finds there.
use Rattle.std.proofs.Common.{◌≡◌, ℕ, ◌+◌, Bool, true, false, cond, ◌&&◌, ◌||◌, eqb, T, IsTrue, List, [], ◌∷◌, map, get_or, Option, Some, None, Result, Ok, Err, refl, sym, ap, subst, ◌∙◌, ⊎_elim, arith, nat_cmp, bytes_eq}
use Rattle.std.specs.List.{IsDistinct, list_any, filter, find}
use Rattle.std.specs.List.Sorted.{IsStrictlySortedBy, IsPermutation, IsSorted}
use Rattle.std.specs.Ordering.{is_eq, is_lt, eq_by_cmp, ordering_reverse}
use Rattle.std.specs.Option.{option_map_or}
use Rattle.std.specs.Result.{IfOk}
use Rattle.std.specs.declared.cmp.Ordering.TheVariants.{Equal}
use Rattle.std.proofs.Math.Bool.{or-false}
use Rattle.std.specs.Cmp.{Equal-is, IsTotalOrder, nat_cmp_total, then_total, on_total, tied_itself, unsigned_tied, both_ways}
use Rattle.std.specs.Cmp.Lexicographic.{slice_cmp, nat_list_cmp_total, texts_ties}
use Rattle.std.specs.BTreeMap.{is_at}
use Rattle.std.specs.FinMap.Entries as entries
use Rattle.std.proofs.lemmas.Bool.{cases_Bool, eqb-true, eq-eqb}
use Rattle.std.proofs.lemmas.List.Folds.{list_any-append}
use Rattle.std.proofs.lemmas.List.Sorted.{IsPermutation-refl}
use Rattle.std.proofs.lemmas.Map.Keys.{IsDistinct-from_sorted, IsDistinct-cons, Less-from_sorted}
use Rattle.std.proofs.lemmas.Slice.Eq.{bytes_eq-Decides}
use Rattle.jffs_inodes.specs.Held.{Entry, Held}
use Rattle.jffs_tree.specs.State.{State, is_directory_in}
use Rattle.jffs_inodes.specs.Inodes.{Tree, held_in}
use Rattle.jffs_tree.specs.Origin.{state_in}
use Rattle.jffs_tree.specs.Index.{ChildKey, key_cmp, has_child, stands_at, name_under, names_under, IsIndexOf}
use Rattle.jffs_tree.specs.Look.{name_cmp, children, names_in}
use Rattle.jffs_tree.specs.Listing.{IsFirst}
use Rattle.jffs_tree.proofs.listing.KeyOrder.{same_key, own_key}
use Rattle.jffs_marks.proofs.Order.{nat_tied, then_tied}
use Rattle.jffs_tree.proofs.listing.Indexed.{names}
use Rattle.jffs_marks.proofs.Maps.{behind, tail_sorted}
use Rattle.jffs_tree.proofs.listing.Listed.{by_name, names_rise}
use Rattle.jffs_tree.proofs.listing.Members.{each_other, same_members}

pub name_total : IsTotalOrder name_cmp
name_total = then_total (on_total (λ (t : List ℕ × ℕ). t.0) nat_list_cmp_total) (on_total (λ (t : List ℕ × ℕ). t.1) nat_cmp_total)

abbrev pub same_name : (List ℕ × ℕ) → (List ℕ × ℕ) → Bool
same_name a b = eq_by_cmp name_cmp a b

pub name_tied : (a b : List ℕ × ℕ) → name_cmp a b ≡ Equal → a ≡ b
name_tied a b h =
    let parts = then_tied (slice_cmp nat_cmp a.0 b.0) (nat_cmp a.1 b.1) h in
    let x = (bytes_eq-Decides a.0 b.0).0 (texts_ties a.0 b.0 ∙ ap is_eq parts.0) in
    let y = nat_tied a.1 b.1 parts.1 in
    λ i. (x i, y i)

pub tells : (a b : List ℕ × ℕ) → same_name a b ≡ true → a ≡ b
tells a b h = name_tied a b ((Equal-is (name_cmp a b)).0 h)

pub own : (a : List ℕ × ℕ) → same_name a a ≡ true
own a = ap is_eq (tied_itself name_total a)

-- rising names don't fall
pub sorted_names : (xs : List (List ℕ × ℕ)) → IsStrictlySortedBy name_cmp xs → IsSorted name_cmp xs
sorted_names xs rising k d low high =
    ap is_lt
    (name_total.antisymm (get_or xs (k + 1) d) (get_or xs k d) ∙ ap ordering_reverse (Less-from_sorted name_cmp xs k (k + 1) d rising (omega arith) high))

absent : (z : ℕ × Held) (tree : Tree) → T (entries.is_sorted nat_cmp (z ∷ tree)) → held_in tree z.0 ≡ None
absent z tree sorted = by_held (held_in tree z.0) refl
  where
    by_held : (o : Option Held) → held_in tree z.0 ≡ o → o ≡ None
    by_held None is = refl
    by_held (Some h) is = let no = behind z tree z.0 h sorted is in absurd (omega arith)

module _ (p : ℕ) (q : List ℕ × ℕ) where
  abbrev key : ChildKey
  key = (p, Some q.0, q.1)

  -- of one key
  at_key : (k : ChildKey) → list_any (same_name q) (name_under p k) ≡ is_at (key_cmp key) k
  at_key k = both_ways (list_any (same_name q) (name_under p k)) (is_at (key_cmp key) k)
      (by_name p (λ xs. list_any (same_name q) xs ≡ true → is_at (key_cmp key) k ≡ true) k (λ no. cc)
      (λ a at is yes.
      let e = tells q (a, k.2) (sym (or-false (same_name q (a, k.2))) ∙ yes) in
      let x = sym (eqb-true k.0 p at) in
      let y = ap (λ (t : List ℕ × ℕ). Some t.0) e ∙ sym is in
      let z = ap (λ (t : List ℕ × ℕ). t.1) e in
      let it : key ≡ k = λ i. (x i, y i, z i) in
      ap (λ t. is_at (key_cmp t) k) it ∙ own_key k))
      (λ h.
      ap (λ t. list_any (same_name q) (name_under p t)) (sym (same_key key k h))
      ∙ ap (λ b. list_any (same_name q) (cond b ((q.0, q.1) ∷ []) [])) (eq-eqb p p refl)
      ∙ ap (λ b. b || false) (own q))

  in_index : (keys : List ChildKey) → list_any (same_name q) (names_under p keys) ≡ has_child keys key
  in_index [] = refl
  in_index (k ∷ keys) =
      list_any-append (same_name q) (name_under p k) (names_under p keys)
      ∙ ap (λ b. b || list_any (same_name q) (names_under p keys)) (at_key k)
      ∙ ap (λ b. is_at (key_cmp key) k || b) (in_index keys)

  -- of one inode
  one_child : (b : Bool) (e : ℕ × Entry) (s : State) → list_any (same_name q) (map (λ x. (x.1.name, x.0)) (cond b (e ∷ s) s)) ≡ ((b && same_name q (e.1.name, e.0)) || list_any (same_name q) (map (λ x. (x.1.name, x.0)) s))
  one_child true e s = refl
  one_child false e s = refl

  it_alone : (a b c d : Bool) → b ≡ c → d ≡ false → ((a && b) || d) ≡ (a && c)
  it_alone true true c d e f = e
  it_alone true false c d e f = f ∙ e
  it_alone false b c d e f = f

  it_not : (a b d : Bool) → b ≡ false → ((a && b) || d) ≡ d
  it_not true b d e = ap (λ x. x || d) e
  it_not false b d e = refl

  in_tree : (tree : Tree) → T (entries.is_sorted nat_cmp tree) → list_any (same_name q) (children p (state_in tree)) ≡ stands_at tree key
  in_tree [] sorted = refl
  in_tree (z ∷ tree) sorted =
      let h = z.1.entry in
      let rest = in_tree tree (tail_sorted z tree sorted) in
      one_child (eqb h.parent p) (z.0, h) (filter (λ e. eqb e.1.parent p) (state_in tree))
      ∙ ⊎_elim
      (λ tied.
      let at = eqb-true q.1 z.0 (sym (unsigned_tied q.1 z.0) ∙ tied) in
      it_alone (eqb h.parent p) (same_name q (h.name, z.0)) (bytes_eq h.name q.0) _ (by_bytes at)
      (rest ∙ ap (λ o. option_map_or (λ x. (eqb x.entry.parent p) && bytes_eq x.entry.name q.0) o false) (ap (λ j. held_in tree j) at ∙ absent z tree sorted))
      ∙ sym (ap (λ t. option_map_or (λ x. (eqb x.entry.parent p) && bytes_eq x.entry.name q.0) (cond t (Some z.1) (held_in tree q.1)) false) tied))
      (λ apart.
      it_not (eqb h.parent p) (same_name q (h.name, z.0)) _ (other apart) ∙ rest
      ∙ sym (ap (λ t. option_map_or (λ x. (eqb x.entry.parent p) && bytes_eq x.entry.name q.0) (cond t (Some z.1) (held_in tree q.1)) false) apart))
      (cases_Bool (eq_by_cmp nat_cmp q.1 z.0))
    where
      by_bytes : q.1 ≡ z.0 → same_name q (z.1.entry.name, z.0) ≡ bytes_eq z.1.entry.name q.0
      by_bytes at = both_ways (same_name q (z.1.entry.name, z.0)) (bytes_eq z.1.entry.name q.0)
          (λ yes. (bytes_eq-Decides z.1.entry.name q.0).1 (sym (ap (λ (t : List ℕ × ℕ). t.0) (tells q (z.1.entry.name, z.0) yes))))
          (λ yes.
          let x = (bytes_eq-Decides z.1.entry.name q.0).0 yes in
          ap (λ (t : List ℕ × ℕ). same_name q t) (λ i. (x i, sym at i)) ∙ own q)

      other : eq_by_cmp nat_cmp q.1 z.0 ≡ false → same_name q (z.1.entry.name, z.0) ≡ false
      other apart = ⊎_elim
          (λ yes. let tied = unsigned_tied q.1 z.0 ∙ eq-eqb q.1 z.0 (ap (λ (t : List ℕ × ℕ). t.1) (tells q (z.1.entry.name, z.0) yes)) in cc)
          (λ n. n)
          (cases_Bool (same_name q (z.1.entry.name, z.0)))

module _ (p : ℕ) where
  children_differ : (tree : Tree) → T (entries.is_sorted nat_cmp tree) → IsDistinct same_name (children p (state_in tree))
  unfolding IsDistinct
  children_differ [] sorted = tt
  children_differ (z ∷ tree) sorted =
      let rest = children_differ tree (tail_sorted z tree sorted) in
      let name : List ℕ × ℕ = (z.1.entry.name, z.0) in
      let first = each_other same_name name (children p (state_in tree))
      (in_tree p name tree (tail_sorted z tree sorted)
      ∙ ap (λ o. option_map_or (λ x. (eqb x.entry.parent p) && bytes_eq x.entry.name z.1.entry.name) o false) (absent z tree sorted)) in
      elim (eqb z.1.entry.parent p) as (λ b. IsDistinct same_name (map (λ x. (x.1.name, x.0)) (cond b ((z.0, z.1.entry) ∷ filter (λ e. eqb e.1.parent p) (state_in tree)) (filter (λ e. eqb e.1.parent p) (state_in tree))))) [
        | true ↦ IsDistinct-cons same_name name (children p (state_in tree)) first rest
        | false ↦ rest
      ]

  index_lists : (tree : Tree) (keys : List ChildKey) → T (entries.is_sorted nat_cmp tree) → IsIndexOf tree keys → IsStrictlySortedBy name_cmp (names_under p keys)
      → IsPermutation (children p (state_in tree)) (names_under p keys)
  index_lists tree keys sorted index rising =
      same_members same_name tells own (children p (state_in tree)) (names_under p keys) (children_differ tree sorted) (IsDistinct-from_sorted name_cmp (names_under p keys) rising)
      (λ q. in_tree p q tree sorted ∙ sym (index (p, Some q.0, q.1)) ∙ sym (in_index p q keys))

  -- the list that was read from the index of a tree
  pub lists_directory : (tree seen : Tree) (keys : List ChildKey) (names : List (List ℕ × ℕ)) → tree ≡ seen → IsTrue (entries.is_sorted nat_cmp tree) → IsIndexOf tree keys
      → is_directory_in (state_in seen) p ≡ true → names ≡ names_under p keys → IsStrictlySortedBy name_cmp names → IsPermutation (names_in seen p) names
  lists_directory tree seen keys names view sorted index is_dir all rising =
      let rises = subst (λ xs. IsStrictlySortedBy name_cmp xs) all rising in
      subst (λ b. IsPermutation (cond b (children p (state_in seen)) []) names) (sym is_dir)
      (subst (λ t. IsPermutation (children p (state_in t)) names) view
      (subst (λ xs. IsPermutation (children p (state_in tree)) xs) (sym all) (index_lists tree keys (subst T (sym sorted) tt) index rises)))

pub from_both : {X E : Type 0} (r : Result X E) (P Q R : X → Type 0) → ((x : X) → P x → Q x → R x) → IfOk r P → IfOk r Q → IfOk r R
from_both (Ok x) P Q R f p q = f x p q
from_both (Err e) P Q R f p q = tt

rise_none : IsStrictlySortedBy name_cmp []
unfolding IsStrictlySortedBy
rise_none = tt

-- a file has no names
pub nothing_listed : (test : (List ℕ × ℕ) → Bool) (tree : Tree) (p : ℕ) → is_directory_in (state_in tree) p ≡ false → IsFirst test tree p None
nothing_listed test tree p no_directory = record {
  names = [];
  listing = record {
    all = subst (λ b. IsPermutation (cond b (children p (state_in tree)) []) []) (sym no_directory) (IsPermutation-refl []);
    rising = rise_none;
  };
  is = refl;
}

-- the first name of a directory that passes a test, by what the index lists
pub first_listed : (test past : (List ℕ × ℕ) → Bool) (p : ℕ) (tree seen : Tree) (keys : List ChildKey) (found : Option (List ℕ × ℕ)) → tree ≡ seen
    → IsTrue (entries.is_sorted nat_cmp tree) → IsIndexOf tree keys → IsStrictlySortedBy key_cmp keys → is_directory_in (state_in seen) p ≡ true
    → find past (names_under p keys) ≡ find test (names_under p keys) → found ≡ find past (names_under p keys) → IsFirst test seen p found
first_listed test past p tree seen keys found view sorted index ordered is_dir same is =
    let rising = names_rise p keys ordered in record {
      names = names_under p keys;
      listing = record {
        all = lists_directory p tree seen keys (names_under p keys) view sorted index is_dir refl rising;
        rising = rising;
      };
      is = is ∙ same;
    }
