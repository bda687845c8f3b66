-- Names differ where no key of the index is of the same name and directory as the one before it.
use Rattle.std.proofs.Common.{◌≡◌, ℕ, ◌<◌, true, false, not, ◌&&◌, ◌||◌, eqb, T, List, [], ◌∷◌, option_map, IfSome, Option, Some, None, refl, sym, ap, subst, ◌∙◌, ⊎_elim, arith, nat_cmp, is_eq, is_lt, is_gt}
use Rattle.std.specs.List.{AllByRecursion}
use Rattle.std.specs.List.Sorted.{IsStrictlySortedBy}
use Rattle.std.specs.Option.{option_map_or}
use Rattle.std.specs.Cmp.{both_ways, nat_cmp_total, tied_itself}
use Rattle.std.specs.BTreeMap.{is_at}
use Rattle.std.specs.FinMap.Entries as entries
use Rattle.std.specs.declared.cmp.Ordering.TheVariants.{Less}
use Rattle.std.proofs.lemmas.Bool.{cases_Bool, cases_lt, cases_eq, and_parts, and_from, eqb-true, eq-eqb, or_left, or_right, not-true}
use Rattle.std.proofs.lemmas.Map.Keys.{sorted_head, sorted_tail}
use Rattle.std.proofs.lemmas.Option.{same_Some}
use Rattle.jffs_inodes.specs.Held.{Entry, Held}
use Rattle.jffs_tree.specs.State.{at}
use Rattle.jffs_inodes.specs.Inodes.{Tree, held_in}
use Rattle.jffs_tree.specs.Origin.{state_in}
use Rattle.jffs_tree.specs.Check.{names_differ}
use Rattle.jffs_tree.specs.Index.{ChildKey, key_cmp, has_child, is_named, namesakes, apart_from, IsIndexOf}
use Rattle.jffs_marks.proofs.Maps.{is_less}
use Rattle.jffs_tree.proofs.listing.KeyOrder.{same_key, own_key, between, by_inode, after_first}
use Rattle.jffs_tree.proofs.listing.Indexed.{named_by, names}
use Rattle.jffs_tree.proofs.listing.Standing.{some_of}
use Rattle.jffs_tree.proofs.trees.Looked.{entry_in}
use Rattle.jffs_tree.proofs.states.Kept.{names_apart, names_apart_from}

-- ---- a tree's state is in the tree's order
below_state : (x : ℕ) (tree : Tree) → entries.below_all nat_cmp x (state_in tree) ≡ entries.below_all nat_cmp x tree
below_state x [] = refl
below_state x (h ∷ tree) = ap (λ b. is_lt (nat_cmp x h.0) && b) (below_state x tree)

same_order : (tree : Tree) → entries.is_sorted nat_cmp (state_in tree) ≡ entries.is_sorted nat_cmp tree
same_order [] = refl
same_order (h ∷ tree) = λ i. below_state h.0 tree i && same_order tree i

pub sorted_state_in : (tree : Tree) → T (entries.is_sorted nat_cmp tree) → T (entries.is_sorted nat_cmp (state_in tree))
sorted_state_in tree h = subst T (sym (same_order tree)) h

-- ---- the keys of a list
in_rest : (x q : ChildKey) (ks : List ChildKey) → is_at (key_cmp q) x ≡ false → has_child (x ∷ ks) q ≡ true → has_child ks q ≡ true
in_rest x q ks other has = sym (ap (λ t. t || has_child ks q) other) ∙ has

above : (x q : ChildKey) (ks : List ChildKey) → AllByRecursion (λ y. key_cmp x y ≡ Less) ks → has_child ks q ≡ true → key_cmp x q ≡ Less
above x q [] low has = cc
above x q (y ∷ ks) low has = ⊎_elim
    (λ here. ap (λ (z : ChildKey). key_cmp x z) (same_key q y here) ∙ low.0)
    (λ there. above x q ks low.1 (in_rest y q ks there has))
    (cases_Bool (is_at (key_cmp q) y))

still_in : (k : ChildKey) (keys ks : List ChildKey) → AllByRecursion (λ q. has_child keys q ≡ true) ks → AllByRecursion (λ q. has_child (k ∷ keys) q ≡ true) ks
still_in k keys [] h = tt
still_in k keys (x ∷ ks) h = (or_right (is_at (key_cmp x) k) (has_child keys x) h.0, still_in k keys ks h.1)

pub own_keys : (ks : List ChildKey) → AllByRecursion (λ q. has_child ks q ≡ true) ks
own_keys [] = tt
own_keys (k ∷ ks) = (or_left (is_at (key_cmp k) k) (has_child ks k) (own_key k), still_in k ks ks (own_keys ks))

-- ---- two keys of one name and directory
module _ (p : ℕ) (name : List ℕ) (j k : ℕ) (less : j < k) where
  abbrev first : ChildKey
  first = (p, Some name, j)

  abbrev second : ChildKey
  second = (p, Some name, k)

  -- What follows the first is of that name too.
  followed : (x : ChildKey) (ks : List ChildKey) → first ≡ x → IsStrictlySortedBy key_cmp (x ∷ ks) → apart_from (Some x) ks ≡ true → has_child ks second ≡ true → ⊥
  followed x [] is rising apart has = cc
  followed x (y ∷ ks) is rising apart has =
      let tail = sorted_tail key_cmp x (y ∷ ks) rising in
      let low : is_gt (key_cmp first y) ≡ false = ap (λ (z : ChildKey). is_gt (key_cmp z y)) is ∙ ap is_gt (sorted_head key_cmp x (y ∷ ks) rising).0 in
      let high : is_gt (key_cmp y second) ≡ false = ⊎_elim
      (λ here. ap (λ (z : ChildKey). is_gt (key_cmp z second)) (sym (same_key second y here)) ∙ ap is_gt (by_inode p (Some name) k k ∙ tied_itself nat_cmp_total k))
      (λ there. ap is_gt (above y second ks (sorted_head key_cmp y ks tail) (in_rest y second ks there has)))
      (cases_Bool (is_at (key_cmp second) y)) in
      let of = between p (Some name) k y (after_first p (Some name) j y low) high in
      let yes : namesakes x y ≡ true = ap (λ (z : ChildKey). namesakes z y) (sym is) ∙ and_from (eqb y.0 p) (is_named name y.1) (eq-eqb y.0 p of.0) (ap (is_named name) of.1 ∙ names name) in
      let never = not-true (namesakes x y) (and_parts (not (namesakes x y)) (apart_from (Some y) ks) apart).0 in
      cc

  twins : (before : Option ChildKey) (ks : List ChildKey) → IsStrictlySortedBy key_cmp ks → apart_from before ks ≡ true → has_child ks first ≡ true → has_child ks second ≡ true → ⊥
  twins before [] rising apart a b = cc
  twins before (x ∷ ks) rising apart a b =
      let rest = (and_parts (not (option_map_or (λ o. namesakes o x) before false)) (apart_from (Some x) ks) apart).1 in
      ⊎_elim
      (λ here. ⊎_elim
      (λ also. let same : j ≡ k = ap (λ (z : ChildKey). z.2) (same_key first x here ∙ sym (same_key second x also)) in omega (arith, less, same))
      (λ later. followed x ks (same_key first x here) rising rest (in_rest x second ks later b))
      (cases_Bool (is_at (key_cmp second) x)))
      (λ there. ⊎_elim
      (λ also.
      let low : key_cmp x first ≡ Less = above x first ks (sorted_head key_cmp x ks rising) (in_rest x first ks there a) in
      let turned : nat_cmp k j ≡ Less = sym (by_inode p (Some name) k j) ∙ ap (λ (z : ChildKey). key_cmp z first) (same_key second x also) ∙ low in
      let more = is_less k j (ap is_lt turned) in
      omega (arith, less, more))
      (λ later. twins (Some x) ks (sorted_tail key_cmp x ks rising) rest (in_rest x first ks there a) (in_rest x second ks later b))
      (cases_Bool (is_at (key_cmp second) x)))
      (cases_Bool (is_at (key_cmp first) x))

-- ---- the index of a tree
module _ (tree : Tree) (keys : List ChildKey) (sorted : T (entries.is_sorted nat_cmp tree)) (index : IsIndexOf tree keys) (rising : IsStrictlySortedBy key_cmp keys) where
  has_key : (j : ℕ) (f : Entry) → at (state_in tree) j ≡ Some f → has_child keys (f.parent, Some f.name, j) ≡ true
  has_key j f is = index (f.parent, Some f.name, j) ∙ by_held (held_in tree j) (sym (entry_in tree j) ∙ is)
    where
      by_held : (o : Option Held) → option_map (λ h. h.entry) o ≡ Some f → option_map_or (λ h. (eqb h.entry.parent f.parent) && is_named h.entry.name (Some f.name)) o false ≡ true
      by_held None e = cc
      by_held (Some h) e =
          ap (λ (x : Entry). (eqb x.parent f.parent) && is_named x.name (Some f.name)) (same_Some h.entry f e)
          ∙ and_from (eqb f.parent f.parent) (is_named f.name (Some f.name)) (eq-eqb f.parent f.parent refl) (names f.name)

  differ : apart_from None keys ≡ true → names_differ (state_in tree) ≡ true
  differ apart = names_apart_from (state_in tree) (sorted_state_in tree sorted) (λ j k f g is was parent name.
      let a = has_key j f is in
      let b : has_child keys (f.parent, Some f.name, k) ≡ true = ap (λ (q : ChildKey). has_child keys q) (λ i. (parent i, Some (name i), k)) ∙ has_key k g was in
      ⊎_elim
      (λ low. absurd (twins f.parent f.name j k low None keys rising apart a b))
      (λ high. ⊎_elim
      (λ same. same)
      (λ other. absurd (twins f.parent f.name k j (omega (arith, high, other)) None keys rising apart b a))
      (cases_eq j k))
      (cases_lt j k))

  entry_of_key : (q : ChildKey) → has_child keys q ≡ true → (f : Entry) × (at (state_in tree) q.2 ≡ Some f) × (f.parent ≡ q.0) × (q.1 ≡ Some f.name)
  entry_of_key q has =
      let h = some_of (λ h. (eqb h.entry.parent q.0) && is_named h.entry.name q.1) (held_in tree q.2) (sym (index q) ∙ has) in
      let parts = and_parts (eqb h.0.entry.parent q.0) (is_named h.0.entry.name q.1) h.2 in
      (h.0.entry, entry_in tree q.2 ∙ ap (λ (o : Option Held). option_map (λ x. x.entry) o) h.1, eqb-true h.0.entry.parent q.0 parts.0, named_by h.0.entry.name q.1 parts.1)

  module _ (apart : names_differ (state_in tree) ≡ true) where
    once : (b k : ChildKey) → has_child keys b ≡ true → has_child keys k ≡ true → key_cmp b k ≡ Less → namesakes b k ≡ false
    once b k has_b has_k low = ⊎_elim
        (λ yes.
        let f = entry_of_key b has_b in
        let g = entry_of_key k has_k in
        let parts = and_parts (eqb k.0 b.0) (option_map_or (λ n. is_named n k.1) b.1 false) yes in
        let there : k.0 ≡ b.0 = eqb-true k.0 b.0 parts.0 in
        let named : is_named f.0.name k.1 ≡ true = sym (ap (λ o. option_map_or (λ n. is_named n k.1) o false) f.3) ∙ parts.1 in
        let name : f.0.name ≡ g.0.name = same_Some f.0.name g.0.name (sym (named_by f.0.name k.1 named) ∙ g.3) in
        let inode : b.2 ≡ k.2 = names_apart (state_in tree) b.2 k.2 f.0 g.0 apart f.1 g.1 (f.2 ∙ sym there ∙ sym g.2) name in
        let same : b ≡ k = λ i. (sym there i, (f.3 ∙ ap (λ n. Some n) name ∙ sym g.3) i, inode i) in
        let tied : is_at (key_cmp b) k ≡ true = ap (λ (q : ChildKey). is_at (key_cmp b) q) (sym same) ∙ own_key b in
        let untied : is_at (key_cmp b) k ≡ false = ap is_eq low in
        cc)
        (λ f. f)
        (cases_Bool (namesakes b k))

    all_apart : (before : Option ChildKey) (ks : List ChildKey) → IfSome before (λ b. (has_child keys b ≡ true) × AllByRecursion (λ y. key_cmp b y ≡ Less) ks)
        → IsStrictlySortedBy key_cmp ks → AllByRecursion (λ q. has_child keys q ≡ true) ks → apart_from before ks ≡ true
    all_apart before [] low rise among = refl
    all_apart before (k ∷ ks) low rise among =
        and_from (not (option_map_or (λ o. namesakes o k) before false)) (apart_from (Some k) ks) (at_first before low)
        (all_apart (Some k) ks (among.0, sorted_head key_cmp k ks rise) (sorted_tail key_cmp k ks rise) among.1)
      where
        at_first : (o : Option ChildKey) → IfSome o (λ b. (has_child keys b ≡ true) × AllByRecursion (λ y. key_cmp b y ≡ Less) (k ∷ ks)) → not (option_map_or (λ b. namesakes b k) o false) ≡ true
        at_first None h = refl
        at_first (Some b) h = ap not (once b k h.0 among.0 h.1.0)

  pub apart_exactly : apart_from None keys ≡ names_differ (state_in tree)
  apart_exactly = both_ways (apart_from None keys) (names_differ (state_in tree)) differ (λ apart. all_apart apart None keys tt rising (own_keys keys))
