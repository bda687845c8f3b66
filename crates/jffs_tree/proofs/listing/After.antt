-- The first name after a key of the index is that of the first key after it.
use Rattle.std.proofs.Common.{◌≡◌, ◌≢◌, ℕ, ◌≤◌, ◌<◌, ◌^◌, Bool, true, false, cond, ◌&&◌, eqb, List, [], ◌∷◌, ◌++◌, option_map, Option, Some, None, IsSome, is_some, IfSome, refl, sym, ap, subst, ◌∙◌, ⊎_elim, arith, nat_cmp}
use Rattle.std.specs.List.{AllByRecursion, find, filter}
use Rattle.std.specs.List.Sorted.{IsStrictlySortedBy}
use Rattle.std.specs.Ordering.{is_gt, is_lt, ordering_then}
use Rattle.std.specs.Option.{option_cmp}
use Rattle.std.specs.declared.cmp.Ordering.{Ordering}
use Rattle.std.specs.declared.cmp.Ordering.TheVariants.{Less, Equal, Greater}
use Rattle.std.specs.Cmp.{nat_cmp_total, tied_itself}
use Rattle.std.specs.Cmp.Lexicographic.{slice_cmp}
use Rattle.std.specs.BTreeMap.Range.{range_contains}
use Rattle.std.specs.declared.ops.Bound.TheVariants.{Excluded, Unbounded}
use Rattle.std.proofs.lemmas.Bool.{cases_Bool, eqb-true, eq-eqb, ne_eqb, and_parts}
use Rattle.std.proofs.lemmas.Map.Keys.{sorted_head, sorted_tail}
use Rattle.jffs_inodes.specs.Inodes.{Tree, held_in}
use Rattle.jffs_tree.specs.Index.{ChildKey, key_cmp, has_child, is_named, names_under, HaveNames, IsIndexOf}
use Rattle.jffs_tree.specs.Listing.{is_after, is_name_after, is_past}
use Rattle.jffs_tree.proofs.listing.Listed.{other_name, one_more, later}
use Rattle.jffs_tree.proofs.listing.Indexed.{named_by}
use Rattle.jffs_tree.proofs.listing.Standing.{some_of}
use Rattle.jffs_tree.proofs.listing.Apart.{own_keys}
use Rattle.jffs_marks.proofs.Order.{nat_tied}
use Rattle.jffs_marks.proofs.Maps.{is_less}

value : (o : Option (List ℕ)) → IsSome o → (a : List ℕ) × (o ≡ Some a)
value None h = cc
value (Some a) h = (a, refl)

-- the keys of an index have names
named : (tree : Tree) (keys : List ChildKey) → IsIndexOf tree keys → (q : ChildKey) → has_child keys q ≡ true → IsSome q.1
named tree keys index q has =
    let h = some_of (λ x. (eqb x.entry.parent q.0) && is_named x.entry.name q.1) (held_in tree q.2) (sym (index q) ∙ has) in
    ap is_some (named_by h.0.entry.name q.1 (and_parts (eqb h.0.entry.parent q.0) (is_named h.0.entry.name q.1) h.2).1)

pub index_names : (tree : Tree) (keys : List ChildKey) → IsIndexOf tree keys → HaveNames keys
index_names tree keys index = each keys (own_keys keys)
  where
    each : (ks : List ChildKey) → AllByRecursion (λ q. has_child keys q ≡ true) ks → HaveNames ks
    each [] has = tt
    each (k ∷ ks) has = (named tree keys index k has.0, each ks has.1)

module _ (p : ℕ) (o : Option (List ℕ)) (j : ℕ) where
  abbrev from : ChildKey
  from = (p, o, j)

  -- what the range after the key has
  abbrev pub in_after : ChildKey → Bool
  in_after k = range_contains key_cmp (Excluded from) Unbounded k

  -- the name of the first key, if it is one of this directory
  abbrev pub head_name : List ChildKey → Option (List ℕ × ℕ)
  head_name [] = None
  head_name (k ∷ ks) = cond (eqb k.0 p) (option_map (λ a. (a, k.2)) k.1) None

  plain : (b : Bool) → (b && true) ≡ b
  plain true = refl
  plain false = refl

  -- a key of this directory is after the given one as its name is
  as_name : (k : ChildKey) (a : List ℕ) → k.0 ≡ p → k.1 ≡ Some a → in_after k ≡ is_past from (a, k.2)
  as_name k a at is = plain (is_lt (key_cmp from k)) ∙ ap (λ (q : ChildKey). is_lt (key_cmp from q)) (λ i. (at i, is i, k.2))

  -- a key after the given one, of another directory, is after all of this one
  past_all : (k : ChildKey) → in_after k ≡ true → eqb k.0 p ≡ false → is_gt (key_cmp (p, None, 0) k) ≡ false
  past_all k inside other =
      by_directory (nat_cmp p k.0) (λ e. let never = eq-eqb k.0 p (sym (nat_tied p k.0 e)) in cc)
      (sym (plain (is_lt (key_cmp from k))) ∙ inside)
    where
      by_directory : (a : Ordering) → (a ≡ Equal → ⊥)
          → is_lt (ordering_then (ordering_then a (option_cmp (slice_cmp nat_cmp) o k.1)) (nat_cmp j k.2)) ≡ true
          → is_gt (ordering_then (ordering_then a (option_cmp (slice_cmp nat_cmp) None k.1)) (nat_cmp 0 k.2)) ≡ false
      by_directory Less differ h = refl
      by_directory Equal differ h = absurd (differ refl)
      by_directory Greater differ h = cc

  -- the first name of this directory that is past the key
  abbrev first : List ChildKey → Option (List ℕ × ℕ)
  first ks = find (is_past from) (names_under p ks)

  at_one : (k : ChildKey) (ks : List ChildKey) (a : List ℕ) → eqb k.0 p ≡ true → k.1 ≡ Some a
      → first (k ∷ ks) ≡ cond (is_past from (a, k.2)) (Some (a, k.2)) (first ks)
  at_one k ks a at is = ap (λ xs. find (is_past from) (xs ++ names_under p ks)) (one_more p a k at is)

  at_other : (k : ChildKey) (ks : List ChildKey) → eqb k.0 p ≡ false → first (k ∷ ks) ≡ first ks
  at_other k ks other = ap (λ xs. find (is_past from) (xs ++ names_under p ks)) (other_name p k other)

  pub first_past : (keys : List ChildKey) → IsStrictlySortedBy key_cmp keys → HaveNames keys
      → first keys ≡ head_name (filter in_after keys)
  first_past [] rising named = refl
  first_past (k ∷ ks) rising named =
      let rest = first_past ks (sorted_tail key_cmp k ks rising) named.1 in
      let v = value k.1 named.0 in
      let a = v.0 in
      ⊎_elim
      (λ inside. ⊎_elim
      (λ at.
      at_one k ks a at v.1
      ∙ ap (λ b. cond b (Some (a, k.2)) (first ks)) (sym (as_name k a (eqb-true k.0 p at) v.1) ∙ inside)
      ∙ sym (ap (λ t. cond t (option_map (λ x. (x, k.2)) k.1) None) at ∙ ap (λ (t : Option (List ℕ)). option_map (λ x. (x, k.2)) t) v.1)
      ∙ sym (ap (λ b. head_name (cond b (k ∷ filter in_after ks) (filter in_after ks))) inside))
      (λ other.
      at_other k ks other
      ∙ ap (λ xs. find (is_past from) xs) (later p k ks (past_all k inside other) other (sorted_head key_cmp k ks rising))
      ∙ sym (ap (λ t. cond t (option_map (λ x. (x, k.2)) k.1) None) other)
      ∙ sym (ap (λ b. head_name (cond b (k ∷ filter in_after ks) (filter in_after ks))) inside))
      (cases_Bool (eqb k.0 p)))
      (λ outside. ⊎_elim
      (λ at.
      at_one k ks a at v.1
      ∙ ap (λ b. cond b (Some (a, k.2)) (first ks)) (sym (as_name k a (eqb-true k.0 p at) v.1) ∙ outside)
      ∙ rest
      ∙ sym (ap (λ b. head_name (cond b (k ∷ filter in_after ks) (filter in_after ks))) outside))
      (λ other.
      at_other k ks other ∙ rest
      ∙ sym (ap (λ b. head_name (cond b (k ∷ filter in_after ks) (filter in_after ks))) outside))
      (cases_Bool (eqb k.0 p)))
      (cases_Bool (in_after k))

-- a key of this directory is past a name as the name is after it
pub past_name : (p : ℕ) (a : List ℕ) (j : ℕ) (e : List ℕ × ℕ) → is_past (p, Some a, j) e ≡ is_after (Some (a, j)) e
past_name p a j e = ap (λ t. is_lt (ordering_then (ordering_then t (slice_cmp nat_cmp a e.0)) (nat_cmp j e.1))) (tied_itself nat_cmp_total p)

pub past_none : (p : ℕ) (e : List ℕ × ℕ) → is_past (p, None, 0) e ≡ is_after None e
past_none p e = ap (λ t. is_lt (ordering_then (ordering_then t Less) (nat_cmp 0 e.1))) (tied_itself nat_cmp_total p)

-- what the range after a key begins with
module _ (p : ℕ) (o : Option (List ℕ)) (j : ℕ) (keys range : List ChildKey) (rising : IsStrictlySortedBy key_cmp keys) (named : HaveNames keys)
    (given : range ≡ filter (in_after p o j) keys) where
  found : (left : List ChildKey) → range ≡ left → head_name p o j left ≡ find (is_past (p, o, j)) (names_under p keys)
  found left is = sym (first_past p o j keys rising named ∙ ap (head_name p o j) (sym given ∙ is))

  pub none_past : range ≡ [] → None ≡ find (is_past (p, o, j)) (names_under p keys)
  none_past is = found [] is

  pub other_past : (k : ChildKey) (ks : List ChildKey) → range ≡ k ∷ ks → k.0 ≢ p → None ≡ find (is_past (p, o, j)) (names_under p keys)
  other_past k ks is other = sym (ap (λ b. cond b (option_map (λ a. (a, k.2)) k.1) None) (ne_eqb k.0 p other)) ∙ found (k ∷ ks) is

  pub name_past : (k : ChildKey) (ks : List ChildKey) (a : List ℕ) → range ≡ k ∷ ks → k.0 ≡ p → k.1 ≡ Some a → Some (a, k.2) ≡ find (is_past (p, o, j)) (names_under p keys)
  name_past k ks a is at named_so =
      sym (ap (λ b. cond b (option_map (λ x. (x, k.2)) k.1) None) (eq-eqb k.0 p at) ∙ ap (λ (t : Option (List ℕ)). option_map (λ x. (x, k.2)) t) named_so)
      ∙ found (k ∷ ks) is

pub up_to_last : (found : Option (List ℕ × ℕ)) → IfSome found (λ e. e.1 < 2 ^ 32) → IfSome found (λ e. e.1 ≤ 4294967295)
up_to_last None small = tt
up_to_last (Some e) small = omega (arith, small)

-- The first name past the last key of a name is the first name after it, where no inode is greater.
module _ (p : ℕ) (a : List ℕ) (last : ℕ) where
  no_later : (e : List ℕ × ℕ) → e.1 ≤ last → is_past (p, Some a, last) e ≡ true → is_name_after (Some a) e ≡ true
  no_later e small past = by_name (slice_cmp nat_cmp a e.0) (sym (past_name p a last e) ∙ past)
    where
      by_name : (o : Ordering) → is_lt (ordering_then o (nat_cmp last e.1)) ≡ true → is_lt o ≡ true
      by_name Less h = refl
      by_name Equal h = let less = is_less last e.1 h in absurd (omega (arith, small, less))
      by_name Greater h = cc

  later_past : (e : List ℕ × ℕ) → is_past (p, Some a, last) e ≡ false → is_name_after (Some a) e ≡ false
  later_past e outside = by_name (slice_cmp nat_cmp a e.0) (sym (past_name p a last e) ∙ outside)
    where
      by_name : (o : Ordering) → is_lt (ordering_then o (nat_cmp last e.1)) ≡ false → is_lt o ≡ false
      by_name Less h = cc
      by_name Equal h = refl
      by_name Greater h = refl

  pub first_later : (names : List (List ℕ × ℕ)) → IfSome (find (is_past (p, Some a, last)) names) (λ e. e.1 ≤ last)
      → find (is_past (p, Some a, last)) names ≡ find (is_name_after (Some a)) names
  first_later [] small = refl
  first_later (x ∷ xs) small = ⊎_elim
      (λ inside.
      let here = subst (λ b. IfSome (cond b (Some x) (find (is_past (p, Some a, last)) xs)) (λ e. e.1 ≤ last)) inside small in
      ap (λ b. cond b (Some x) (find (is_past (p, Some a, last)) xs)) inside
      ∙ sym (ap (λ b. cond b (Some x) (find (is_name_after (Some a)) xs)) (no_later x here inside)))
      (λ outside.
      let rest = subst (λ b. IfSome (cond b (Some x) (find (is_past (p, Some a, last)) xs)) (λ e. e.1 ≤ last)) outside small in
      ap (λ b. cond b (Some x) (find (is_past (p, Some a, last)) xs)) outside
      ∙ first_later xs rest
      ∙ sym (ap (λ b. cond b (Some x) (find (is_name_after (Some a)) xs)) (later_past x outside)))
      (cases_Bool (is_past (p, Some a, last) x))

-- tests that agree find the same
pub same_first : {p q : (List ℕ × ℕ) → Bool} (names : List (List ℕ × ℕ)) → ((e : List ℕ × ℕ) → p e ≡ q e) → find p names ≡ find q names
same_first names same = ap (λ (t : (List ℕ × ℕ) → Bool). find t names) (λ i e. same e i)
