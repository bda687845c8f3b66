-- The order of keys in the index of children.
use Rattle.std.proofs.Common.{◌≡◌, ℕ, ◌≤◌, true, false, List, Option, Some, None, refl, sym, ap, ◌∙◌, nat_cmp}
use Rattle.std.specs.declared.cmp.Ordering.{Ordering}
use Rattle.std.specs.declared.cmp.Ordering.TheVariants.{Less, Equal, Greater}
use Rattle.std.specs.Ordering.{is_gt, is_eq, ordering_then}
use Rattle.std.specs.Option.{option_cmp}
use Rattle.std.specs.Cmp.{Equal-is, IsTotalOrder, nat_cmp_total, then_total, on_total, tied_itself}
use Rattle.std.specs.Cmp.Lexicographic.{slice_cmp, nat_list_cmp_total, options_total, texts_ties}
use Rattle.std.specs.BTreeMap.{is_at}
use Rattle.std.proofs.lemmas.Slice.Eq.{bytes_eq-Decides}
use Rattle.jffs_tree.specs.Index.{ChildKey, key_cmp}
use Rattle.jffs_marks.proofs.Order.{then_low, then_tied, level, nat_tied, nat_low, zero_low}

-- directory and name alone
abbrev head_cmp : ChildKey → ChildKey → Ordering
head_cmp a b = ordering_then (nat_cmp a.0 b.0) (option_cmp (slice_cmp nat_cmp) a.1 b.1)

head_total : IsTotalOrder head_cmp
head_total = then_total (on_total (λ (t : ChildKey). t.0) nat_cmp_total) (on_total (λ (t : ChildKey). t.1) (options_total nat_list_cmp_total))

pub name_tied : (a b : Option (List ℕ)) → option_cmp (slice_cmp nat_cmp) a b ≡ Equal → a ≡ b
name_tied None None h = refl
name_tied None (Some y) h = cc
name_tied (Some x) None h = cc
name_tied (Some x) (Some y) h = ap (λ n. Some n) ((bytes_eq-Decides x y).0 (texts_ties x y ∙ ap is_eq h))

-- What lies between the first key of a name and another key of it is a key of it too.
pub between : (p : ℕ) (o : Option (List ℕ)) (j : ℕ) (k : ChildKey) → is_gt (key_cmp (p, o, 0) k) ≡ false → is_gt (key_cmp k (p, o, j)) ≡ false → (k.0 ≡ p) × (k.1 ≡ o) × (k.2 ≤ j)
between p o j k low high =
    let tied = level (head_cmp (p, o, 0) k) (head_cmp k (p, o, 0)) (head_total.antisymm (p, o, 0) k) (then_low _ _ low) (then_low _ _ high) in
    let parts = then_tied (nat_cmp k.0 p) (option_cmp (slice_cmp nat_cmp) k.1 o) tied in
    (nat_tied k.0 p parts.0, name_tied k.1 o parts.1, nat_low k.2 j (ap (λ a. is_gt (ordering_then a (nat_cmp k.2 j))) (sym tied) ∙ high))

pub first_of_name : (p : ℕ) (o : Option (List ℕ)) (j : ℕ) → is_gt (key_cmp (p, o, 0) (p, o, j)) ≡ false
first_of_name p o j = ap (λ a. is_gt (ordering_then a (nat_cmp 0 j))) (tied_itself head_total (p, o, 0)) ∙ zero_low j

-- Two keys of a name are in the order of their inodes.
pub by_inode : (p : ℕ) (o : Option (List ℕ)) (j k : ℕ) → key_cmp (p, o, j) (p, o, k) ≡ nat_cmp j k
by_inode p o j k = ap (λ a. ordering_then a (nat_cmp j k)) (tied_itself head_total (p, o, 0))

-- What is after a key of a name is after the first that the name may have.
pub after_first : (p : ℕ) (o : Option (List ℕ)) (j : ℕ) (k : ChildKey) → is_gt (key_cmp (p, o, j) k) ≡ false → is_gt (key_cmp (p, o, 0) k) ≡ false
after_first p o j k low = by_head (head_cmp (p, o, 0) k) (then_low (head_cmp (p, o, 0) k) (nat_cmp j k.2) low)
  where
    by_head : (a : Ordering) → is_gt a ≡ false → is_gt (ordering_then a (nat_cmp 0 k.2)) ≡ false
    by_head Less h = refl
    by_head Equal h = zero_low k.2
    by_head Greater h = cc

-- The same of a directory.
pub between_names : (p : ℕ) (o : Option (List ℕ)) (j : ℕ) (k : ChildKey) → is_gt (key_cmp (p, None, 0) k) ≡ false → is_gt (key_cmp k (p, o, j)) ≡ false → k.0 ≡ p
between_names p o j k low high =
    nat_tied k.0 p (level (nat_cmp p k.0) (nat_cmp k.0 p) (nat_cmp_total.antisymm p k.0) (then_low _ _ (then_low _ _ low)) (then_low _ _ (then_low _ _ high)))

pub first_of_directory : (p : ℕ) (o : Option (List ℕ)) (j : ℕ) → is_gt (key_cmp (p, None, 0) (p, o, j)) ≡ false
first_of_directory p None j = first_of_name p None j
first_of_directory p (Some x) j = ap (λ a. is_gt (ordering_then (ordering_then a Less) (nat_cmp 0 j))) (tied_itself nat_cmp_total p)

-- Keys that the order doesn't tell apart are one.
pub same_key : (a b : ChildKey) → is_at (key_cmp a) b ≡ true → a ≡ b
same_key a b h =
    let last = then_tied (head_cmp a b) (nat_cmp a.2 b.2) ((Equal-is (key_cmp a b)).0 h) in
    let first = then_tied (nat_cmp a.0 b.0) (option_cmp (slice_cmp nat_cmp) a.1 b.1) last.0 in
    let x = nat_tied a.0 b.0 first.0 in
    let y = name_tied a.1 b.1 first.1 in
    let z = nat_tied a.2 b.2 last.1 in
    λ i. (x i, y i, z i)

pub own_key : (a : ChildKey) → is_at (key_cmp a) a ≡ true
own_key a = ap is_eq (ap (λ o. ordering_then o (nat_cmp a.2 a.2)) (tied_itself head_total a) ∙ tied_itself nat_cmp_total a.2)
