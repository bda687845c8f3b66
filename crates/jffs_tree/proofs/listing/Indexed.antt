-- What the first key of a range says of a name, and of a directory.
use Rattle.std.proofs.Common.{◌≡◌, ℕ, ◌≤◌, true, false, ◌&&◌, eqb, List, Option, Some, None, refl, sym, ap, ◌∙◌, ⊎_elim}
use Rattle.std.specs.Ordering.{is_gt}
use Rattle.std.proofs.lemmas.Bool.{cases_Bool, eq-eqb, and_from}
use Rattle.std.proofs.lemmas.Slice.Eq.{bytes_eq-Decides}
use Rattle.jffs_tree.specs.Index.{ChildKey, key_cmp, has_child, is_named}
use Rattle.jffs_tree.proofs.listing.KeyOrder.{between, first_of_name, first_of_directory}

pub named_by : (name : List ℕ) (o : Option (List ℕ)) → is_named name o ≡ true → o ≡ Some name
named_by name None h = cc
named_by name (Some other) h = ap (λ n. Some n) (sym ((bytes_eq-Decides name other).0 h))

pub names : (name : List ℕ) → is_named name (Some name) ≡ true
names name = (bytes_eq-Decides name name).1 refl

module _ (keys : List ChildKey) (p : ℕ) (name : List ℕ) (k : ChildKey)
    (least : (q : ChildKey) → is_gt (key_cmp (p, Some name, 0) q) ≡ false → has_child keys q ≡ true → is_gt (key_cmp k q) ≡ false)
    (from : is_gt (key_cmp (p, Some name, 0) k) ≡ false) where
  close : (j : ℕ) → has_child keys (p, Some name, j) ≡ true → (k.0 ≡ p) × (k.1 ≡ Some name) × (k.2 ≤ j)
  close j has = between p (Some name) j k from (least (p, Some name, j) (first_of_name p (Some name) j) has)

  pub is_least : (j : ℕ) → has_child keys (p, Some name, j) ≡ true → k.2 ≤ j
  is_least j has = (close j has).2

  pub no_child : ((eqb k.0 p) && is_named name k.1) ≡ false → (j : ℕ) → has_child keys (p, Some name, j) ≡ false
  no_child other j = ⊎_elim
      (λ has.
      let at = close j has in
      let yes = and_from (eqb k.0 p) (is_named name k.1) (eq-eqb k.0 p at.0) (ap (is_named name) at.1 ∙ names name) in
      cc)
      (λ none. none)
      (cases_Bool (has_child keys (p, Some name, j)))

pub low_in_directory : (p : ℕ) (q : ChildKey) → q.0 ≡ p → is_gt (key_cmp (p, None, 0) q) ≡ false
low_in_directory p q at = ap (λ x. is_gt (key_cmp (p, None, 0) (x, q.1, q.2))) at ∙ first_of_directory p q.1 q.2
