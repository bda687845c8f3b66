-- Where a version is of one inode's nodes alone, it is live in the tree where it is live in that
-- inode.
use Rattle.std.proofs.Common.{◌≡◌, ℕ, zero, suc, ◌+◌, ◌<◌, ◌⊎◌, ◌++◌, arith, Bool, true, false, cond, eqb, List, [], ◌∷◌, map, flat_map, option_map, option_to_list, ⊎_elim, Option, Some, None, refl, sym, ap, ◌∙◌}
use Rattle.std.specs.List.{list_any, find, range_with_len}
use Rattle.std.specs.Option.{option_map_or}
use Rattle.std.specs.Cmp.{both_ways}
use Rattle.std.proofs.Math.Bool.{or-false}
use Rattle.std.proofs.lemmas.Bool.{eqb-true, cases_Bool, or_cases}
use Rattle.std.proofs.lemmas.List.Folds.{list_any-append}
use Rattle.jffs_node.specs.declared.node.Node.{Node}
use Rattle.jffs_inodes.specs.Held.{Entry, Held, versions_held}
use Rattle.jffs_tree.specs.State.{state_of_past}
use Rattle.jffs_inodes.specs.Inodes.{Tree}
use Rattle.jffs_tree.specs.Origin.{entry, size_in, origin, newest, held, version_of, writers_of, tree_of, is_live}
use Rattle.jffs_tree.specs.Look.{holds_version, IsVersionOf}
use Rattle.jffs_tree.proofs.states.Pointwise.{at-state, sorted-state}
use Rattle.jffs_tree.proofs.decisions.Copies.{found_there}
use Rattle.jffs_tree.proofs.trees.Grown.{at-tree, held_at}
use Rattle.jffs_tree.proofs.states.Live.{live_by}
use Rattle.jffs_tree.proofs.states.Steps.{its_inode, of_newest, of_origin}

pub the_version : (v : ℕ) (o : Option ℕ) → list_any (λ w. eqb w v) (option_to_list o) ≡ true → o ≡ Some v
the_version v None h = cc
the_version v (Some w) h = ap (λ x. Some x) (eqb-true w v (sym (or-false (eqb w v)) ∙ h))

pub any_of : {A : Type 0} (p : A → Bool) (xs ys : List A) → list_any p (xs ++ ys) ≡ true → (list_any p xs ≡ true) ⊎ (list_any p ys ≡ true)
any_of p xs ys h = or_cases (list_any p xs) (list_any p ys) (sym (list_any-append p xs ys) ∙ h)

-- a version among those of a range stands at one of its offsets
pub from_range : (f : ℕ → Option ℕ) (v n a : ℕ) → list_any (λ w. eqb w v) (flat_map option_to_list (map f (range_with_len a n))) ≡ true → (p : ℕ) × (p < a + n) × (f p ≡ Some v)
from_range f v zero a h = cc
from_range f v (suc n) a h = ⊎_elim
    (λ here. (a, omega arith, the_version v (f a) here))
    (λ there. let later = from_range f v n (a + 1) there in (later.0, (let l = later.1 in omega arith), later.2))
    (any_of (λ w. eqb w v) (option_to_list (f a)) (flat_map option_to_list (map f (range_with_len (a + 1) n))) h)

pub named : (o : Option Node) (v : ℕ) → version_of o ≡ Some v → (m : Node) × (o ≡ Some m) × (m.version ≡ v)
named None v h = cc
named (Some m) v h = let same : m.version ≡ v = cc in (m, refl, same)

-- what holds a version is an inode of which a node has it
held_of_inode : (past : List Node) (v i j : ℕ) (e : Entry) → IsVersionOf past v i → list_any (λ w. eqb w v) (versions_held (held past (j, e))) ≡ true → j ≡ i
held_of_inode past v i j e own h = ⊎_elim
    (λ top.
    let m = named (newest past j) v (the_version v (version_of (newest past j)) top) in
    let of = of_newest (λ n. n.version ≡ v → n.inode ≡ i) j past m.0 own m.1 in
    sym (its_inode j m.0 of.0) ∙ of.1 m.2)
    (λ offset.
    let p = from_range (λ q. version_of (origin past j q)) v (size_in past j) 0 offset in
    let m = named (origin past j p.0) v p.2 in
    let of = of_origin (λ n. n.version ≡ v → n.inode ≡ i) j past p.0 m.0 own m.1 in
    sym (its_inode j m.0 of.0) ∙ of.1 m.2)
    (any_of (λ w. eqb w v) (option_to_list (version_of (newest past j))) (flat_map option_to_list (writers_of past j)) h)

-- the first element whose list has it
has_it : {X : Type 0} (test : ℕ → Bool) (f : X → List ℕ) (xs : List X) → list_any test (flat_map f xs) ≡ true
    → (x : X) × (find (λ y. list_any test (f y)) xs ≡ Some x) × (list_any test (f x) ≡ true)
has_it test f [] h = cc
has_it test f (x ∷ xs) h = ⊎_elim
    (λ here. (x, ap (λ b. cond b (Some x) (find (λ y. list_any test (f y)) xs)) here, here))
    (λ not_here.
    let rest = ⊎_elim (λ a. let never : ⊥ = cc in absurd never) (λ b. b) (any_of test (f x) (flat_map f xs) h) in
    let later = has_it test f xs rest in
    (later.0, ap (λ b. cond b (Some x) (find (λ y. list_any test (f y)) xs)) not_here ∙ later.1, later.2))
    (cases_Bool (list_any test (f x)))

module _ (past : List Node) (v i : ℕ) (own : IsVersionOf past v i) where
  abbrev here : (o : Option Entry) → Bool
  here o = option_map_or (λ e. list_any (λ w. eqb w v) (versions_held (held past (i, e)))) o false

  holds_here : holds_version (tree_of past) i v ≡ here (entry past i)
  holds_here = ap (λ o. option_map_or (λ h. list_any (λ w. eqb w v) (versions_held (i, h))) o false) (at-tree past i) ∙ by_entry (entry past i)
    where
      by_entry : (o : Option Entry) → option_map_or (λ h. list_any (λ w. eqb w v) (versions_held (i, h))) (option_map (λ e. held_at past i e) o) false ≡ here o
      by_entry None = refl
      by_entry (Some e) = refl

  to_live : (o : Option Entry) → entry past i ≡ o → here o ≡ true → is_live past v ≡ true
  to_live None is h = cc
  to_live (Some e) is h = live_by past v i e is h

  from_live : is_live past v ≡ true → here (entry past i) ≡ true
  from_live h =
      let found = has_it (λ w. eqb w v) versions_held (tree_of past) h in
      let there = found_there past (λ (g : ℕ × Held). list_any (λ w. eqb w v) (versions_held g)) (state_of_past past) found.0 (sorted-state past) found.1 in
      let holds : list_any (λ w. eqb w v) (versions_held (held past (found.0.0, there.0))) ≡ true = ap (λ g. list_any (λ w. eqb w v) (versions_held g)) (sym there.1) ∙ found.2 in
      let same : found.0.0 ≡ i = held_of_inode past v i found.0.0 there.0 own holds in
      ap here (ap (λ k. entry past k) (sym same) ∙ sym (at-state past found.0.0) ∙ there.2)
      ∙ ap (λ k. list_any (λ w. eqb w v) (versions_held (held past (k, there.0)))) (sym same) ∙ holds

pub live_whole : (past : List Node) (tree : Tree) (v i : ℕ) → tree ≡ tree_of past → IsVersionOf past v i → holds_version tree i v ≡ is_live past v
live_whole past tree v i is own =
    ap (λ t. holds_version t i v) is ∙ holds_here past v i own
    ∙ both_ways (here past v i own (entry past i)) (is_live past v) (λ h. to_live past v i own (entry past i) refl h) (λ h. from_live past v i own h)
