-- Where a path leads.
use Rattle.std.proofs.Common.{◌≡◌, ℕ, zero, suc, ◌+◌, ◌-◌, ◌≤◌, true, false, eqb, T, take, get_or, length, option_map, option_and_then, unwrap_or, is_some, List, [], ◌∷◌, ⊎_elim, Option, Some, None, refl, sym, ap, ◌∙◌, arith, nat_cmp}
use Rattle.std.specs.List.{find}
use Rattle.std.specs.Option.{option_map_or}
use Rattle.std.specs.FinMap.Entries as entries
use Rattle.std.proofs.lemmas.Bool.{eqb-true, eq-eqb, and_parts, and_from, or_left, or_right, or_cases, both_ways}
use Rattle.std.proofs.lemmas.Slice.Eq.{bytes_eq-Decides}
use Rattle.jffs_inodes.specs.Held.{Entry}
use Rattle.jffs_tree.specs.State.{State, at, is_child, child, resolve_from, resolve, is_directory_in}
use Rattle.jffs_tree.specs.Check.{is_within}
use Rattle.jffs_tree.specs.Decide.{last_name, parent_in, has_parent, is_there, inode_at}
use Rattle.jffs_tree.proofs.states.States.{found_at, not_found}
use Rattle.jffs_tree.proofs.states.Kept.{one_more}

-- A child that is found stands there under that name, and where none is found none stands there.
child_is_there : (s : State) (p : ℕ) (name : List ℕ) (i : ℕ) → T (entries.is_sorted nat_cmp s) → child s p name ≡ Some i → (e : Entry) × (at s i ≡ Some e) × (e.parent ≡ p)
child_is_there s p name i sorted is = by_found (find (is_child p name) s) refl is
  where
    by_found : (o : Option (ℕ × Entry)) → find (is_child p name) s ≡ o → option_map (λ x. x.0) o ≡ Some i → (e : Entry) × (at s i ≡ Some e) × (e.parent ≡ p)
    by_found None found is = cc
    by_found (Some x) found is =
        let there = found_at (is_child p name) s x sorted found in
        let same : x.0 ≡ i = cc in
        (x.1, ap (at s) (sym same) ∙ there.0, eqb-true x.1.parent p (and_parts (eqb x.1.parent p) _ there.1).0)

pub no_child : (s : State) (p : ℕ) (name : List ℕ) → child s p name ≡ None → (j : ℕ) (f : Entry) → at s j ≡ Some f → f.parent ≡ p → f.name ≡ name → ⊥
no_child s p name none j f is parent same =
    let no = not_found (is_child p name) s j f (by_found (find (is_child p name) s) none) is in
    let yes = and_from (eqb f.parent p) _ (eq-eqb f.parent p parent) ((bytes_eq-Decides f.name name).1 same) in
    both_ways (is_child p name (j, f)) no yes
  where
    by_found : (o : Option (ℕ × Entry)) → option_map (λ x. x.0) o ≡ None → o ≡ None
    by_found None h = refl
    by_found (Some x) h = cc

-- More names may lead so far.
within_more : (k m : ℕ) (s : State) (i : ℕ) → k ≤ m → is_within k s i ≡ true → is_within m s i ≡ true
within_more zero zero s i l h = h
within_more zero (suc m) s i l h = or_left (eqb i 1) _ h
within_more (suc k) zero s i l h = absurd (omega arith)
within_more (suc k) (suc m) s i l h = ⊎_elim
    (λ top. or_left (eqb i 1) _ top)
    (λ up. or_right (eqb i 1) _ (by_entry (λ p g. within_more k m s p (omega arith) g) (at s i) up))
    (or_cases (eqb i 1) (option_map_or (λ e. is_within k s e.parent) (at s i) false) h)
  where
    by_entry : ((p : ℕ) → is_within k s p ≡ true → is_within m s p ≡ true) → (o : Option Entry) → option_map_or (λ e. is_within k s e.parent) o false ≡ true → option_map_or (λ e. is_within m s e.parent) o false ≡ true
    by_entry onward None h = cc
    by_entry onward (Some e) h = onward e.parent h

-- An inode is as deep as the path that leads to it is long.
pub led_within : (s : State) (sorted : T (entries.is_sorted nat_cmp s)) (names : List (List ℕ)) (k m j i : ℕ) → length names + k ≤ m → is_within k s j ≡ true → resolve_from s j names ≡ Some i → is_within m s i ≡ true
led_within s sorted [] k m j i l h is = let same : j ≡ i = cc in within_more k m s i (omega arith) (ap (λ x. is_within k s x) (sym same) ∙ h)
led_within s sorted (name ∷ names) k m j i l h is = by_child (λ c g r. led_within s sorted names (suc k) m c i (omega arith) g r) (child s j name) refl is
  where
    by_child : ((c : ℕ) → is_within (suc k) s c ≡ true → resolve_from s c names ≡ Some i → is_within m s i ≡ true) → (o : Option ℕ) → child s j name ≡ o → option_and_then (λ c. resolve_from s c names) o ≡ Some i → is_within m s i ≡ true
    by_child onward None was is = cc
    by_child onward (Some c) was is =
        let there = child_is_there s j name c sorted was in
        onward c (one_more s k c there.0 there.1 (ap (λ x. is_within k s x) there.2 ∙ h)) is

-- A path leads to the child of its last name, where its other names lead.
led_last : (s : State) (j : ℕ) (name : List ℕ) (names : List (List ℕ))
    → resolve_from s j (name ∷ names) ≡ option_and_then (λ p. child s p (get_or (name ∷ names) (length names) [])) (resolve_from s j (take (length names) (name ∷ names)))
led_last s j name [] = itself (child s j name)
  where
    itself : (o : Option ℕ) → option_and_then (λ c. Some c) o ≡ o
    itself None = refl
    itself (Some c) = refl
led_last s j name (next ∷ names) = by_child (λ c. led_last s c next names) (child s j name)
  where
    by_child : ((c : ℕ) → resolve_from s c (next ∷ names) ≡ option_and_then (λ p. child s p (get_or (next ∷ names) (length names) [])) (resolve_from s c (take (length names) (next ∷ names))))
        → (o : Option ℕ) → option_and_then (λ c. resolve_from s c (next ∷ names)) o
        ≡ option_and_then (λ p. child s p (get_or (next ∷ names) (length names) [])) (option_and_then (λ c. resolve_from s c (take (length names) (next ∷ names))) o)
    by_child onward None = refl
    by_child onward (Some c) = onward c

pub led_to_last : (s : State) (path : List (List ℕ)) (p : ℕ) → eqb (length path) 0 ≡ false → parent_in s path ≡ Some p → resolve s path ≡ child s p (last_name path)
led_to_last s [] p root is = cc
led_to_last s (name ∷ names) p root is =
    let less : length (name ∷ names) - 1 ≡ length names = omega arith in
    led_last s 1 name names
    ∙ ap (λ o. option_and_then (λ q. child s q (get_or (name ∷ names) (length names) [])) o) (ap (λ k. resolve s (take k (name ∷ names))) (sym less) ∙ is)
    ∙ ap (λ k. child s p (get_or (name ∷ names) k [])) (sym less)

-- what the tests of a path say
pub the_parent : (s : State) (path : List (List ℕ)) → has_parent s path ≡ true → (parent_in s path ≡ Some (unwrap_or (parent_in s path) 0)) × (is_directory_in s (unwrap_or (parent_in s path) 0) ≡ true)
the_parent s path h = by_parent (parent_in s path) h
  where
    by_parent : (o : Option ℕ) → option_map_or (λ i. is_directory_in s i) o false ≡ true → (o ≡ Some (unwrap_or o 0)) × (is_directory_in s (unwrap_or o 0) ≡ true)
    by_parent None h = cc
    by_parent (Some p) h = (refl, h)

pub value_of : {A : Type 0} (o : Option A) (d : A) → is_some o ≡ true → o ≡ Some (unwrap_or o d)
value_of None d h = cc
value_of (Some x) d h = refl

pub the_inode : (s : State) (path : List (List ℕ)) → is_there s path ≡ true → resolve s path ≡ Some (inode_at s path)
the_inode s path h = value_of (resolve s path) 0 h

pub nothing_there : (s : State) (path : List (List ℕ)) → is_there s path ≡ false → resolve s path ≡ None
nothing_there s path h = by_inode (resolve s path) h
  where
    by_inode : (o : Option ℕ) → is_some o ≡ false → o ≡ None
    by_inode None h = refl
    by_inode (Some i) h = cc
