-- What a path leads to is there.
use Rattle.std.proofs.Common.{◌≡◌, ℕ, Bool, true, false, cond, length, option_map, is_some, List, [], ◌∷◌, ◌⊎◌, inl, inr, ⊎_elim, Option, Some, None, refl, sym, ap, ◌∙◌, nat_cmp, option_and_then}
use Rattle.std.specs.List as lists
use Rattle.std.specs.Option.{unwrap_or}
use Rattle.std.specs.Ordering.{eq_by_cmp}
use Rattle.std.specs.Cmp.{unsigned_tied}
use Rattle.std.proofs.lemmas.Bool.{cases_Bool, eq-eqb}
use Rattle.std.proofs.lemmas.Option.{same_Some}
use Rattle.jffs_inodes.specs.Held.{Entry, Held}
use Rattle.jffs_tree.specs.State.{State, at, child, is_child, resolve_from, resolve, is_directory_in}
use Rattle.jffs_inodes.specs.Inodes.{Tree, held_in}
use Rattle.jffs_tree.specs.Origin.{state_in}
use Rattle.jffs_tree.specs.Decide.{entry_of, nobody}
use Rattle.jffs_tree.proofs.trees.Looked.{entry_in}

child_there : (s : State) (parent : ℕ) (name : List ℕ) (i : ℕ) → child s parent name ≡ Some i → is_some (at s i) ≡ true
child_there [] parent name i is = cc
child_there (x ∷ s) parent name i is = ⊎_elim
    (λ here.
    let same = same_Some x.0 i (sym (ap (λ b. option_map (λ e. e.0) (cond b (Some x) (lists.find (is_child parent name) s))) here) ∙ is) in
    ap (λ b. is_some (cond b (Some x.1) (at s i))) (unsigned_tied i x.0 ∙ eq-eqb i x.0 (sym same)))
    (λ later.
    let found = child_there s parent name i (sym (ap (λ b. option_map (λ e. e.0) (cond b (Some x) (lists.find (is_child parent name) s))) later) ∙ is) in
    either (eq_by_cmp nat_cmp i x.0) x.1 (at s i) found)
    (cases_Bool (is_child parent name x))
  where
    either : (b : Bool) (e : Entry) (o : Option Entry) → is_some o ≡ true → is_some (cond b (Some e) o) ≡ true
    either true e o h = refl
    either false e o h = h

pub resolved_there : (s : State) (j i : ℕ) (names : List (List ℕ)) → resolve_from s j names ≡ Some i → ((length names ≡ 0) × (j ≡ i)) ⊎ (is_some (at s i) ≡ true)
resolved_there s j i [] is = let same : j ≡ i = cc in inl (refl, same)
resolved_there s j i (name ∷ names) is = by_child (λ k later. resolved_there s k i names later) (child s j name) refl is
  where
    by_child : ((k : ℕ) → resolve_from s k names ≡ Some i → ((length names ≡ 0) × (k ≡ i)) ⊎ (is_some (at s i) ≡ true)) → (o : Option ℕ) → child s j name ≡ o → resolve_from s j (name ∷ names) ≡ Some i → ((length (name ∷ names) ≡ 0) × (j ≡ i)) ⊎ (is_some (at s i) ≡ true)
    by_child onward None was is = let no : ◌≡◌ {A = Option ℕ} None (Some i) = sym (ap (λ o. option_and_then (λ c. resolve_from s c names) o) was) ∙ is in cc
    by_child onward (Some k) was is =
        let later : resolve_from s k names ≡ Some i = sym (ap (λ o. option_and_then (λ c. resolve_from s c names) o) was) ∙ is in
        ⊎_elim
        (λ last. inr (child_there s j name i (was ∙ ap (λ c. Some c) last.1)))
        (λ there. inr there)
        (onward k later)

held_there : (tree : Tree) (i : ℕ) → is_some (at (state_in tree) i) ≡ true → is_some (held_in tree i) ≡ true
held_there tree i h = same (held_in tree i) ∙ sym (ap (λ o. is_some o) (entry_in tree i)) ∙ h
  where
    same : (o : Option Held) → is_some o ≡ is_some (option_map (λ h. h.entry) o)
    same None = refl
    same (Some h) = refl

-- what names lead to, unless there are none
pub named_there : (tree : Tree) (names : List (List ℕ)) (i : ℕ) → resolve (state_in tree) names ≡ Some i → (length names ≡ 0 → ⊥) → is_some (held_in tree i) ≡ true
named_there tree names i is some = ⊎_elim
    (λ none. absurd (some none.0))
    (λ there. held_there tree i there)
    (resolved_there (state_in tree) 1 i names is)

-- what is no directory is not the root
pub not_root : (s : State) (i : ℕ) → 1 ≡ i → is_directory_in s i ≡ false → ⊥
not_root s i e other = let yes : is_directory_in s i ≡ true = sym (ap (λ k. is_directory_in s k) e) in cc

pub file_there : (tree : Tree) (names : List (List ℕ)) (i : ℕ) → resolve (state_in tree) names ≡ Some i → is_directory_in (state_in tree) i ≡ false → is_some (held_in tree i) ≡ true
file_there tree names i is file = ⊎_elim
    (λ none. absurd (not_root (state_in tree) i none.1 file))
    (λ there. held_there tree i there)
    (resolved_there (state_in tree) 1 i names is)

pub entry_found : (tree : Tree) (i : ℕ) (h : Held) → held_in tree i ≡ Some h → entry_of (state_in tree) i ≡ h.entry
entry_found tree i h is = ap (λ o. unwrap_or o nobody) (entry_in tree i ∙ ap (λ o. option_map (λ x. x.entry) o) is)
