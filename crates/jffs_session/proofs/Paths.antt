-- Where paths lead in files that keep the rules, and what stays of that.
use Rattle.std.proofs.Common.{◌≡◌, ℕ, true, false, eqb, T, List, [], ◌∷◌, option_map, option_and_then, Option, Some, None, refl, sym, ap, subst, ◌∙◌, nat_cmp}
use Rattle.std.specs.List.{find}
use Rattle.std.specs.FinMap.Entries as entries
use Rattle.std.proofs.lemmas.Bool.{eqb-true, and_parts}
use Rattle.std.proofs.lemmas.Option.{same_Some}
use Rattle.jffs_inodes.specs.Held.{Entry}
use Rattle.jffs_tree.specs.State.{State, at, is_child, child, resolve_from, is_directory_in}
use Rattle.jffs_tree.proofs.states.States.{found_at}
use Rattle.jffs_tree.proofs.states.Pointwise.{sorted-state}
use Rattle.jffs_tree.proofs.states.Ruled.{kept_rules}
use Rattle.jffs_tree.proofs.decisions.Copies.{same_bytes}
use Rattle.jffs_tree.proofs.decisions.Resolving.{no_child}
use Rattle.jffs_core.specs.CoreState.{CoreState}
use Rattle.jffs_core.proofs.answers.Done.{state_known}
use Rattle.jffs_session.specs.Session.{IsMounted, files}

-- Each entry stands in a directory, and no two under one name.
pub record IsSound (s : State) : Type 0 where
  pub sorted : T (entries.is_sorted nat_cmp s)
  pub parents : (j : ℕ) (f : Entry) → at s j ≡ Some f → is_directory_in s f.parent ≡ true
  pub names : (j k : ℕ) (f g : Entry) → at s j ≡ Some f → at s k ≡ Some g → f.parent ≡ g.parent → f.name ≡ g.name → j ≡ k

-- so are the files of a mounted core that works
pub sound_files : (c : CoreState) → IsMounted c → c.failed ≡ false → IsSound (files c)
sound_files c m works =
    let r = m.represents in
    let s = r.stands in
    let k = s.working works in
    let h = k.history in
    let rules = h.rules in
    let ruled = kept_rules m.past rules.lawful in
    let o = ruled.orderly in
    subst IsSound (sym (state_known m.past c k)) (record { sorted = sorted-state m.past; parents = o.parents; names = o.names })

-- A child that is found stands there under that name.
pub child_found : (s : State) (p : ℕ) (name : List ℕ) (i : ℕ) → T (entries.is_sorted nat_cmp s) → child s p name ≡ Some i → (e : Entry) × (at s i ≡ Some e) × (e.parent ≡ p) × (e.name ≡ name)
child_found s p name i sorted is = by_found (find (is_child p name) s) refl is
  where
    by_found : (o : Option (ℕ × Entry)) → find (is_child p name) s ≡ o → option_map (λ x. x.0) o ≡ Some i → (e : Entry) × (at s i ≡ Some e) × (e.parent ≡ p) × (e.name ≡ name)
    by_found None found is = cc
    by_found (Some x) found is =
        let there = found_at (is_child p name) s x sorted found in
        let parts = and_parts (eqb x.1.parent p) _ there.1 in
        let same : x.0 ≡ i = same_Some x.0 i is in
        (x.1, ap (at s) (sym same) ∙ there.0, eqb-true x.1.parent p parts.0, same_bytes x.1.name name parts.1)

-- What stands in a directory is found there.
pub only_child : (s : State) → IsSound s → (p : ℕ) (name : List ℕ) (i : ℕ) (e : Entry) → at s i ≡ Some e → e.parent ≡ p → e.name ≡ name → child s p name ≡ Some i
only_child s sound p name i e is parent named = by_child (child s p name) refl
  where
    by_child : (o : Option ℕ) → child s p name ≡ o → o ≡ Some i
    by_child None none = absurd (no_child s p name none i e is parent named)
    by_child (Some j) found =
        let f = child_found s p name j sound.sorted found in
        ap (λ k. Some k) (sound.names j i f.0 e f.1 is (f.2 ∙ sym parent) (f.3 ∙ sym named))

-- Where no entry stands under a name, none is found.
pub childless : (s : State) (p : ℕ) (name : List ℕ) → T (entries.is_sorted nat_cmp s) → ((j : ℕ) (f : Entry) → at s j ≡ Some f → f.parent ≡ p → f.name ≡ name → ⊥) → child s p name ≡ None
childless s p name sorted none = by_child (child s p name) refl
  where
    by_child : (o : Option ℕ) → child s p name ≡ o → o ≡ None
    by_child None is = refl
    by_child (Some j) is = let f = child_found s p name j sorted is in absurd (none j f.0 f.1 f.2 f.3)

-- Where the entries that aren't gone stay, and no directory is gone, a path leads where it led, unless that is gone.
module _ (s t : State) (sound : IsSound s) (after : IsSound t) (Gone : ℕ → Type 0)
    (kept : (c : ℕ) (e : Entry) → at s c ≡ Some e → (Gone c → ⊥) → at t c ≡ Some e) (directories : (c : ℕ) → is_directory_in s c ≡ true → Gone c → ⊥) where
  on_the_way : (names : List (List ℕ)) (c y : ℕ) → resolve_from s c names ≡ Some y → (Gone y → ⊥) → Gone c → ⊥
  on_the_way [] c y is here gone = here (subst Gone (same_Some c y is) gone)
  on_the_way (name ∷ names) c y is here gone = by_child (child s c name) refl is
    where
      by_child : (o : Option ℕ) → child s c name ≡ o → option_and_then (λ d. resolve_from s d names) o ≡ Some y → ⊥
      by_child None was is = cc
      by_child (Some d) was is =
          let f = child_found s c name d sound.sorted was in
          directories c (ap (is_directory_in s) (sym f.2) ∙ sound.parents d f.0 f.1) gone

  pub still_leads : (names : List (List ℕ)) (x y : ℕ) → resolve_from s x names ≡ Some y → (Gone y → ⊥) → resolve_from t x names ≡ Some y
  still_leads [] x y is here = is
  still_leads (name ∷ names) x y is here = by_child (λ c r. still_leads names c y r here) (child s x name) refl is
    where
      by_child : ((c : ℕ) → resolve_from s c names ≡ Some y → resolve_from t c names ≡ Some y) → (o : Option ℕ) → child s x name ≡ o → option_and_then (λ d. resolve_from s d names) o ≡ Some y
          → option_and_then (λ d. resolve_from t d names) (child t x name) ≡ Some y
      by_child onward None was is = cc
      by_child onward (Some c) was is =
          let f = child_found s x name c sound.sorted was in
          let stays = kept c f.0 f.1 (on_the_way names c y is here) in
          ap (λ o. option_and_then (λ d. resolve_from t d names) o) (only_child t after x name c f.0 stays f.2 f.3) ∙ onward c is
