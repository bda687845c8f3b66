-- A state that keeps the rules keeps them when one inode is put or goes.
use Rattle.std.proofs.Common.{◌≡◌, ℕ, zero, suc, true, false, not, ◌||◌, eqb, T, [], ◌∷◌, ◌⊎◌, inl, inr, ⊎_elim, Option, Some, None, refl, sym, ap, subst, ◌∙◌, arith, nat_cmp}
use Rattle.std.specs.List.{list_any, list_all}
use Rattle.std.specs.Option.{option_map_or}
use Rattle.std.specs.FinMap.Entries as entries
use Rattle.std.proofs.Math.Bool.{or-false}
use Rattle.std.proofs.lemmas.Bool.{eqb-true, eq-eqb, and_parts, and_from, or_left, or_right, or_cases, cases_Bool, cases_eq, not_from_false, both_ways, not-true}
use Rattle.jffs_node.specs.Record.{is_directory}
use Rattle.jffs_inodes.specs.Held.{Entry}
use Rattle.jffs_tree.specs.State.{State, at, is_child, is_directory_in}
use Rattle.jffs_tree.specs.Check.{parents_are_there, names_differ, is_within}
use Rattle.jffs_tree.proofs.states.States.{all_at, all_from, none_at, none_from, at_cases}
use Rattle.jffs_marks.proofs.Maps.{tail_sorted, at_first, behind, at_later}
use Rattle.jffs_tree.proofs.decisions.Copies.{same_bytes}
use Rattle.std.proofs.lemmas.Slice.Eq.{bytes_eq-Decides}
use Rattle.std.proofs.lemmas.Option.{same_Some}

-- The rules of a state, inode by inode, with at most `most` names from the root to an inode.
pub record IsOrderly (most : ℕ) (s : State) : Type 0 where
  pub parents : (j : ℕ) (f : Entry) → at s j ≡ Some f → is_directory_in s f.parent ≡ true
  pub names : (j k : ℕ) (f g : Entry) → at s j ≡ Some f → at s k ≡ Some g → f.parent ≡ g.parent → f.name ≡ g.name → j ≡ k
  pub depth : (j : ℕ) (f : Entry) → at s j ≡ Some f → is_within most s j ≡ true

-- Directories.
root_there : (s : State) (j : ℕ) → j ≡ 1 → is_directory_in s j ≡ true
root_there s j top = or_left (eqb j 1) _ (eq-eqb j 1 top)

pub directory_there : (s : State) (j : ℕ) (e : Entry) → at s j ≡ Some e → is_directory e.kind ≡ true → is_directory_in s j ≡ true
directory_there s j e is d =
    or_right (eqb j 1) _ (or_left (option_map_or (λ x. is_directory x.kind) (at s j) false) false (ap (λ o. option_map_or (λ x. is_directory x.kind) o false) is ∙ d))

pub which_directory : (s : State) (j : ℕ) → is_directory_in s j ≡ true → (j ≡ 1) ⊎ ((e : Entry) × (at s j ≡ Some e) × (is_directory e.kind ≡ true))
which_directory s j h = ⊎_elim
    (λ top. inl (eqb-true j 1 top))
    (λ under. inr (by_entry (at s j) refl under))
    (or_cases (eqb j 1) (option_map_or (λ e. is_directory e.kind) (at s j) false || false) h)
  where
    by_entry : (o : Option Entry) → at s j ≡ o → (option_map_or (λ e. is_directory e.kind) o false || false) ≡ true → (e : Entry) × (at s j ≡ Some e) × (is_directory e.kind ≡ true)
    by_entry None is h = cc
    by_entry (Some e) is h = (e, is, sym (or-false (is_directory e.kind)) ∙ h)

-- Names lead from the root to the same inodes, where each inode on the way keeps its parent.
chained : (Q : ℕ → Type 0) (s t : State) → ((j : ℕ) (f : Entry) → Q j → at s j ≡ Some f → ((g : Entry) × (at t j ≡ Some g) × (g.parent ≡ f.parent)) × Q f.parent)
    → (k j : ℕ) → Q j → is_within k s j ≡ true → is_within k t j ≡ true
chained Q s t step zero j q h = h
chained Q s t step (suc k) j q h = ⊎_elim
    (λ top. or_left (eqb j 1) _ top)
    (λ up. by_entry (λ p q h. chained Q s t step k p q h) (at s j) refl up)
    (or_cases (eqb j 1) (option_map_or (λ e. is_within k s e.parent) (at s j) false) h)
  where
    by_entry : ((p : ℕ) → Q p → is_within k s p ≡ true → is_within k t p ≡ true) → (o : Option Entry) → at s j ≡ o → option_map_or (λ e. is_within k s e.parent) o false ≡ true → is_within (suc k) t j ≡ true
    by_entry onward None is h = cc
    by_entry onward (Some f) is h =
        let there = step j f q is in
        or_right (eqb j 1) _ (ap (λ o. option_map_or (λ e. is_within k t e.parent) o false) there.0.1 ∙ ap (λ p. is_within k t p) there.0.2 ∙ onward f.parent there.1 h)

-- one name more
pub one_more : (s : State) (k j : ℕ) (e : Entry) → at s j ≡ Some e → is_within k s e.parent ≡ true → is_within (suc k) s j ≡ true
one_more s k j e is h = or_right (eqb j 1) _ (ap (λ o. option_map_or (λ x. is_within k s x.parent) o false) is ∙ h)

-- and one less
pub one_less : (s : State) (k j : ℕ) (e : Entry) → (j ≡ 1 → ⊥) → at s j ≡ Some e → is_within (suc k) s j ≡ true → is_within k s e.parent ≡ true
one_less s k j e low is h = ⊎_elim
    (λ top. absurd (low (eqb-true j 1 top)))
    (λ up. sym (ap (λ o. option_map_or (λ x. is_within k s x.parent) o false) is) ∙ up)
    (or_cases (eqb j 1) (option_map_or (λ x. is_within k s x.parent) (at s j) false) h)

-- The state t has the entry e at the inode i, and all else as s has it.
pub record IsPutIn (k : ℕ) (s t : State) (i : ℕ) (e : Entry) : Type 0 where
  pub other : (j : ℕ) → (i ≡ j → ⊥) → at t j ≡ at s j
  pub here : at t i ≡ Some e
  pub low : i ≡ 1 → ⊥
  pub parent : is_directory_in s e.parent ≡ true
  pub free : (j : ℕ) (f : Entry) → at s j ≡ Some f → f.parent ≡ e.parent → f.name ≡ e.name → i ≡ j
  pub within : is_within k s e.parent ≡ true
  pub was : (f : Entry) → at s i ≡ Some f → is_directory f.kind ≡ true → (is_directory e.kind ≡ true) × (e.parent ≡ f.parent)

module _ (k : ℕ) (s t : State) (i : ℕ) (e : Entry) (old : IsOrderly (suc k) s) (p : IsPutIn k s t i e) where
  put_directories : (j : ℕ) → is_directory_in s j ≡ true → is_directory_in t j ≡ true
  put_directories j d = ⊎_elim
      (λ top. root_there t j top)
      (λ under. ⊎_elim
      (λ same. subst (λ x. is_directory_in t x ≡ true) same (directory_there t i e p.here (p.was under.0 (ap (at s) same ∙ under.1) under.2).0))
      (λ apart. directory_there t j under.0 (p.other j apart ∙ under.1) under.2)
      (cases_eq i j))
      (which_directory s j d)

  put_step : (j : ℕ) (f : Entry) → is_directory_in s j ≡ true → at s j ≡ Some f → ((g : Entry) × (at t j ≡ Some g) × (g.parent ≡ f.parent)) × (is_directory_in s f.parent ≡ true)
  put_step j f d is = ⊎_elim
      (λ same.
      let there = ap (at s) same ∙ is in
      let kind : is_directory f.kind ≡ true = ⊎_elim
      (λ top. absurd (p.low (same ∙ top)))
      (λ under. let this = same_Some under.0 f (sym under.1 ∙ is) in ap (λ x. is_directory x.kind) (sym this) ∙ under.2)
      (which_directory s j d) in
      ((e, sym (ap (at t) same) ∙ p.here, (p.was f there kind).1), old.parents j f is))
      (λ apart. ((f, p.other j apart ∙ is, refl), old.parents j f is))
      (cases_eq i j)

  which : (j : ℕ) (f : Entry) → at t j ≡ Some f → ((i ≡ j) × (e ≡ f)) ⊎ (at s j ≡ Some f)
  which j f is = ⊎_elim
      (λ same. let this = same_Some e f (sym p.here ∙ ap (at t) same ∙ is) in inl (same, this))
      (λ apart. inr (sym (p.other j apart) ∙ is))
      (cases_eq i j)

  up : (j : ℕ) → is_directory_in s j ≡ true → is_within k s j ≡ true → is_within k t j ≡ true
  up j d h = chained (λ x. is_directory_in s x ≡ true) s t put_step k j d h

  put_depth : (j : ℕ) (f : Entry) → at t j ≡ Some f → is_within (suc k) t j ≡ true
  put_depth j f is = ⊎_elim
      (λ here.
      one_more t k j f is (subst (λ x. is_within k t x.parent ≡ true) here.1 (up e.parent p.parent p.within)))
      (λ there. ⊎_elim
      (λ top. or_left (eqb j 1) _ (eq-eqb j 1 top))
      (λ low. one_more t k j f is (up f.parent (old.parents j f there) (one_less s k j f low there (old.depth j f there))))
      (cases_eq j 1))
      (which j f is)

  pub put_keeps : IsOrderly (suc k) t
  put_keeps = record {
    parents = λ j f is. ⊎_elim
        (λ here. put_directories f.parent (subst (λ x. is_directory_in s x.parent ≡ true) here.1 p.parent))
        (λ there. put_directories f.parent (old.parents j f there))
        (which j f is);
    names = λ j l f g is was parent name. ⊎_elim
        (λ here. ⊎_elim
        (λ also. sym here.0 ∙ also.0)
        (λ there. sym here.0 ∙ p.free l g there (sym parent ∙ ap (λ x. x.parent) (sym here.1)) (sym name ∙ ap (λ x. x.name) (sym here.1)))
        (which l g was))
        (λ there. ⊎_elim
        (λ here. sym (p.free j f there (parent ∙ ap (λ x. x.parent) (sym here.1)) (name ∙ ap (λ x. x.name) (sym here.1))) ∙ here.0)
        (λ also. old.names j l f g there also parent name)
        (which l g was))
        (which j f is);
    depth = put_depth;
  }

-- The state t has nothing at the inode i, which is no parent, and all else as s has it.
pub record IsGoneIn (s t : State) (i : ℕ) : Type 0 where
  pub other : (j : ℕ) → (i ≡ j → ⊥) → at t j ≡ at s j
  pub here : at t i ≡ None
  pub empty : (j : ℕ) (f : Entry) → at s j ≡ Some f → i ≡ f.parent → ⊥

module _ (most : ℕ) (s t : State) (i : ℕ) (old : IsOrderly most s) (p : IsGoneIn s t i) where
  left : (j : ℕ) (f : Entry) → at t j ≡ Some f → (i ≡ j → ⊥) × (at s j ≡ Some f)
  left j f is = ⊎_elim
      (λ same. let none : None ≡ Some f = sym p.here ∙ ap (at t) same ∙ is in absurd (cc))
      (λ apart. (apart, sym (p.other j apart) ∙ is))
      (cases_eq i j)

  gone_directories : (j : ℕ) → (i ≡ j → ⊥) → is_directory_in s j ≡ true → is_directory_in t j ≡ true
  gone_directories j apart d = ap (λ o. eqb j 1 || (option_map_or (λ x. is_directory x.kind) o false || false)) (p.other j apart) ∙ d

  pub gone_keeps : IsOrderly most t
  gone_keeps = record {
    parents = λ j f is. let there = (left j f is).1 in gone_directories f.parent (p.empty j f there) (old.parents j f there);
    names = λ j l f g is was parent name. old.names j l f g (left j f is).1 (left l g was).1 parent name;
    depth = λ j f is.
        let there = left j f is in
        chained (λ x. i ≡ x → ⊥) s t (λ x g apart here. ((g, p.other x apart ∙ here, refl), p.empty x g here)) most j there.0 (old.depth j f there.1);
  }

-- The tests of a state say the same.
is_it : (f : Entry) (j : ℕ) (g : Entry) → f.parent ≡ g.parent → f.name ≡ g.name → is_child f.parent f.name (j, g) ≡ true
is_it f j g parent name = and_from (eqb g.parent f.parent) _ (eq-eqb g.parent f.parent (sym parent)) ((bytes_eq-Decides g.name f.name).1 (sym name))

pub names_apart : (s : State) (j k : ℕ) (f g : Entry) → names_differ s ≡ true → at s j ≡ Some f → at s k ≡ Some g → f.parent ≡ g.parent → f.name ≡ g.name → j ≡ k
names_apart [] j k f g h is was parent name = cc
names_apart (x ∷ s) j k f g h is was parent name =
    let parts = and_parts (not (list_any (is_child x.1.parent x.1.name) s)) (names_differ s) h in
    ⊎_elim
    (λ here. ⊎_elim
    (λ also. here.0 ∙ sym also.0)
    (λ there. absurd (twice x.1 s k g parts.0 there (ap (λ y. y.parent) here.1 ∙ parent) (ap (λ y. y.name) here.1 ∙ name)))
    (at_cases x s k g was))
    (λ there. ⊎_elim
    (λ here. absurd (twice x.1 s j f parts.0 there (ap (λ y. y.parent) here.1 ∙ sym parent) (ap (λ y. y.name) here.1 ∙ sym name)))
    (λ also. names_apart s j k f g parts.1 there also parent name)
    (at_cases x s k g was))
    (at_cases x s j f is)
  where
    twice : (f : Entry) (s : State) (k : ℕ) (g : Entry) → not (list_any (is_child f.parent f.name) s) ≡ true → at s k ≡ Some g → f.parent ≡ g.parent → f.name ≡ g.name → ⊥
    twice f s k g none is parent name =
        let no = none_at (is_child f.parent f.name) s k g (not-true (list_any (is_child f.parent f.name) s) none) is in
        let yes = is_it f k g parent name in
        both_ways (is_child f.parent f.name (k, g)) no yes

pub names_apart_from : (s : State) → T (entries.is_sorted nat_cmp s) → ((j k : ℕ) (f g : Entry) → at s j ≡ Some f → at s k ≡ Some g → f.parent ≡ g.parent → f.name ≡ g.name → j ≡ k) → names_differ s ≡ true
names_apart_from [] sorted h = refl
names_apart_from (x ∷ s) sorted h =
    and_from (not (list_any (is_child x.1.parent x.1.name) s)) (names_differ s)
    (not_from_false _ (none_from (is_child x.1.parent x.1.name) s (tail_sorted x s sorted) (λ j g is. ⊎_elim
    (λ yes.
    let parts = and_parts (eqb g.parent x.1.parent) _ yes in
    let same = h j x.0 g x.1 (at_later x s j g sorted is) (at_first x s) (eqb-true g.parent x.1.parent parts.0) (same_bytes g.name x.1.name parts.1) in
    let apart = behind x s j g sorted is in
    absurd (omega arith))
    (λ no. no)
    (cases_Bool (is_child x.1.parent x.1.name (j, g))))))
    (names_apart_from s (tail_sorted x s sorted) (λ j k f g is was. h j k f g (at_later x s j f sorted is) (at_later x s k g sorted was)))

pub orderly : (most : ℕ) (s : State) → parents_are_there s ≡ true → names_differ s ≡ true → list_all (λ (e : ℕ × Entry). is_within most s e.0) s ≡ true → IsOrderly most s
orderly most s parents names depth = record {
  parents = λ j f is. all_at (λ e. is_directory_in s e.1.parent) s j f parents is;
  names = λ j k f g is was parent name. names_apart s j k f g names is was parent name;
  depth = λ j f is. all_at (λ (e : ℕ × Entry). is_within most s e.0) s j f depth is;
}

pub rules_from : (most : ℕ) (s : State) → T (entries.is_sorted nat_cmp s) → IsOrderly most s
    → (parents_are_there s ≡ true) × (names_differ s ≡ true) × (list_all (λ (e : ℕ × Entry). is_within most s e.0) s ≡ true)
rules_from most s sorted h = (
  all_from (λ e. is_directory_in s e.1.parent) s sorted h.parents,
  names_apart_from s sorted h.names,
  all_from (λ (e : ℕ × Entry). is_within most s e.0) s sorted h.depth,
)
