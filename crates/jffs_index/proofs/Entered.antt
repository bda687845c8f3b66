-- Outcomes that are entered and taken back.
use Rattle.std.proofs.Common.{◌≡◌, ℕ, Bool, true, false, cond, ◌&&◌, eqb, [], ◌∷◌, Some, None, refl, sym, ap, subst, ◌∙◌}
use Rattle.std.specs.declared.cmp.Ordering.{Ordering}
use Rattle.std.specs.declared.cmp.Ordering.TheVariants.{Less, Equal, Greater}
use Rattle.std.specs.Ordering.{nat_cmp, is_eq, match_ordering}
use Rattle.std.specs.Cmp.{unsigned_ties, both_tied}
use Rattle.std.specs.Map.{lookup, remove_entry}
use Rattle.std.specs.BTreeMap.{insert_entry, is_at}
use Rattle.std.proofs.lemmas.Bool.{eqb-true, eq-eqb, and_parts, true≢false, cond-true}
use Rattle.jffs_marks.proofs.Marking.{same_either_way}
use Rattle.jffs_tree.specs.declared.wish.Outcome.{Outcome}
use Rattle.jffs_index.specs.Outcomes.{Outcomes, request_cmp, outcome_at, with_outcome}

-- two requests tie only where they are the same
same_request : (writer seq w s : ℕ) → is_at (request_cmp (writer, seq)) (w, s) ≡ (eqb writer w && eqb seq s)
same_request writer seq w s =
    sym (both_tied (eqb writer w) (eqb seq s) (nat_cmp writer w) (nat_cmp seq s) (unsigned_ties writer w) (unsigned_ties seq s))

pub tied_same : (k q : ℕ × ℕ) → is_eq (request_cmp k q) ≡ true → k ≡ q
tied_same k q at =
    let both = and_parts _ _ (sym (same_request k.0 k.1 q.0 q.1) ∙ at) in
    λ i. (eqb-true k.0 q.0 both.0 i, eqb-true k.1 q.1 both.1 i)

pub at_itself : (k : ℕ × ℕ) → is_eq (request_cmp k k) ≡ true
at_itself k = same_request k.0 k.1 k.0 k.1 ∙ (λ i. eq-eqb k.0 k.0 refl i && eq-eqb k.1 k.1 refl i)

module _ (k q : ℕ × ℕ) (v : Outcome) where
  found_step : (e : (ℕ × ℕ) × Outcome) (es more : Outcomes) → lookup (is_at (request_cmp q)) more ≡ cond (is_eq (request_cmp q k)) (Some v) (lookup (is_at (request_cmp q)) es)
      → (o : Ordering) → request_cmp k e.0 ≡ o
      → lookup (is_at (request_cmp q)) (match_ordering o ((k, v) ∷ e ∷ es) ((e.0, v) ∷ es) (e ∷ more)) ≡ cond (is_eq (request_cmp q k)) (Some v) (lookup (is_at (request_cmp q)) (e ∷ es))
  found_step e es more rest Less is = refl
  found_step e es more rest Equal is =
      let same : k ≡ e.0 = tied_same k e.0 (ap is_eq is) in
      subst (λ (j : ℕ × ℕ). cond (is_eq (request_cmp q j)) (Some v) (lookup (is_at (request_cmp q)) es) ≡ cond (is_eq (request_cmp q k)) (Some v) (cond (is_eq (request_cmp q j)) (Some e.1) (lookup (is_at (request_cmp q)) es))) same
      (shadowed (is_eq (request_cmp q k)))
    where
      shadowed : (b : Bool) → cond b (Some v) (lookup (is_at (request_cmp q)) es) ≡ cond b (Some v) (cond b (Some e.1) (lookup (is_at (request_cmp q)) es))
      shadowed true = refl
      shadowed false = refl
  found_step e es more rest Greater is =
      ap (λ o. cond (is_eq (request_cmp q e.0)) (Some e.1) o) rest ∙ swapped (is_eq (request_cmp q e.0)) (is_eq (request_cmp q k)) apart
    where
      apart : is_eq (request_cmp q e.0) ≡ true → is_eq (request_cmp q k) ≡ true → ⊥
      apart one two =
          let same : k ≡ e.0 = sym (tied_same q k two) ∙ tied_same q e.0 one in
          let tied : is_eq (request_cmp k e.0) ≡ true = subst (λ (j : ℕ × ℕ). is_eq (request_cmp k j) ≡ true) same (at_itself k) in
          true≢false (sym tied ∙ ap is_eq is)

      swapped : (a b : Bool) → (a ≡ true → b ≡ true → ⊥) → cond a (Some e.1) (cond b (Some v) (lookup (is_at (request_cmp q)) es)) ≡ cond b (Some v) (cond a (Some e.1) (lookup (is_at (request_cmp q)) es))
      swapped true true never = absurd (never refl refl)
      swapped true false never = refl
      swapped false b never = refl

  found_at : (es : Outcomes) → lookup (is_at (request_cmp q)) (insert_entry request_cmp es k v) ≡ cond (is_eq (request_cmp q k)) (Some v) (lookup (is_at (request_cmp q)) es)
  found_at [] = refl
  found_at (e ∷ es) = found_step e es (insert_entry request_cmp es k v) (found_at es) (request_cmp k e.0) refl

-- what is found after an outcome was entered
pub found_entered : (outcomes : Outcomes) (writer seq w s : ℕ) (outcome : Outcome)
    → outcome_at (with_outcome outcomes writer seq outcome) w s ≡ cond (eqb writer w && eqb seq s) (Some outcome) (outcome_at outcomes w s)
found_entered outcomes writer seq w s outcome =
    found_at (writer, seq) (w, s) outcome outcomes
    ∙ ap (λ b. cond b (Some outcome) (outcome_at outcomes w s)) (same_request w s writer seq ∙ (λ i. same_either_way w writer i && same_either_way s seq i))

module _ (k : ℕ × ℕ) (v : Outcome) where
  back_step : (e : (ℕ × ℕ) × Outcome) (es more : Outcomes) → (lookup (is_at (request_cmp k)) es ≡ None → remove_entry (is_at (request_cmp k)) more ≡ es)
      → (o : Ordering) → request_cmp k e.0 ≡ o → cond (is_eq o) (Some e.1) (lookup (is_at (request_cmp k)) es) ≡ None
      → remove_entry (is_at (request_cmp k)) (match_ordering o ((k, v) ∷ e ∷ es) ((e.0, v) ∷ es) (e ∷ more)) ≡ e ∷ es
  back_step e es more rest Less is none = cond-true _ _ _ (at_itself k)
  back_step e es more rest Equal is none = cc
  back_step e es more rest Greater is none =
      ap (λ o. cond (is_eq o) more (e ∷ remove_entry (is_at (request_cmp k)) more)) is ∙ ap (λ (z : Outcomes). e ∷ z) (rest none)

  pub back_at : (es : Outcomes) → lookup (is_at (request_cmp k)) es ≡ None → remove_entry (is_at (request_cmp k)) (insert_entry request_cmp es k v) ≡ es
  back_at [] none = cond-true _ _ _ (at_itself k)
  back_at (e ∷ es) none = back_step e es (insert_entry request_cmp es k v) (back_at es) (request_cmp k e.0) refl none

-- an outcome that was entered stands there
pub entered_there : (outcomes : Outcomes) (writer seq : ℕ) (outcome : Outcome) → outcome_at (with_outcome outcomes writer seq outcome) writer seq ≡ Some outcome
entered_there outcomes writer seq outcome =
    found_entered outcomes writer seq writer seq outcome
    ∙ (λ i. cond (eq-eqb writer writer refl i && eq-eqb seq seq refl i) (Some outcome) (outcome_at outcomes writer seq))
