-- A view that shows an answer shows its step.
use Rattle.std.proofs.Common.{◌≡◌, ◌⊎◌, ℕ, ◌+◌, ◌==◌, ◌&&◌, true, false, List, [], ◌∷◌, ◌++◌, length, fold, refl, sym, ap, ◌∙◌, inl, inr, Bool, Some, if◌then◌else◌, eqb-true, arith}
use Rattle.std.proofs.lemmas.Bool.{and_parts}
use Rattle.std.proofs.lemmas.List.Sums.{fold-append}
use Rattle.std.proofs.lemmas.Option.{same_Some, none-some}
use Rattle.jffs_tree.specs.declared.wish.Outcome.{Outcome}
use Rattle.jffs_index.specs.declared.step.Step.{Step}
use Rattle.jffs_index.specs.Shown.{Shown, opened, after_step}
use Rattle.jffs_index.specs.Histories.{view_of}
use Rattle.jffs_index.specs.Outcomes.{outcome_at}
use Rattle.jffs_index.specs.Seen.{AnswersShowTheirNodes, AnswersAreCounted}
use Rattle.jffs_index.proofs.Entered.{found_entered}
use Rattle.jffs_index.proofs.Kept.{answered-fold}

-- a step among these that gave the request this outcome
record IsAmong (steps : List Step) (writer seq : ℕ) (outcome : Outcome) : Type 0 where
  before : List Step
  step : Step
  after : List Step
  steps_are : steps ≡ before ++ step ∷ after
  sender_is : step.writer ≡ writer
  number_is : step.seq ≡ seq
  outcome_is : step.outcome ≡ outcome

later : (t : Step) (steps : List Step) (writer seq : ℕ) (outcome : Outcome) → IsAmong steps writer seq outcome → IsAmong (t ∷ steps) writer seq outcome
later t steps writer seq outcome found = record {
  before = t ∷ found.before;
  step = found.step;
  after = found.after;
  steps_are = ap (λ (l : List Step). t ∷ l) found.steps_are;
  sender_is = found.sender_is;
  number_is = found.number_is;
  outcome_is = found.outcome_is;
}

-- what is shown was shown before these steps, or one of them gave it
shown_before :
    (x : Shown) (steps : List Step) (writer seq : ℕ) (outcome : Outcome)
    → outcome_at (fold after_step x steps).outcomes writer seq ≡ Some outcome
    → (outcome_at x.outcomes writer seq ≡ Some outcome) ⊎ IsAmong steps writer seq outcome
shown_before x [] writer seq outcome has = inl has
shown_before x (t ∷ steps) writer seq outcome has = elim (shown_before (after_step x t) steps writer seq outcome has) [
  | inr found ↦ inr (later t steps writer seq outcome found)
  | inl here ↦ by_test here ((t.writer == writer) && (t.seq == seq)) refl (found_entered x.outcomes t.writer t.seq writer seq t.outcome)
]
  where
    by_test :
        outcome_at (after_step x t).outcomes writer seq ≡ Some outcome → (same : Bool) → (t.writer == writer) && (t.seq == seq) ≡ same
        → outcome_at (after_step x t).outcomes writer seq ≡ (if same then Some t.outcome else outcome_at x.outcomes writer seq)
        → (outcome_at x.outcomes writer seq ≡ Some outcome) ⊎ IsAmong (t ∷ steps) writer seq outcome
    by_test here true same entered =
        let both = and_parts (t.writer == writer) (t.seq == seq) same in
        inr (record {
          before = [];
          step = t;
          after = steps;
          steps_are = refl;
          sender_is = eqb-true t.writer writer both.0;
          number_is = eqb-true t.seq seq both.1;
          outcome_is = same_Some t.outcome outcome (sym entered ∙ here);
        })
    by_test here false other entered = inl (sym entered ∙ here)

pub answers_show_their_nodes : AnswersShowTheirNodes
answers_show_their_nodes h writer seq outcome has = elim (shown_before (opened h.opening) h.steps writer seq outcome has) [
  | inl opening ↦ absurd (none-some outcome opening)
  | inr found ↦ record {
    before = found.before;
    step = found.step;
    after = found.after;
    steps_are = found.steps_are;
    sender_is = found.sender_is;
    number_is = found.number_is;
    outcome_is = found.outcome_is;
    shown = ap (fold after_step (opened h.opening)) found.steps_are
        ∙ fold-append after_step (opened h.opening) found.before (found.step ∷ found.after);
  }
]

pub answers_are_counted : AnswersAreCounted
answers_are_counted h =
    let many : (view_of h).answered ≡ 0 + length h.steps = answered-fold (opened h.opening) h.steps in omega (arith, many)
