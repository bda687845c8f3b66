-- What a view that shows an answer shows besides.
use Rattle.std.specs.Prelude.{◌≡◌, ℕ, List, ◌∷◌, ◌++◌, length, Some}
use Rattle.std.specs.List.{fold}
use Rattle.jffs_tree.specs.declared.wish.Outcome.{Outcome}
use Rattle.jffs_index.specs.declared.step.Step.{Step}
use Rattle.jffs_index.specs.declared.rule.History.{History}
use Rattle.jffs_index.specs.Shown.{after_step}
use Rattle.jffs_index.specs.Histories.{view_of}
use Rattle.jffs_index.specs.Outcomes.{outcome_at}

-- The history has a step that gave a request this outcome. Its view shows what that step and all
-- before it made, and what those after it made of that.
pub record ShowsStep (h : History) (writer seq : ℕ) (outcome : Outcome) : Type 0 where
  pub before : List Step
  pub step : Step
  pub after : List Step
  pub steps_are : h.steps ≡ before ++ step ∷ after
  pub sender_is : step.writer ≡ writer
  pub number_is : step.seq ≡ seq
  pub outcome_is : step.outcome ≡ outcome
  pub shown : view_of h
      ≡ fold after_step (after_step (view_of (record h { steps = before })) step) after

-- A view that shows how a request was answered shows the node of that answer.
abbrev pub AnswersShowTheirNodes : Type 0
AnswersShowTheirNodes =
    (h : History) (writer seq : ℕ) (outcome : Outcome)
    → outcome_at (view_of h).outcomes writer seq ≡ Some outcome → ShowsStep h writer seq outcome

-- A view shows as many answers as the history has steps.
abbrev pub AnswersAreCounted : Type 0
AnswersAreCounted = (h : History) → (view_of h).answered ≡ length h.steps
