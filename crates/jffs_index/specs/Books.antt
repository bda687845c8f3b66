-- The rule of the book, and what its step says.
use Rattle.std.specs.Prelude.{ℕ, ◌≡◌, true, List, [], ◌∷◌, ◌++◌, length, None}
use Rattle.logbook.specs.Pages.{Cell, Step as Change, View, Book, Named}
use Rattle.jffs_tree.specs.declared.wish.Outcome.TheVariants.{Closed}
use Rattle.jffs_index.specs.declared.step.Step.{Step}

-- the first word is the number of steps of the history. A book has two words, of which this one
-- leaves the second at 0
abbrev pub IsCounted : List Cell → List Step → Type 0
IsCounted cells steps = cells ≡ (length steps, true) ∷ (0, true) ∷ []

abbrev pub head_of : Book → Named
head_of b = record { tracked = true; key = 0; book = b }

-- where the length that was found is the one that was known, the batch stands after all that was
-- known
abbrev pub Adds : List Step → Change Step → View Step ℕ → ℕ → View Step ℕ → Type 0
Adds batch s v found w = found ≡ s.old → w.0 ≡ v.0 ++ batch

-- an exchange names its steps by a batch
abbrev pub no_step : Step
no_step = record { writer = 0; seq = 0; outcome = Closed; node = None }
