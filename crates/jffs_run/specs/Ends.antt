-- The hands of a run.
use Rattle.std.specs.Prelude.{◌≡◌, ℕ, ◌+◌, ◌<◌, List, [], ◌∷◌, length, take, eqb, cond}
use Rattle.std.specs.Prelude.{slice_index_or, Option, None}
use Rattle.std.specs.List.{AllByRecursion}
use Rattle.jffs_line.specs.Line.{End}
use Rattle.jffs_line.specs.declared.request.Request.{Request}
use Rattle.jffs_line.specs.declared.hand.Hand as Hand
use Rattle.jffs_text.specs.declared.command.Command.{Command}
use Rattle.jffs_text.specs.declared.script.Writer.{Writer}
use Rattle.jffs_serve.specs.Copies.{IsCopy}
use Rattle.jffs_text.specs.Wishes.{wishes_of}
use Rattle.jffs_run.specs.Numbered.{numbered}

-- each element has the property, at its slot counted from n on
abbrev pub EachFrom : {X : Type 0} → (ℕ → X → Type 0) → ℕ → List X → Type 0
EachFrom P n [] = Unit {0}
EachFrom P n (x ∷ xs) = P n x × EachFrom P (n + 1) xs

-- they ask for copies alone
abbrev pub AreCopies : List Request → Type 0
AreCopies requests = AllByRecursion (λ (r : Request). IsCopy r.wish) requests

-- they ask for copies alone, and for nothing where a cleaner is given no rounds
abbrev pub AskForCopies : Option ℕ → List Request → Type 0
AskForCopies rounds requests = AreCopies requests × (rounds ≡ None → requests ≡ [])

-- the element at this slot
abbrev pub HasAt : {X : Type 0} → List X → ℕ → X → Type 0
HasAt xs slot x = (slot < length xs) × (slice_index_or xs slot x ≡ x)

-- the commands of each writer
abbrev pub commands_of : List Writer → List (List Command)
commands_of [] = []
commands_of (writer ∷ writers) = writer.commands.items ∷ commands_of writers

-- the commands of the writer at this slot
abbrev pub commands_at : List Writer → ℕ → List Command
commands_at script slot = slice_index_or (commands_of script) slot []

module _ {H : Type 0} (g : Hand.Ghosts H) where
  abbrev pub end_of : H → End
  end_of hand = (g.sender hand, g.line hand)

  -- what the first of the hands with this sender accepted
  abbrev pub accepted_by : ℕ → List H → List Request
  accepted_by sender [] = []
  accepted_by sender (hand ∷ hands) =
      cond (eqb (g.sender hand) sender) (g.accepted hand) (accepted_by sender hands)

  -- the hand of the writer at this slot handed in the first of its commands
  abbrev pub HandedIn : List Writer → ℕ → H → Type 0
  HandedIn script slot hand = g.accepted hand
      ≡ numbered (g.sender hand) 1
      (take (length (g.accepted hand)) (wishes_of (commands_at script slot)))

  -- it handed in all of them
  abbrev pub HandedInAll : List Writer → ℕ → H → Type 0
  HandedInAll script slot hand = length (g.accepted hand) ≡ length (commands_at script slot)
