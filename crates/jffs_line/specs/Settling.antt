-- All hands of a line, and what comes back where all its ends are taken back.
use Rattle.std.specs.Prelude.{◌≡◌, ℕ, List, [], ◌∷◌, ◌++◌, map, Contains}
use Rattle.std.specs.List.{All}
use Rattle.jffs_line.specs.declared.request.Request.{Request}
use Rattle.jffs_line.specs.declared.hand.Hands.{Hands}
use Rattle.jffs_line.specs.Requests.{of, IsNumbered}

-- all hands: those of the writers in order, the cleaner's and the control's
abbrev pub all_hands : {H : Type 0} → Hands H → List H
all_hands hands = hands.writers.items ++ hands.cleaner ∷ hands.control.hand ∷ []

module _ {H : Type 0} (sender : H → ℕ) (accepted : H → List Request) where
  -- Of each hand what it accepted, numbered 1, 2, 3, .., was taken or else waits; and of a sender
  -- that has no hand nothing was taken, and nothing waits.
  pub record IsSettled (hands : List H) (taken : ℕ → List Request) (waiting : List Request) :
      Type 0 where
    pub each : All (λ hand. taken (sender hand) ++ of (sender hand) waiting ≡ accepted hand) hands
    pub numbered : All (λ hand. IsNumbered (accepted hand)) hands
    pub others : (w : ℕ) → (Contains (map sender hands) w → ⊥) → taken w ++ of w waiting ≡ []

  -- So it was with some requests that are gone now: what was taken of each hand is a beginning of
  -- what it accepted.
  abbrev pub WasSettled : List H → (ℕ → List Request) → Type 0
  WasSettled hands taken = (waiting : List Request) × IsSettled hands taken waiting
