-- The rule of the shared line.
use Rattle.std.specs.Prelude.{◌≡◌, ◌≢◌, ℕ, zero, suc, ◌+◌, ◌<◌, ◌⊎◌, Bool, true, false, List, []}
use Rattle.std.specs.Prelude.{◌∷◌, ◌++◌, map, take, drop}
use Rattle.std.specs.List.{All}
use mathlib.Core.Option.{some}
use lib.ListN.{get_elem?}
use Rattle.jffs_line.specs.declared.request.Request.{Request}
use Rattle.jffs_line.specs.declared.knows.Sent.{Sent}
use Rattle.jffs_line.specs.declared.knows.Knows.{Knows}
use Rattle.jffs_line.specs.Requests.{of}
use Rattle.jffs_line.specs.declared.hand.TheConstants.{CLEANER, CONTROL, MOST_WRITERS}

abbrev pub sent_by : ℕ → List Request → Sent
sent_by w rs = record { sender = w; accepted = rs }

abbrev pub knows : Bool → List Request → List Sent → Knows
knows takes taken sent = record { takes = takes; taken = taken; sent = sent }

-- a hand's pass speaks for one sender
abbrev pub hand_knows : ℕ → List Request → Knows
hand_knows w rs = knows false [] (sent_by w rs ∷ [])

-- n senders from w on, none of which has handed in anything
abbrev pub silent : ℕ → ℕ → List Sent
silent w zero = []
silent w (suc n) = sent_by w [] ∷ silent (w + 1) n

-- the pass that speaks for these senders knows all of what is in the line of them, taken or waiting
abbrev pub Told : List Request → List Sent → Type 0
Told all sent = All (λ (s : Sent). s.accepted ≡ of s.sender all) sent

-- a pass speaks for the senders that are given to it, and one pass takes
abbrev pub Fits : (ℕ → ℕ) → ℕ → List Request → List Request → ℕ → Knows → Type 0
Fits holder taker taken waiting pass v =
    All (λ (s : Sent). holder s.sender ≡ pass) v.sent × Told (taken ++ waiting) v.sent
    × (v.takes ≡ true → (pass ≡ taker) × (v.taken ≡ taken))

-- senders are numbered 1 to 10
abbrev pub IsStranger : ℕ → Type 0
IsStranger w = (w ≡ 0) ⊎ (CONTROL < w)

-- each sender has one pass that speaks for it and knows what it handed in: what was taken of it and
-- then what waits of it
pub record InOrder (waiting : List Request) (views : List Knows) : Type 0 where
  pub holder : ℕ → ℕ
  pub taker : ℕ
  pub taken : List Request
  pub strangers : (w : ℕ) → IsStranger w → of w (taken ++ waiting) ≡ []
  pub passes : (pass : ℕ) (v : Knows) → get_elem? views pass ≡ some v
      → Fits holder taker taken waiting pass v

-- what any pass learns of the line at one moment
pub record Learned (v : Knows) (waiting : List Request) : Type 0 where
  pub taken : List Request
  pub told : Told (taken ++ waiting) v.sent
  pub strangers : (w : ℕ) → IsStranger w → of w (taken ++ waiting) ≡ []
  pub same : v.takes ≡ true → v.taken ≡ taken

-- the maker's pass speaks for all senders: the cleaner, the control and eight writers
abbrev pub maker_knows : Knows
maker_knows = knows true [] (sent_by CLEANER [] ∷ sent_by CONTROL [] ∷ silent 1 MOST_WRITERS)

-- what a step tells: of the pass before, the request, and the pass after
abbrev pub HandsIn : Knows → Request → Knows → Type 0
HandsIn v x u =
    u ≡ knows v.takes v.taken (map (λ (s : Sent). sent_by s.sender (s.accepted ++ x ∷ [])) v.sent)

abbrev pub Takes : Knows → Request → Knows → Type 0
Takes v x u = u ≡ knows v.takes (v.taken ++ x ∷ []) v.sent

-- The first sender that the pass speaks for is this one: it has handed in nothing, and stands there
-- once.
pub record BeginsWith (sender : ℕ) (v : Knows) : Type 0 where
  pub first : v ≡ knows v.takes v.taken (sent_by sender [] ∷ drop 1 v.sent)
  pub once : All (λ (s : Sent). s.sender ≢ sender) (drop 1 v.sent)

-- the first sender is cut off
abbrev pub without_first : Knows → Knows
without_first v = knows v.takes v.taken (drop 1 v.sent)

abbrev pub first_alone : Knows → Knows
first_alone v = knows false [] (take 1 v.sent)

abbrev pub joined : Knows → Knows → Knows
joined v u = knows v.takes v.taken (v.sent ++ u.sent)

abbrev pub first_accepted : List Sent → List Request
first_accepted [] = []
first_accepted (s ∷ rest) = s.accepted

-- what the first of a pass's senders handed in
abbrev pub accepted_of : Knows → List Request
accepted_of v = first_accepted v.sent
