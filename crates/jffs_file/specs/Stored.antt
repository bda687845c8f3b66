-- What a store holds after bytes of it were written over, and what it was asked to do.
use Rattle.std.specs.Prelude.{◌≡◌, ◌⊎◌, ℕ, ◌+◌, ◌≤◌, List, ◌∷◌, ◌++◌, length, take, drop}
use Rattle.std.specs.Prelude.{Option, Some, Result, MatchResult}
use Rattle.jffs_flash.specs.Image.{window, replaced, IsHalfErased}
use Rattle.jffs_file.specs.declared.store.StoreEvent.{StoreEvent}
use Rattle.jffs_file.specs.declared.store.StoreEvent.TheVariants.{Wrote, Synced}
use Rattle.jffs_file.specs.Kept.{IsLeftAs}

-- the first `count` of these bytes, and then the old ones
abbrev pub first_part : ℕ → List ℕ → List ℕ → List ℕ
first_part count bytes old = take count bytes ++ drop count old

-- bytes were written over those from an offset on, or a first part of them; of a store that doesn't
-- say what it holds, nothing is claimed
abbrev pub Overwrites : {A E : Type 0} → ℕ → List ℕ → Result A E → Option (List ℕ) → Option (List ℕ)
    → Type 0
Overwrites at bytes result old new =
    (image : List ℕ) → old ≡ Some image → at + length bytes ≤ length image
    → MatchResult result
    (λ _. new ≡ Some (replaced at bytes image))
    (λ _. (count : ℕ) × (new
    ≡ Some (replaced at (first_part count bytes (window at (length bytes) image)) image)))

-- the same, but a failure leaves any bytes in a range of so many
abbrev pub Rewrites : {A E : Type 0} → ℕ → ℕ → List ℕ → Result A E → Option (List ℕ)
    → Option (List ℕ) → Type 0
Rewrites at len bytes result old new =
    (image : List ℕ) → old ≡ Some image → at + len ≤ length image
    → MatchResult result
    (λ _. new ≡ Some (replaced at bytes image))
    (λ _. IsLeftAs new (IsHalfErased at len image))

-- of a store that says what it holds, no byte was changed but these
abbrev pub ChangesOnly : ℕ → ℕ → Option (List ℕ) → Option (List ℕ) → Type 0
ChangesOnly at len old new =
    (image : List ℕ) → old ≡ Some image → at + len ≤ length image
    → IsLeftAs new (IsHalfErased at len image)

-- so many bytes were written from an offset on
abbrev pub wrote : ℕ → ℕ → StoreEvent
wrote at len = Wrote (record { from = at; to = at + len })

-- a store that notes what is asked of it notes this
abbrev pub Notes : StoreEvent → Option (List StoreEvent) → Option (List StoreEvent) → Type 0
Notes event old new = (past : List StoreEvent) → old ≡ Some past → new ≡ Some (event ∷ past)

-- the same of a call; one that failed may be noted or not
abbrev pub NotesCall : {A E : Type 0} → StoreEvent → Result A E → Option (List StoreEvent)
    → Option (List StoreEvent) → Type 0
NotesCall event result old new = (past : List StoreEvent) → old ≡ Some past
    → MatchResult result
    (λ _. new ≡ Some (event ∷ past))
    (λ _. (new ≡ Some (event ∷ past)) ⊎ (new ≡ Some past))

-- the same of a sync, so many bytes that were written from an offset on, and another sync
abbrev pub NotesDoom : ℕ → ℕ → Option (List StoreEvent) → Option (List StoreEvent) → Type 0
NotesDoom at len old new = (past : List StoreEvent) → old ≡ Some past
    → new ≡ Some (Synced ∷ wrote at len ∷ Synced ∷ past)
