-- In which order a store is written, so that a loss of power leaves whole records and sectors.
use Rattle.std.specs.Prelude.{◌≡◌, ◌⊎◌, ℕ, ◌+◌, ◌-◌, ◌*◌, ◌%◌, ◌<◌, ◌≤◌, List, [], ◌∷◌, All}
use Rattle.jffs_file.specs.declared.span.Span.{Span}
use Rattle.jffs_file.specs.declared.span.TheConstants.{BLOCK_LEN}
use Rattle.jffs_file.specs.declared.store.StoreEvent.{StoreEvent}
use Rattle.jffs_file.specs.declared.store.StoreEvent.TheVariants.{Wrote, Synced}
use Rattle.jffs_flash.specs.declared.dooming.TheConstants.{DOOM_LEN}

-- both have a byte of one index
abbrev pub Meets : Span → Span → Type 0
Meets a b = (a.from < b.to) × (b.from < a.to)

-- where the piece begins that has this byte, if pieces of one size follow one another
abbrev pub begin_of : ℕ → ℕ → ℕ
begin_of size at = at - at % size

-- it lies in the piece that has this byte
abbrev pub IsInPiece : ℕ → ℕ → Span → Type 0
IsInPiece size at span = (begin_of size at ≤ span.from) × (span.to ≤ begin_of size at + size)

-- it begins with a sector of this size
abbrev pub Begins : ℕ → Span → Type 0
Begins size span = span.from % size ≡ 0

-- a whole sector is written where one is erased, and less where it is programmed
abbrev pub IsErase : ℕ → Span → Type 0
IsErase size span = span.to ≡ span.from + size

-- the one sector comes before the other in the ring, of so many bytes
abbrev pub IsBefore : ℕ → ℕ → Span → Span → Type 0
IsBefore whole size span other =
    (other.from ≡ span.from + size) ⊎ ((other.from ≡ 0) × (span.from + size ≡ whole))

-- what a loss of power may undo, by blocks: all that was written since the last sync
abbrev pub in_flight : List StoreEvent → List Span
in_flight [] = []
in_flight (Synced ∷ past) = []
in_flight (Wrote span ∷ past) = span ∷ in_flight past

-- Bytes may be programmed while others are in flight: those that they lie over are in the one block
-- where these are too. Where they lie over any, and so close a gate, no program of another sector
-- is in flight. Where they begin a sector, no other sector's beginning is, nor the next one's
-- erase.
pub record MayProgram (sectors size : ℕ) (flying : List Span) (span : Span) : Type 0 where
  pub over : All (λ s. Meets s span
      → IsInPiece BLOCK_LEN span.from s × IsInPiece BLOCK_LEN span.from span) flying
  pub gate : All (λ s. Meets s span
      → All (λ other. IsErase size other ⊎ IsInPiece size span.from other) flying) flying
  pub begin : Begins size span
      → All (λ s. (IsErase size s × (IsBefore (sectors * size) size span s → ⊥))
      ⊎ (Begins size s → ⊥)) flying

-- A sector may be erased: it was doomed and then all was synced, and what was in flight before that
-- was synced first.
pub record IsDoomed (span : Span) (past : List StoreEvent) : Type 0 where
  pub before : List StoreEvent
  pub doom : Span
  pub is : past ≡ Synced ∷ Wrote doom ∷ before
  pub from : doom.from ≡ span.from
  pub to : doom.to ≡ span.from + DOOM_LEN
  pub alone : in_flight before ≡ []

-- bytes may be written after this past
pub record MayWrite (sectors size : ℕ) (span : Span) (past : List StoreEvent) : Type 0 where
  pub erase : IsErase size span → IsDoomed span past
  pub program : span.to < span.from + size → MayProgram sectors size (in_flight past) span

-- each write was one that might follow those before it
abbrev pub IsOrdered : ℕ → ℕ → List StoreEvent → Type 0
IsOrdered sectors size [] = Unit {0}
IsOrdered sectors size (Synced ∷ past) = IsOrdered sectors size past
IsOrdered sectors size (Wrote span ∷ past) =
    MayWrite sectors size span past × IsOrdered sectors size past
