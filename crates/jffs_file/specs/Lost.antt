-- What a loss of power leaves of the writes in flight.
use Rattle.std.specs.Prelude.{ℕ, ◌+◌, ◌/◌, ◌<◌, ◌≤◌, List, ◌∷◌, All}
use Rattle.jffs_file.specs.declared.span.Span.{Span}
use Rattle.jffs_file.specs.declared.span.TheConstants.{BLOCK_LEN}
use Rattle.jffs_file.specs.declared.store.StoreEvent.{StoreEvent}
use Rattle.jffs_file.specs.declared.store.StoreEvent.TheVariants.{Wrote}
use Rattle.jffs_file.specs.Order.{Meets, IsOrdered, in_flight}

-- Each block has all but so many of the newest writes in flight, by its number: which is `missing`.
-- A write that so many newer ones follow is there with all its bytes.
abbrev pub IsThere : (ℕ → ℕ) → ℕ → Span → Type 0
IsThere missing newer span =
    (at : ℕ) → span.from ≤ at → at < span.to → missing (at / BLOCK_LEN) ≤ newer

-- it is there with some byte
pub record IsSeen (missing : ℕ → ℕ) (newer : ℕ) (span : Span) : Type 0 where
  pub at : ℕ
  pub after : span.from ≤ at
  pub before : at < span.to
  pub there : missing (at / BLOCK_LEN) ≤ newer

-- Where some byte of a program is there, as that of a gate, all programs are there with all their
-- bytes that it lies over.
abbrev pub GatesFollowRecords : Type 0
GatesFollowRecords = (sectors size : ℕ) (write : Span) (past : List StoreEvent)
    → write.to < write.from + size → IsOrdered sectors size (Wrote write ∷ past)
    → (missing : ℕ → ℕ) (newer : ℕ) → IsSeen missing newer write
    → All (λ earlier. Meets earlier write
    → (more : ℕ) → newer ≤ more → IsThere missing more earlier) (in_flight past)
