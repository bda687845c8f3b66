-- How often each sector is erased. The oldest sector of the log is erased each time, so the ring of
-- sectors wears evenly.
use Rattle.std.specs.Prelude.{◌≡◌, ℕ, zero, suc, ◌+◌, ◌-◌, ◌^◌, ◌<◌, ◌≤◌, ◌==◌, nat_lt, min}
use Rattle.std.specs.Prelude.{List, [], ◌∷◌, if◌then◌else◌}
use Rattle.jffs_log.specs.declared.log_index.LogIndex.{LogIndex}
use Rattle.jffs_log.specs.LogIndex.{IsLogIndex, HasSizes}

-- the sector after this one, where the first comes after the last
abbrev pub sector_after : ℕ → ℕ → ℕ
sector_after count k = if nat_lt (k + 1) count then k + 1 else 0

-- the sector that is so many after this one
abbrev pub sector_after_each : ℕ → ℕ → ℕ → ℕ
sector_after_each count first zero = first
sector_after_each count first (suc many) = sector_after count (sector_after_each count first many)

-- how often sector `k` was erased when so many were, one after another, from the first on
abbrev pub erases_of : ℕ → ℕ → ℕ → ℕ → ℕ
erases_of count first zero k = 0
erases_of count first (suc many) k =
    (if sector_after_each count first many == k then 1 else 0) + erases_of count first many k

-- So many sectors were erased, one after another, and counted, as far as a count of 64 bits goes:
-- the log begins as many sectors further.
pub record ErasedInTurn (old new : LogIndex) : Type 0 where
  pub many : ℕ
  pub sectors : new.sectors ≡ old.sectors
  pub counted : min new.erases (2 ^ 64 - 1) ≡ min (old.erases + many) (2 ^ 64 - 1)
  pub first : new.first ≡ sector_after_each old.sectors old.first many

-- Of any two sectors the one was erased at most once more often than the other.
abbrev pub WearIsEven : Type 0
WearIsEven = (count first many j k : ℕ) → first < count → j < count → k < count
    → erases_of count first many j ≤ erases_of count first many k + 1

-- What is erased in turn, and then in turn again, is erased in turn.
abbrev pub TurnsGoOn : Type 0
TurnsGoOn = (old middle new : LogIndex) → ErasedInTurn old middle → ErasedInTurn middle new
    → ErasedInTurn old new

-- An image fixes the sector that its log begins with, where any holds the log: so a scan finds the
-- first sector as it was when the log was left. Where all sectors are erased any may be the first.
abbrev pub ImagesFixFirst : Type 0
ImagesFixFirst =
    (image : List ℕ) (left found : LogIndex) → IsLogIndex image left → IsLogIndex image found
    → HasSizes left.sectors left.sector_size found → 1 ≤ left.held → found.first ≡ left.first

-- how often sector `k` was erased in all over sessions, in which so many sectors were erased, each
-- session from the sector on that came next after those of the one before
abbrev pub erases_over : ℕ → ℕ → List ℕ → ℕ → ℕ
erases_over count first [] k = 0
erases_over count first (many ∷ sessions) k =
    erases_of count first many k + erases_over count (sector_after_each count first many) sessions k

-- So of any two sectors the one was erased at most once more often than the other, over any number
-- of sessions.
abbrev pub ErasesAreEven : Type 0
ErasesAreEven =
    (count first : ℕ) (sessions : List ℕ) (j k : ℕ) → first < count → j < count → k < count
    → erases_over count first sessions j ≤ erases_over count first sessions k + 1

-- Five erases of four sectors from sector 2 on: it comes first again.
pub record FiveErases : Type 0 where
  pub next : sector_after_each 4 2 5 ≡ 3
  pub first : erases_of 4 2 5 2 ≡ 2
  pub other : erases_of 4 2 5 1 ≡ 1
