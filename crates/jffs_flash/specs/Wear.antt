-- What a device counts of the calls that wear it.
use Rattle.std.specs.Prelude.{ℕ, ◌+◌, ◌≤◌, ◌==◌, List, [], get_or, if◌then◌else◌}

-- how often each sector was erased, failed calls too, from the first sector on, and how many bytes
-- were programmed, each as often as it was
pub record Wear : Type 0 where
  pub erases : List ℕ
  pub bytes : ℕ

-- what a device says for ever that counts nothing
abbrev pub uncounted : Wear
uncounted = record { erases = []; bytes = 0 }

-- how often a sector was erased
abbrev pub erases_at : Wear → ℕ → ℕ
erases_at wear k = get_or wear.erases k 0

-- no sector is erased
abbrev pub no_erase : ℕ → ℕ
no_erase k = 0

-- this sector is erased once
abbrev pub one_erase : ℕ → ℕ → ℕ
one_erase sector k = if sector == k then 1 else 0

-- Each sector was erased at most so often more, and at most so many bytes were programmed more.
pub record Wears (erases : ℕ → ℕ) (bytes : ℕ) (old new : Wear) : Type 0 where
  pub erased : (k : ℕ) → erases_at new k ≤ erases_at old k + erases k
  pub programmed : new.bytes ≤ old.bytes + bytes
