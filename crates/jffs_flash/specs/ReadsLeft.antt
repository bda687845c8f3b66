-- How often each byte of a device can still be read before a read of it may fail.
use Rattle.std.specs.Prelude.{◌≡◌, ◌⊎◌, ℕ, ◌+◌, ◌<◌, ◌≤◌, List, get_or, length, Result, MatchResult}
use Rattle.jffs_flash.specs.Device.{Device}

-- how often the byte at an index can still be read, by the list of them
abbrev pub left_at : List ℕ → ℕ → ℕ
left_at left i = get_or left i 0

-- some byte of the range may fail already when it is read once more
pub record HasSpent (left : List ℕ) (at len : ℕ) : Type 0 where
  pub offset : ℕ
  pub from : at ≤ offset
  pub below : offset < at + len
  pub none : left_at left offset ≡ 0

-- each byte of the range can be read once more
abbrev pub CanBeRead : List ℕ → ℕ → ℕ → Type 0
CanBeRead left at len = (i : ℕ) → at ≤ i → i < at + len → 1 ≤ left_at left i

-- one less is left of each byte of the range, and nothing less of any other
pub record TakesOne (at len : ℕ) (old new : List ℕ) : Type 0 where
  pub range : (i : ℕ) → left_at old i ≤ left_at new i + 1
  pub rest : (i : ℕ) → (i < at) ⊎ (at + len ≤ i) → left_at old i ≤ left_at new i

-- A read takes one of what is left of each byte of its range, at most. It fails only where some
-- byte of it had none left.
abbrev pub TakesReads : {A E : Type 0} → ℕ → ℕ → Result A E → List ℕ → List ℕ → Type 0
TakesReads at len result old new =
    MatchResult result (λ _. TakesOne at len old new) (λ _. 1 ≤ len → HasSpent old at len)

-- a call failed only where some byte of the device could not be read once more
abbrev pub FailsWhereSpent : List ℕ → Device → Device → Type 0
FailsWhereSpent left before after =
    before.faults < after.faults → HasSpent left 0 (length before.image)
