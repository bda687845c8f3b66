-- What is read of a script.
use Rattle.std.specs.Prelude.{◌≡◌, ◌≤◌, ℕ, List, ◌++◌, length, Option}
use Rattle.std.specs.Io.KnownBytes.{Consumes}

-- at most so many bytes were taken from a reader, and added to a text
pub record Grows (old new : Option (List ℕ)) (text grown : List ℕ) (most : ℕ) : Type 0 where
  pub bytes : List ℕ
  pub taken : Consumes old new bytes
  pub added : grown ≡ text ++ bytes
  pub few : length bytes ≤ most
