-- What a call adds to the bytes that a writer holds, where those are known.
use Rattle.std.specs.Prelude.{◌≡◌, ℕ, List, ◌++◌, Option}
use Rattle.std.specs.Io.KnownBytes.{Appends}

-- a beginning of the text was added, perhaps the whole
pub record IsBegun (old new : Option (List ℕ)) (text : List ℕ) : Type 0 where
  pub done : List ℕ
  pub rest : List ℕ
  pub whole : done ++ rest ≡ text
  pub added : Appends old new done
