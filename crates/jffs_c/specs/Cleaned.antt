-- What cleaning comes to that may be.
use Rattle.std.specs.Prelude.{◌≡◌, ℕ, Result, Ok, Err}
use Rattle.jffs_tree.specs.declared.wish.Cause.{Cause}
use Rattle.jffs_core.specs.declared.cleaning.Cleaned.{Cleaned}
use Rattle.jffs_core.specs.declared.cleaning.Cleaned.TheVariants.{Erased, OneSector}
use Rattle.jffs_session.specs.Cleaned.{Cleaning, Erasing}
use Rattle.jffs_c.specs.declared.code.Code.{Code}
use Rattle.jffs_c.specs.declared.code.Code.TheVariants as code
use Rattle.jffs_c.specs.declared.volume.Volume.{Volume}
use Rattle.jffs_c.specs.Asked.{code_of_cause}

-- the code of what a cleaning answered
abbrev pub code_of_cleaning : Result Cleaned Cause → Code
code_of_cleaning (Ok (Erased sector copies)) = code.Done
code_of_cleaning (Ok OneSector) = code.Nothing
code_of_cleaning (Err cause) = code_of_cause cause

-- the core was asked to clean its oldest sector, and the answer is the code of what it answered
pub record CleansOldest (old new : Volume) (answer : Code) : Type 0 where
  pub ended : Result Cleaned Cause
  pub told : answer ≡ code_of_cleaning ended
  pub cleaning : Cleaning ended old.core new.core

-- the code of how many dead sectors were erased, or of why no more were
abbrev pub code_of_erasing : Result ℕ Cause → Code
code_of_erasing (Ok count) = code.Done
code_of_erasing (Err cause) = code_of_cause cause

-- the core was asked to erase its dead sectors, and the answer is the code of what it answered
pub record ErasesTheDead (old new : Volume) (answer : Code) : Type 0 where
  pub ended : Result ℕ Cause
  pub told : answer ≡ code_of_erasing ended
  pub erasing : Erasing ended old.core new.core
