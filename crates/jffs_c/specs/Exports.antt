-- What is answered of a handle, in the numbers that C sees.
use Rattle.std.specs.Prelude.{◌≡◌, ℕ, Ok, IfErr}
use Rattle.jffs_c.specs.declared.code.Code.{Code}
use Rattle.jffs_c.specs.declared.handle.Handle.{Handle}
use Rattle.jffs_c.specs.declared.volume.Volume.{Volume}
use Rattle.jffs_c.specs.Codes.{number_of}
use Rattle.jffs_c.specs.Blocked.{blocked, looks_blocked}

-- a change that may not be is answered why, and changes nothing
abbrev pub HoldsBack : Handle → Handle → ℕ → Type 0
HoldsBack old new answer =
    IfErr (blocked old.value.phase) (λ why. (answer ≡ number_of why) × (new.value ≡ old.value))

-- after a failure a look is answered so, and changes nothing
abbrev pub HoldsBackLooks : Handle → Handle → ℕ → Type 0
HoldsBackLooks old new answer =
    IfErr (looks_blocked old.value.phase)
    (λ why. (answer ≡ number_of why) × (new.value ≡ old.value))

-- The answer is the number of a code, of which this holds.
pub record Answers (So : Code → Type 0) (answer : ℕ) : Type 0 where
  pub code : Code
  pub number : answer ≡ number_of code
  pub so : So code

-- The answer is the number of a code, by which the volume was changed so where it may be.
pub record Changes (So : Volume → Volume → Code → Type 0) (old new : Handle) (answer : ℕ) :
    Type 0 where
  pub code : Code
  pub number : answer ≡ number_of code
  pub changes : blocked old.value.phase ≡ Ok tt → So old.value new.value code
