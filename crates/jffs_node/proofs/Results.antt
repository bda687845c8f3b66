-- What holds of the error of a call.
use Rattle.std.proofs.Common.{Result, Ok, Err, OnErr}

-- What holds anyway holds where there is an error.
pub at_error : {A E P : Type 0} (r : Result A E) → P → OnErr r P
at_error (Ok x) p = tt
at_error (Err e) p = p
