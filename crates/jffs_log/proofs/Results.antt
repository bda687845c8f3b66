-- What holds where a call answered Ok or Err.
use Rattle.std.proofs.Common.{◌≡◌, Result, Ok, Err, OnOk, IfErr, IsErrAnd, sym, subst}

-- what `?` hands on
pub err_from : {A E : Type 0} (r : Result A E) (x : E) (P : E → Type 0) → IsErrAnd r (λ e. e ≡ x) → P x → IfErr r P
err_from (Ok a) x P h p = absurd h
err_from (Err e) x P h p = subst P (sym h) p

-- what holds whether a call was done or failed
pub either_way : {A E : Type 0} (r : Result A E) (P : Type 0) (Q : E → Type 0) (R : Type 0) → (P → R) → ((e : E) → Q e → R) → OnOk r P → IfErr r Q → R
either_way (Ok a) P Q R f g p q = f p
either_way (Err e) P Q R f g p q = g e q
