-- What the session was asked, as the volume answers it.
use Rattle.std.proofs.Common.{◌≡◌, ◌∙◌, inl, inr, sym, ap, subst, ⊎_elim, Result, ℕ}
use Rattle.jffs_tree.specs.declared.wish.Wish.{Wish}
use Rattle.jffs_tree.specs.declared.wish.Cause.{Cause}
use Rattle.jffs_tree.specs.declared.wish.Outcome.{Outcome}
use Rattle.jffs_core.specs.declared.cleaning.Cleaned.{Cleaned}
use Rattle.jffs_core.specs.CoreState.{CoreState, IsSameButCapacity}
use Rattle.jffs_core.specs.Asking.{HasAsked}
use Rattle.jffs_session.specs.Told as told
use Rattle.jffs_session.specs.Cleaned.{Cleaning, Erasing}
use Rattle.jffs_c.specs.declared.code.Code.{Code}
use Rattle.jffs_c.specs.declared.volume.Volume.{Volume}
use Rattle.jffs_c.specs.Asked.{Asks, code_of}

module _ (old new : Volume) (was is : CoreState) (begins : was ≡ old.core) (ends : new.core ≡ is) where
  pub asked : (wish : Wish) (o : Outcome) (answer : Code) → answer ≡ code_of o → told.Asks wish o was is → Asks wish old new answer
  asked wish o answer tells asks = ⊎_elim
      (λ has. inr (record {
        outcome = o;
        told = tells;
        answered = subst (λ (c : CoreState). HasAsked wish o c new.core) begins (subst (λ (c : CoreState). HasAsked wish o was c) (sym ends) has);
      }))
      (λ unasked. inl (
        tells ∙ ap code_of unasked.0,
        subst (λ (c : CoreState). IsSameButCapacity c new.core) begins (subst (λ (c : CoreState). IsSameButCapacity was c) (sym ends) unasked.1),
      ))
      asks

  pub cleaned : (ended : Result Cleaned Cause) → Cleaning ended was is → Cleaning ended old.core new.core
  cleaned ended so = subst (λ (c : CoreState). Cleaning ended c new.core) begins (subst (λ (c : CoreState). Cleaning ended was c) (sym ends) so)

  pub erased : (ended : Result ℕ Cause) → Erasing ended was is → Erasing ended old.core new.core
  erased ended so = subst (λ (c : CoreState). Erasing ended c new.core) begins (subst (λ (c : CoreState). Erasing ended was c) (sym ends) so)
