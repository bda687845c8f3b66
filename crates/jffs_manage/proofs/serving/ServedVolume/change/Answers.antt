-- What became of the change, and what is said of it.
use Rattle.std.proofs.Common.{◌≡◌, ◌∙◌, inl, inr, false, List, ℕ, Err, sym, ap, subst}
use Rattle.std.proofs.lemmas.Bool.{both_ways, false_from_ne_true}
use Rattle.jffs_tree.specs.declared.wish.Cause.{Cause}
use Rattle.jffs_tree.specs.declared.wish.Outcome.TheVariants.{Refused}
use Rattle.jffs_tree.specs.declared.wish.Wish.{Wish}
use Rattle.jffs_protocol.specs.declared.serving.Said.{Said}
use Rattle.jffs_protocol.specs.declared.serving.Said.TheVariants as said
use Rattle.jffs_core.specs.CoreState.{CoreState}
use Rattle.jffs_session.specs.Session.{SessionState}
use Rattle.jffs_session.specs.Told.{Changes, CarriesOut, IsCarriedOut}
use Rattle.jffs_manage.specs.declared.wanting.Wanted.TheVariants as wanted
use Rattle.jffs_manage.specs.Manner.{IsGranted, IsManner, SaysRefused}
use Rattle.jffs_manage.proofs.serving.ServedVolume.change.Goals as goal

pub returns-in-Ok : goal.returns-in-Ok
returns-in-Ok g c =
    let old = c.args.self.now.volume.core in
    let asked = c.in-Ok.ensures.asked in
    let worked = false_from_ne_true old.failed (λ f. let e = (c.in-Ok.ensures.failed f).0 in cc) in
    let changed = c.in-Ok.ensures.changes worked in
    let granted : IsGranted c.args.wish old c.change.new.self.core = record {
      outcome = asked.0;
      granted = asked.1;
      carried_out = asked.2;
      worked = worked;
      done = changed.1;
      works = changed.0;
    } in
    let P : Said → Type 0 = λ s. IsManner (wanted.Change c.args.wish) old c.sync.new.self.volume.core s c.args.out.now.items in
    elim c.sync.ensures.said [
      | inl done ↦ subst P (sym done) (subst (λ (v : SessionState). IsGranted c.args.wish old v.core) (sym c.sync.ensures.core) granted)
      | inr failed ↦ subst P (sym failed) tt
    ]

refused : (w : Wish) (cause : Cause) (old new : CoreState) → CarriesOut w (Err cause) old new → new.failed ≡ false → IsCarriedOut w (Refused cause) old new
refused w cause old new (inl h) works = h
refused w cause old new (inr h) works = absurd (both_ways new.failed works h.0)

-- the cause is the answer, or memory was lacking for it
says : (w : Wish) (cause : Cause) (old new : CoreState) (written : List ℕ) (s : Said) → new.failed ≡ false → IsCarriedOut w (Refused cause) old new → (old.failed ≡ false → Changes w (Err cause) old new)
    → SaysRefused cause s written → IsManner (wanted.Change w) old new s written
says w cause old new written said.Answered works asked changes is = record { cause = cause; carried_out = asked; changes = changes; works = works; is = is }
says w cause old new written said.Memory works asked changes is =
    record { asked = inr (cause, asked); changes = λ worked. let c = changes worked in (works, c.1, c.2) }
says w cause old new written _ works asked changes is = absurd is

pub returns-in-Err-2 : goal.returns-in-Err-2
returns-in-Err-2 g c =
    let old = c.args.self.now.volume.core in
    let new = c.change.new.self.core in
    let works : new.failed ≡ false = ap (λ (v : CoreState). v.failed) (sym c.core.ensures.core) ∙ sym c.failed.ensures ∙ c.if-failed.false in
    says c.args.wish c.in-Err-2.cause old new c.refuse.new.out.items c.refuse.result works (refused c.args.wish c.in-Err-2.cause old new c.in-Err-2.ensures.asked works) c.in-Err-2.ensures.changes
    (subst (λ k. SaysRefused k c.refuse.result c.refuse.new.out.items) c.in-Err-2.cause-is c.refuse.ensures)
