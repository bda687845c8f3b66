-- What a put has left.
use Rattle.std.proofs.Common.{◌≡◌, ◌⊎◌, inl, inr, ⊎_elim, ℕ, true, false, List, take, length, Option, is_some, Ok, Err, Some, None, refl, sym, ap, subst, ◌∙◌, arith, take_all}
use Rattle.std.proofs.lemmas.Bool.{cases_Bool}
use Rattle.jffs_tree.specs.State.{State, resolve}
use Rattle.jffs_tree.specs.Decide.{is_there}
use Rattle.jffs_tree.specs.declared.wish.Cause.{Cause}
use Rattle.jffs_tree.specs.declared.wish.Wish.TheVariants as wishes
use Rattle.jffs_core.specs.CoreState.{CoreState}
use Rattle.jffs_session.specs.Session.{IsMounted, files}
use Rattle.jffs_session.specs.Told.{Finds, IsDone, Changes}
use Rattle.jffs_session.specs.Put.{IsAdded, IsBeside, IsAlone, IsPut, IsPartOf, IsMoment, cleared}
use Rattle.jffs_session.specs.PutEnds.{Put, put_at, Makes, Leaves, Ends, IsStopped, MayPut, HasFile}
use Rattle.jffs_session.specs.declared.putting.PutLeft.{PutLeft}
use Rattle.jffs_session.specs.declared.putting.PutLeft.TheVariants.{Nothing, Beside, Alone, Unseen}
use Rattle.jffs_session.proofs.Paths.{IsSound, sound_files}
use Rattle.jffs_session.proofs.Stages.{taken_back, new_leads, cleared_sound, cleared_free}
use Rattle.jffs_session.proofs.Steps.{finds_more, left_alone, put_whole, cleared_nothing}

-- something stands there
stands : (o : Option ℕ) → is_some o ≡ true → o ≡ None → ⊥
stands None there is = cc
stands (Some i) there is = cc

nothing_stands : (o : Option ℕ) → is_some o ≡ false → o ≡ None
nothing_stands None no_one = refl
nothing_stands (Some i) no_one = cc

-- what is left where the device didn't fail, and where it did
left_so : (left r : PutLeft) (p : Put) (new : CoreState) → (new.failed ≡ false → r ≡ left) → (new.failed ≡ true → r ≡ Unseen)
    → (new.failed ≡ false → Leaves left p new) → (new.failed ≡ true → Finds (IsMoment p.path p.unfinished p.bytes p.before) new) → Leaves r p new
left_so left r p new known unseen works fails = elim (cases_Bool new.failed) [
  | inl f ↦ subst (λ l. Leaves l p new) (sym (unseen f)) (f, fails f)
  | inr w ↦ subst (λ l. Leaves l p new) (sym (known w)) (works w)
]

-- all of the new file is a first part of it
whole_beside : (unfinished : List (List ℕ)) (bytes : List ℕ) (before s : State) → IsAdded unfinished bytes before s → IsBeside unfinished bytes before s
whole_beside unfinished bytes before s a = (length bytes, subst (λ b. IsAdded unfinished b before s) (sym (take_all (length bytes) bytes (omega arith))) a)

-- A new file is taken back.
module _ (start old : CoreState) (p : Put) (m : IsMounted start) (works : start.failed ≡ false) (is : p.before ≡ files start) (nothing : resolve p.before p.unfinished ≡ None)
    (n : IsMounted old) (worked : old.failed ≡ false) (s : IsStopped p old) where
  sound : IsSound p.before
  sound = subst IsSound (sym is) (sound_files start m works)

  -- where nothing stands, the files are those of before
  pub none_left : is_there (files old) p.unfinished ≡ false → files old ≡ p.before
  none_left no_one = ⊎_elim
      (λ same. same)
      (λ b.
      let leads = new_leads p.unfinished (take b.0 p.bytes) p.before (files old) b.1 sound (sound_files old n worked) in
      let none = nothing_stands (resolve (files old) p.unfinished) no_one in
      cc)
      (s.works worked)

  module _ (there : is_there (files old) p.unfinished ≡ true) where
    beside : IsBeside p.unfinished p.bytes p.before (files old)
    beside = ⊎_elim
        (λ same. absurd (stands (resolve (files old) p.unfinished) there (ap (λ x. resolve x p.unfinished) same ∙ nothing)))
        (λ b. b)
        (s.works worked)

    taken : (x : State) → IsDone (wishes.Remove p.unfinished) old x → x ≡ p.before
    taken x d = d.is ∙ taken_back p.unfinished (take beside.0 p.bytes) p.before (files old) beside.1 sound (sound_files old n worked)

    pub taken_away : (new : CoreState) (given : Unit) → Changes (wishes.Remove p.unfinished) (Ok given) old new → Leaves Nothing p new
    taken_away new given h = (h.0, taken (files new) h.1)

    pub not_taken : (new : CoreState) (cause : Cause) (r : PutLeft) → Changes (wishes.Remove p.unfinished) (Err cause) old new → (new.failed ≡ false → r ≡ Beside) → (new.failed ≡ true → r ≡ Unseen) → Leaves r p new
    not_taken new cause r h known unseen = left_so Beside r p new known unseen
        (λ w. (w, subst (IsBeside p.unfinished p.bytes p.before) (sym (h.1 w)) beside))
        (λ f. finds_more (λ x. (x ≡ files old) ⊎ IsDone (wishes.Remove p.unfinished) old x) (IsMoment p.path p.unfinished p.bytes p.before)
        (λ x o. inl (⊎_elim (λ same. inr (subst (IsBeside p.unfinished p.bytes p.before) (sym same) beside)) (λ d. inl (taken x d)) o)) new (h.2 f))

-- A file that couldn't be made is a put that was stopped.
pub makes_stopped : (p : Put) (old new : CoreState) (cause : Cause) → p.before ≡ files old → Makes p.unfinished p.bytes (Err cause) old new → IsStopped p new
makes_stopped p old new cause is h = record {
  works = λ w. subst (λ b. IsPartOf p.unfinished p.bytes b (files new)) (sym is) (h.0 w);
  finds = λ f. finds_more (IsPartOf p.unfinished p.bytes (files old)) (IsMoment p.path p.unfinished p.bytes p.before)
      (λ x part. inl (subst (λ b. IsPartOf p.unfinished p.bytes b x) (sym is) part)) new (h.1 f);
}

-- A put that was stopped by a request that came after the new file was whole.
stopped_by : (p : Put) (Does : State → Type 0) (old new : CoreState) → IsAdded p.unfinished p.bytes p.before (files old) → ((x : State) → Does x → IsAlone p.path p.unfinished p.bytes p.before x ⊎ IsPut p.path p.bytes p.before x)
    → (new.failed ≡ false → files new ≡ files old) → (new.failed ≡ true → Finds (λ x. (x ≡ files old) ⊎ Does x) new) → IsStopped p new
stopped_by p Does old new a more same finds =
    let beside = whole_beside p.unfinished p.bytes p.before (files old) a in
    record {
      works = λ w. inr (subst (IsBeside p.unfinished p.bytes p.before) (sym (same w)) beside);
      finds = λ f. finds_more (λ x. (x ≡ files old) ⊎ Does x) (IsMoment p.path p.unfinished p.bytes p.before)
          (λ x o. ⊎_elim (λ is. inl (inr (subst (IsBeside p.unfinished p.bytes p.before) (sym is) beside))) (λ d. inr (more x d)) o) new (finds f);
    }

-- The new file is whole, where nothing stood at the path.
module _ (path unfinished : List (List ℕ)) (bytes : List ℕ) (start old : CoreState) (m : IsMounted start) (works : start.failed ≡ false) (n : IsMounted old) (worked : old.failed ≡ false)
    (may : MayPut (put_at path unfinished bytes (files start))) (a : IsAdded unfinished bytes (files start) (files old)) where
  module _ (nothing : resolve (files start) path ≡ None) where
    new_put : (x : State) → IsDone (wishes.Rename unfinished path) old x → IsPut path bytes (files start) x
    new_put x d = subst (λ b. IsAdded path bytes b x) (sym (cleared_nothing path (files start) nothing))
        (put_whole path unfinished bytes (files start) old x (sound_files start m works) nothing n worked may.beside a d)

    pub new_done : (new : CoreState) (given : Unit) → Changes (wishes.Rename unfinished path) (Ok given) old new → Ends (Ok given) (put_at path unfinished bytes (files start)) new
    new_done new given h = (h.0, new_put (files new) h.1)

    pub new_stopped : (new : CoreState) (cause : Cause) → Changes (wishes.Rename unfinished path) (Err cause) old new → IsStopped (put_at path unfinished bytes (files start)) new
    new_stopped new cause h = stopped_by (put_at path unfinished bytes (files start)) (IsDone (wishes.Rename unfinished path) old) old new a (λ x d. inr (new_put x d)) h.1 h.2

  module _ (file : HasFile path (files start)) where
    old_gone : (x : State) → IsDone (wishes.Remove path) old x → IsAlone path unfinished bytes (files start) x
    old_gone x d = left_alone path unfinished bytes start old x m works n worked may.beside file.0 file.1 file.2 a d

    pub remove_stopped : (new : CoreState) (cause : Cause) → Changes (wishes.Remove path) (Err cause) old new → IsStopped (put_at path unfinished bytes (files start)) new
    remove_stopped new cause h = stopped_by (put_at path unfinished bytes (files start)) (IsDone (wishes.Remove path) old) old new a (λ x d. inl (old_gone x d)) h.1 h.2

    -- the old file is gone
    module _ (between : CoreState) (k : IsMounted between) (gone : Changes (wishes.Remove path) (Ok tt) old between) where
      alone : IsAlone path unfinished bytes (files start) (files between)
      alone = old_gone (files between) gone.1

      in_place : (x : State) → IsDone (wishes.Rename unfinished path) between x → IsPut path bytes (files start) x
      in_place x d =
          put_whole path unfinished bytes (cleared path (files start)) between x
          (cleared_sound path unfinished bytes (files start) (files old) may.beside a (sound_files start m works) (sound_files old n worked) file.0 file.1 file.2)
          (cleared_free path unfinished bytes (files start) (files old) may.beside a (sound_files start m works) (sound_files old n worked) file.0 file.1 file.2)
          k gone.0 may.beside alone d

      pub replaced_done : (new : CoreState) (given : Unit) → Changes (wishes.Rename unfinished path) (Ok given) between new → Ends (Ok given) (put_at path unfinished bytes (files start)) new
      replaced_done new given h = (h.0, in_place (files new) h.1)

      pub stays_alone : (new : CoreState) (cause : Cause) (r : PutLeft) → Changes (wishes.Rename unfinished path) (Err cause) between new → (new.failed ≡ false → r ≡ Alone) → (new.failed ≡ true → r ≡ Unseen)
          → Leaves r (put_at path unfinished bytes (files start)) new
      stays_alone new cause r h known unseen = left_so Alone r (put_at path unfinished bytes (files start)) new known unseen
          (λ w. (w, subst (IsAlone path unfinished bytes (files start)) (sym (h.1 w)) alone))
          (λ f. finds_more (λ x. (x ≡ files between) ⊎ IsDone (wishes.Rename unfinished path) between x) (IsMoment path unfinished bytes (files start))
          (λ x o. inr (⊎_elim (λ same. inl (subst (IsAlone path unfinished bytes (files start)) (sym same) alone)) (λ d. inr (in_place x d)) o)) new (h.2 f))
