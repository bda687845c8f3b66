-- How a mounted volume answers the requests of `serve`.
use Rattle.std.specs.Prelude.{◌≡◌, ◌⊎◌, ⊤, false, List, ℕ, Err}
use Rattle.jffs_tree.specs.declared.wish.Cause.{Cause}
use Rattle.jffs_tree.specs.declared.wish.Cause.TheVariants.{Memory}
use Rattle.jffs_tree.specs.declared.wish.Outcome.{Outcome}
use Rattle.jffs_tree.specs.declared.wish.Outcome.TheVariants.{Refused}
use Rattle.jffs_tree.specs.declared.wish.Wish.{Wish}
use Rattle.jffs_tree.specs.declared.wish.Wish.TheVariants as wish
use Rattle.jffs_protocol.specs.declared.serving.Failure.TheVariants as failure
use Rattle.jffs_protocol.specs.declared.serving.Said.{Said}
use Rattle.jffs_protocol.specs.declared.serving.Said.TheVariants as said
use Rattle.jffs_core.specs.CoreState.{CoreState}
use Rattle.jffs_session.specs.Session.{files}
use Rattle.jffs_session.specs.Told.{Asks, Changes, IsCarriedOut, IsDone, is_refused}
use Rattle.jffs_manage.specs.declared.wanting.Wanted.{Wanted}
use Rattle.jffs_manage.specs.declared.wanting.Wanted.TheVariants as wanted
use Rattle.jffs_manage.specs.Answers.{query_answer, refused_text}

-- The volume refused a change, and works afterwards: no file is changed.
pub record IsRefused (wish : Wish) (old new : CoreState) (written : List ℕ) : Type 0 where
  pub cause : Cause
  pub carried_out : IsCarriedOut wish (Refused cause) old new
  pub changes : old.failed ≡ false → Changes wish (Err cause) old new
  pub works : new.failed ≡ false
  pub is : written ≡ refused_text cause

-- A change is done, and the volume works afterwards.
pub record IsGranted (wish : Wish) (old new : CoreState) : Type 0 where
  pub outcome : Outcome
  pub carried_out : IsCarriedOut wish outcome old new
  pub granted : is_refused outcome ≡ false
  pub worked : old.failed ≡ false
  pub done : IsDone wish old (files new)
  pub works : new.failed ≡ false

-- The core refused the unmount.
pub record StaysMounted (old new : CoreState) (written : List ℕ) : Type 0 where
  pub cause : Cause
  pub asked : Asks wish.Unmount (Refused cause) old new
  pub is : written ≡ refused_text cause

-- The core granted the unmount, or nothing was to be unmounted.
abbrev pub IsUnmounted : CoreState → CoreState → Type 0
IsUnmounted old new =
    (new ≡ old)
    ⊎ ((outcome : Outcome) × Asks wish.Unmount outcome old new × (is_refused outcome ≡ false))

-- When these bytes are the answer: to a look, if the device works, those of the look; and to a
-- change or an unmount that the core refused, its cause.
abbrev pub AnswersWith : Wanted → CoreState → CoreState → List ℕ → Type 0
AnswersWith (wanted.Query q) old new written =
    (new ≡ old) × (old.failed ≡ false → written ≡ query_answer old q)
AnswersWith (wanted.Change wish) old new written = IsRefused wish old new written
AnswersWith wanted.Unmount old new written = StaysMounted old new written
AnswersWith wanted.Sync old new written = ⊥

-- When `ok` is: once the core granted a change, or where nothing was to be changed.
abbrev pub IsSaidDone : Wanted → CoreState → CoreState → Type 0
IsSaidDone (wanted.Change wish) old new = IsGranted wish old new
IsSaidDone wanted.Sync old new = new ≡ old
IsSaidDone _ old new = ⊥

-- When `ok` is, and no request follows.
abbrev pub IsOver : Wanted → CoreState → CoreState → Type 0
IsOver wanted.Unmount old new = IsUnmounted old new
IsOver _ old new = ⊥

-- Memory was lacking for a change, which wasn't asked for, or for saying why it was refused: no
-- file is changed.
pub record LacksForChange (wish : Wish) (old new : CoreState) : Type 0 where
  pub asked : (new ≡ old) ⊎ ((cause : Cause) × IsCarriedOut wish (Refused cause) old new)
  pub changes : old.failed ≡ false → Changes wish (Err Memory) old new

-- When it is that memory was lacking.
abbrev pub LacksMemory : Wanted → CoreState → CoreState → Type 0
LacksMemory (wanted.Change wish) old new = LacksForChange wish old new
LacksMemory _ old new = new ≡ old

-- What may be said to what is wanted, of the volume before and after, with these bytes.
abbrev pub IsManner : Wanted → CoreState → CoreState → Said → List ℕ → Type 0
IsManner w old new said.Answered written = AnswersWith w old new written
IsManner w old new said.Done written = IsSaidDone w old new
IsManner w old new said.Last written = IsOver w old new
IsManner w old new said.Malformed written = new ≡ old
IsManner w old new said.Memory written = LacksMemory w old new
IsManner w old new (said.Failed why) written = ⊤

-- this is said, or that the medium failed
abbrev pub IsSynced : Said → Said → Type 0
IsSynced meant result = (result ≡ meant) ⊎ (result ≡ said.Failed failure.Medium)

-- the cause is the answer, or memory was lacking
abbrev pub SaysRefused : Cause → Said → List ℕ → Type 0
SaysRefused cause said.Answered written = written ≡ refused_text cause
SaysRefused cause said.Memory written = ⊤
SaysRefused cause _ written = ⊥

-- the cause is the answer, or the server failed
abbrev pub SaysRefusedOrFails : Cause → Said → List ℕ → Type 0
SaysRefusedOrFails cause said.Answered written = written ≡ refused_text cause
SaysRefusedOrFails cause (said.Failed why) written = ⊤
SaysRefusedOrFails cause _ written = ⊥
