-- What each step of a put makes of the files.
use Rattle.std.proofs.Common.{◌≡◌, ◌⊎◌, inl, inr, ⊎_elim, ℕ, ◌-◌, ◌+◌, Bool, false, cond, eqb, List, [], ◌∷◌, ◌++◌, take, drop, slice_range, length, replicate, Result, Ok, Err, Some, None, refl, sym, ap, subst, ◌∙◌, arith, take_all}
use Rattle.std.specs.Option.{option_map_or}
use Rattle.std.specs.List.{AllByRecursion}
use Rattle.std.proofs.lemmas.Bool.{not-false, eqb-true, cases_Bool}
use Rattle.std.proofs.lemmas.List.{append-nil, drop_all, take-take, drop-take, take-append-drop}
use Rattle.jffs_tree.specs.State.{State, resolve, is_directory_in}
use Rattle.jffs_tree.specs.Decide.{last_name, causes_for, causes_of_new, node_for}
use Rattle.jffs_tree.specs.Origin.{holder}
use Rattle.jffs_tree.specs.Done.{without, resized, overwritten}
use Rattle.jffs_tree.specs.declared.wish.Cause.{Cause}
use Rattle.jffs_tree.specs.declared.wish.Wish.TheVariants as wishes
use Rattle.jffs_tree.proofs.decisions.Decided.{all_passed}
use Rattle.jffs_tree.proofs.decisions.Resolving.{nothing_there}
use Rattle.jffs_core.specs.CoreState.{CoreState}
use Rattle.jffs_session.specs.Session.{IsMounted, files}
use Rattle.jffs_session.specs.Told.{Finds, IsDone, Moves}
use Rattle.jffs_session.specs.Put.{IsAdded, AreBeside, IsAlone, cleared, file_entry}
use Rattle.jffs_session.proofs.Paths.{IsSound, sound_files}
use Rattle.jffs_session.proofs.Stages.{rewritten, renamed, replaced, q}

-- What a scan finds is also of another kind.
pub finds_more : (P Q : State → Type 0) → ((s : State) → P s → Q s) → (c : CoreState) → Finds P c → Finds Q c
finds_more P Q more c found image opened = let f = found image opened in record { scanned = f.scanned; found = f.found; state_is = more _ f.state_is }

pub moved : (P Q : State → Type 0) → ((s : State) → P s → Q s) → (r : Result Unit Cause) (old new : CoreState) → Moves P r old new → Moves Q r old new
moved P Q more (Ok given) old new h = (h.0, more (files new) h.1)
moved P Q more (Err cause) old new h = (
  h.0,
  h.1,
  λ f. finds_more (λ s. (s ≡ files old) ⊎ P s) (λ s. (s ≡ files old) ⊎ Q s) (λ s o. ⊎_elim (λ same. inl same) (λ did. inr (more s did)) o) new (h.2 f),
)

-- A file was made.
pub made : (path : List (List ℕ)) (old : CoreState) (s : State) → IsDone (wishes.Create path) old s → IsAdded path [] (files old) s
made path old s d =
    let allowed = d.allowed refl in
    let passed : AllByRecursion (λ (c : Bool × Cause). c.0 ≡ false) (causes_of_new (files old) old.limits path) = (all_passed (causes_for (files old) (λ v. holder old.tree v) old.limits (wishes.Create path)) (node_for (files old) (λ v. holder old.tree v) old.limits (wishes.Create path)) allowed.0 allowed.1).0 in
    let free = d.free refl in
    record {
      place = record { below_root = passed.0; parent = not-false _ passed.1.0; nothing = nothing_there (files old) path passed.1.1.0 };
      inode = d.inode;
      above_root = free.0;
      free = free.1;
      is = d.is;
    }

-- bytes written at the end
nonempty : (x : ℕ) (xs : List ℕ) → eqb (length (x ∷ xs)) 0 ≡ false
nonempty x xs = ⊎_elim
    (λ is. let none : length (x ∷ xs) ≡ 0 = eqb-true (length (x ∷ xs)) 0 is in absurd (omega arith))
    (λ some. some)
    (cases_Bool (eqb (length (x ∷ xs)) 0))

appended : (old piece : List ℕ) → overwritten (length old) piece old ≡ old ++ piece
appended old [] = sym (append-nil old)
appended old (x ∷ piece) =
    let l = length old in
    let none : l - l ≡ 0 = omega arith in
    let same : resized l old ≡ old ++ [] = ap (λ a. a ++ replicate (l - l) 0) (take_all l old (omega arith)) ∙ ap (λ (n : ℕ). old ++ replicate n 0) none in
    ap (λ t. cond t old (resized l old ++ (x ∷ piece) ++ drop (l + length (x ∷ piece)) old)) (nonempty x piece)
    ∙ ap (λ a. a ++ (x ∷ piece) ++ drop (l + length (x ∷ piece)) old) (same ∙ append-nil old)
    ∙ ap (λ a. old ++ (x ∷ piece) ++ a) (drop_all (l + length (x ∷ piece)) old (omega arith))
    ∙ append-nil (old ++ (x ∷ piece))

-- a first part and the piece after it
pub joined : (done many : ℕ) (bytes : List ℕ) → take done bytes ++ slice_range bytes done (done + many) ≡ take (done + many) bytes
joined done many bytes =
    let span : done + many - done ≡ many = omega arith in
    ap (λ n. take done bytes ++ take n (drop done bytes)) span
    ∙ ap (λ a. a ++ take many (drop done bytes)) (sym (take-take done (done + many) bytes (omega arith)))
    ∙ ap (λ b. take done (take (done + many) bytes) ++ b) (sym (drop-take done many bytes))
    ∙ take-append-drop done (take (done + many) bytes)

-- A piece was written.
pub written : (path : List (List ℕ)) (bytes piece : List ℕ) (offset : ℕ) (start old : CoreState) (s : State) → IsMounted start → start.failed ≡ false → IsMounted old → old.failed ≡ false → length bytes ≡ offset
    → IsAdded path bytes (files start) (files old) → IsDone (wishes.Write path offset piece) old s → IsAdded path (bytes ++ piece) (files start) s
written path bytes piece offset start old s m works n worked long a d =
    let sound = sound_files start m works in
    let after = sound_files old n worked in
    let same : overwritten offset piece bytes ≡ bytes ++ piece = ap (λ o. overwritten o piece bytes) (sym long) ∙ appended bytes piece in
    subst (IsAdded path (bytes ++ piece) (files start)) (sym d.is)
    (rewritten path bytes (files start) (files old) a sound after (bytes ++ piece) (λ e. record e { bytes = overwritten offset piece e.bytes })
    (ap (λ b. file_entry (q path bytes (files start) (files old) a sound after) (last_name path) b) same))

-- The old file was removed.
pub left_alone : (path unfinished : List (List ℕ)) (bytes : List ℕ) (start old : CoreState) (s : State) → IsMounted start → start.failed ≡ false → IsMounted old → old.failed ≡ false → AreBeside path unfinished
    → (j : ℕ) → resolve (files start) path ≡ Some j → is_directory_in (files start) j ≡ false
    → IsAdded unfinished bytes (files start) (files old) → IsDone (wishes.Remove path) old s → IsAlone path unfinished bytes (files start) s
left_alone path unfinished bytes start old s m works n worked beside j leads file a d =
    subst (IsAlone path unfinished bytes (files start)) (sym d.is)
    (replaced path unfinished bytes (files start) (files old) beside a (sound_files start m works) (sound_files old n worked) j leads file)

-- The new file was renamed.
pub put_whole : (path unfinished : List (List ℕ)) (bytes : List ℕ) (base : State) (old : CoreState) (s : State) → IsSound base → resolve base path ≡ None → IsMounted old → old.failed ≡ false → AreBeside path unfinished
    → IsAdded unfinished bytes base (files old) → IsDone (wishes.Rename unfinished path) old s → IsAdded path bytes base s
put_whole path unfinished bytes base old s sound nothing n worked beside a d =
    subst (IsAdded path bytes base) (sym d.is) (renamed unfinished bytes base (files old) a sound (sound_files old n worked) path beside.some beside.directory nothing)

-- where nothing stands, nothing is taken away
pub cleared_nothing : (path : List (List ℕ)) (s : State) → resolve s path ≡ None → cleared path s ≡ s
cleared_nothing path s nothing = ap (λ o. option_map_or (without s) o s) nothing
