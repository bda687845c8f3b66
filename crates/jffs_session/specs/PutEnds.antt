-- How a put ends.
use Rattle.std.specs.Prelude.{◌≡◌, ◌≤◌, ℕ, Bool, true, false, List, length, None, Some}
use Rattle.std.specs.Prelude.{Result, Ok, Err}
use Rattle.jffs_node.specs.Record.{file_max}
use Rattle.jffs_tree.specs.State.{State, resolve, is_directory_in}
use Rattle.jffs_tree.specs.declared.wish.Cause.{Cause}
use Rattle.jffs_core.specs.CoreState.{CoreState}
use Rattle.jffs_session.specs.Session.{files}
use Rattle.jffs_session.specs.Told.{Finds}
use Rattle.jffs_session.specs.Put.{IsAdded, IsPut, IsBeside, IsAlone, IsPartOf, IsMoment, AreBeside}
use Rattle.jffs_session.specs.declared.putting.PutLeft.{PutLeft}
use Rattle.jffs_session.specs.declared.putting.PutLeft.TheVariants.{Nothing, Beside, Alone, Unseen}
use Rattle.jffs_session.specs.declared.putting.PutFault.{PutFault}

-- a new file is written, or a part of it stands
abbrev pub Makes : List (List ℕ) → List ℕ → Result Unit Cause → CoreState → CoreState → Type 0
Makes path bytes (Ok given) old new =
    (new.failed ≡ false) × IsAdded path bytes (files old) (files new)
Makes path bytes (Err cause) old new =
    (new.failed ≡ false → IsPartOf path bytes (files old) (files new))
    × (new.failed ≡ true → Finds (IsPartOf path bytes (files old)) new)

-- the names and the bytes of a put, and the files that it began with
pub record Put : Type 0 where
  pub path : List (List ℕ)
  pub unfinished : List (List ℕ)
  pub bytes : List ℕ
  pub before : State

abbrev pub put_at : List (List ℕ) → List (List ℕ) → List ℕ → State → Put
put_at path unfinished bytes before =
    record { path = path; unfinished = unfinished; bytes = bytes; before = before }

-- What a put has left. Where the device failed a scan finds what there may be at some moment.
abbrev pub Leaves : PutLeft → Put → CoreState → Type 0
Leaves Nothing p new = (new.failed ≡ false) × (files new ≡ p.before)
Leaves Beside p new = (new.failed ≡ false) × IsBeside p.unfinished p.bytes p.before (files new)
Leaves Alone p new =
    (new.failed ≡ false) × IsAlone p.path p.unfinished p.bytes p.before (files new)
Leaves Unseen p new =
    (new.failed ≡ true) × Finds (IsMoment p.path p.unfinished p.bytes p.before) new

-- it is done, or has left that
abbrev pub Ends : Result Unit PutFault → Put → CoreState → Type 0
Ends (Ok given) p new = (new.failed ≡ false) × IsPut p.path p.bytes p.before (files new)
Ends (Err fault) p new = Leaves fault.left p new

-- what there is while the new file is written, and once the device has failed
pub record IsStopped (p : Put) (c : CoreState) : Type 0 where
  pub works : c.failed ≡ false → IsPartOf p.unfinished p.bytes p.before (files c)
  pub finds : c.failed ≡ true → Finds (IsMoment p.path p.unfinished p.bytes p.before) c

-- a put may begin, of files that no device's fault has left
pub record MayPut (p : Put) : Type 0 where
  pub beside : AreBeside p.path p.unfinished
  pub short : length p.bytes ≤ file_max
  pub free : resolve p.before p.unfinished ≡ None

-- what a call that writes the new file leaves: all of it, or what a put that ends so leaves
abbrev pub IsWritten : Result Unit PutFault → Put → CoreState → Type 0
IsWritten (Ok given) p new = (new.failed ≡ false) × IsAdded p.unfinished p.bytes p.before (files new)
IsWritten (Err fault) p new = Leaves fault.left p new

-- a file stands at the path, and no directory
abbrev pub HasFile : List (List ℕ) → State → Type 0
HasFile path s = (j : ℕ) × (resolve s path ≡ Some j) × (is_directory_in s j ≡ false)

-- whether a file is replaced; else nothing stands at the path
abbrev pub IsReplaced : Bool → List (List ℕ) → State → Type 0
IsReplaced true path s = HasFile path s
IsReplaced false path s = resolve s path ≡ None

-- a put of so many bytes may begin, where the two names are beside each other
pub record MayBegin (path unfinished : List (List ℕ)) (many : ℕ) (replaces : Bool) (c : CoreState) :
    Type 0 where
  pub works : c.failed ≡ false
  pub short : many ≤ file_max
  pub free : resolve (files c) unfinished ≡ None
  pub replaced : IsReplaced replaces path (files c)
