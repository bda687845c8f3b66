-- What a put makes of the files.
use Rattle.std.specs.Prelude.{◌≡◌, ◌⊎◌, ℕ, ◌<◌, ◌-◌, true, false, List, take, length, None}
use Rattle.std.specs.Option.{option_map_or}
use Rattle.std.specs.Ordering.{nat_cmp}
use Rattle.std.specs.FinMap.Entries as entries
use Rattle.jffs_node.specs.declared.node.Kind.TheVariants.{File}
use Rattle.jffs_inodes.specs.Held.{Entry}
use Rattle.jffs_tree.specs.State.{State, root, at, resolve}
use Rattle.jffs_tree.specs.Decide.{last_name, parent_in, has_parent, is_root}
use Rattle.jffs_tree.specs.Done.{done_at, without}

-- a file's entry
abbrev pub file_entry : ℕ → List ℕ → List ℕ → Entry
file_entry parent name bytes =
    record { kind = File; parent = parent; name = name; bytes = bytes }

-- the files with one more, of these bytes, at a path, if the directory of the path is there
abbrev pub with_file : ℕ → List ℕ → State → List (List ℕ) → State
with_file inode bytes s path =
    option_map_or
    (λ parent. entries.put nat_cmp inode (file_entry parent (last_name path) bytes) s)
    (parent_in s path) s

-- nothing stands at the path, and its directory is there
pub record IsFreePlace (path : List (List ℕ)) (s : State) : Type 0 where
  pub below_root : is_root path ≡ false
  pub parent : has_parent s path ≡ true
  pub nothing : resolve s path ≡ None

-- a new file of these bytes, where nothing stood, is all that was changed
pub record IsAdded (path : List (List ℕ)) (bytes : List ℕ) (before after : State) : Type 0 where
  pub place : IsFreePlace path before
  pub inode : ℕ
  pub above_root : root < inode
  pub free : at before inode ≡ None
  pub is : after ≡ with_file inode bytes before path

-- two names of one directory
pub record AreBeside (path unfinished : List (List ℕ)) : Type 0 where
  pub some : is_root path ≡ false
  pub other_some : is_root unfinished ≡ false
  pub directory : take (length path - 1) path ≡ take (length unfinished - 1) unfinished
  pub apart : last_name path ≡ last_name unfinished → ⊥

-- the files without what stands at the path, if anything does
abbrev pub cleared : List (List ℕ) → State → State
cleared path s = done_at path s (without s)

-- the new file, whole, is at the path; what stood there before is gone
abbrev pub IsPut : List (List ℕ) → List ℕ → State → State → Type 0
IsPut path bytes before after = IsAdded path bytes (cleared path before) after

-- a first part of the new file, or all of it, stands beside what stands at the path
abbrev pub IsBeside : List (List ℕ) → List ℕ → State → State → Type 0
IsBeside unfinished bytes before after =
    (many : ℕ) × IsAdded unfinished (take many bytes) before after

-- the new file, whole, stands beside the path, at which nothing stands any more
abbrev pub IsAlone : List (List ℕ) → List (List ℕ) → List ℕ → State → State → Type 0
IsAlone path unfinished bytes before after =
    IsAdded unfinished bytes (cleared path before) after

-- the files of before, and maybe a part of the new one beside
abbrev pub IsPartOf : List (List ℕ) → List ℕ → State → State → Type 0
IsPartOf unfinished bytes before after =
    (after ≡ before) ⊎ IsBeside unfinished bytes before after

-- What there may be at each moment of a put: the files of before, and maybe a part of the new one;
-- or the new one whole, by one of the two names.
abbrev pub IsMoment : List (List ℕ) → List (List ℕ) → List ℕ → State → State → Type 0
IsMoment path unfinished bytes before after =
    IsPartOf unfinished bytes before after
    ⊎ (IsAlone path unfinished bytes before after ⊎ IsPut path bytes before after)
