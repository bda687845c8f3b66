-- The grammar of paths, and the first fault of a text that is none.
use Rattle.std.specs.Prelude.{ℕ, ◌+◌, ◌≤◌, Bool, ◌||◌, ◌==◌, nat_lt, List, [], ◌∷◌, ◌++◌, length}
use Rattle.std.specs.Prelude.{Option, Some, None, Result, Ok, Err, if◌then◌else◌, IsTrue}
use Rattle.std.specs.List.{AllByRecursion, list_all, slice_split}
use Rattle.std.specs.Option.{option_copied}
use Rattle.std.specs.Borrow.{Bor}
use Rattle.jffs_node.specs.declared.path.PathFault.{PathFault}
use Rattle.jffs_node.specs.declared.path.PathFault.TheVariants.{NoSlash, NameEmpty, NameLong}
use Rattle.jffs_node.specs.declared.path.PathFault.TheVariants.{NameByte, Deep}
use Rattle.jffs_node.specs.Name.{is_name, is_name_byte}
use Rattle.jffs_node.specs.declared.name.TheConstants.{NAME_MAX}
use Rattle.jffs_node.specs.declared.path.TheConstants.{PATH_DEPTH_MAX}

-- what stands between the slashes after the first; `/` alone is the root
abbrev pub names_in : List ℕ → List (List ℕ)
names_in [] = []
names_in (b ∷ text) = slice_split (λ c. c == 47) (b ∷ text)

abbrev pub or_else : Option PathFault → Option PathFault → Option PathFault
or_else (Some fault) later = Some fault
or_else None later = later

-- the fault of bytes that are too few or too many for a name
abbrev pub length_fault : ℕ → Option PathFault
length_fault n =
    if n == 0 then Some NameEmpty else (if nat_lt NAME_MAX n then Some NameLong else None)

abbrev pub name_fault : List ℕ → Option PathFault
name_fault name =
    or_else (length_fault (length name))
    (if list_all is_name_byte name then None else Some NameByte)

-- the fault of the first bad name
abbrev pub names_fault : List (List ℕ) → Option PathFault
names_fault [] = None
names_fault (name ∷ names) = or_else (name_fault name) (names_fault names)

abbrev pub unless_fault : List (List ℕ) → Option PathFault → Result (List (List ℕ)) PathFault
unless_fault names None = Ok names
unless_fault names (Some fault) = Err fault

abbrev pub checked_names : List (List ℕ) → Result (List (List ℕ)) PathFault
checked_names names =
    unless_fault names (or_else (names_fault names)
    (if nat_lt PATH_DEPTH_MAX (length names) then Some Deep else None))

-- at most eight names
pub record IsPath (names : List (List ℕ)) : Type 0 where
  pub short : length names ≤ PATH_DEPTH_MAX
  pub each : AllByRecursion (λ name. IsTrue (is_name name)) names

-- the names of a path, or its first fault
abbrev pub path_of : List ℕ → Result (List (List ℕ)) PathFault
path_of [] = Err NoSlash
path_of (b ∷ text) = if b == 47 then checked_names (names_in text) else Err NoSlash

abbrev pub unless_bad : List ℕ → Option PathFault → Result (List ℕ) PathFault
unless_bad name None = Ok name
unless_bad name (Some fault) = Err fault

-- the name that bytes spell, or their fault
abbrev pub named : List ℕ → Result (List ℕ) PathFault
named bytes = unless_bad bytes (name_fault bytes)

-- the pieces of what is left of a text, if anything is
abbrev pub pieces_of : Option (List ℕ) → List (List ℕ)
pieces_of None = []
pieces_of (Some text) = slice_split (λ c. c == 47) text

-- a measure of what is left
abbrev pub left_len : Option (List ℕ) → ℕ
left_len None = 0
left_len (Some text) = length text + 1

-- the path of a text, by what stands after its first slash
abbrev pub path_after : Result (Option (Bor (List ℕ))) PathFault → Result (List (List ℕ)) PathFault
path_after (Ok rest) = checked_names (pieces_of (option_copied rest))
path_after (Err fault) = Err fault

-- the fault, where so many names were read, and these pieces are left
abbrev pub fault_after : ℕ → List (List ℕ) → Option PathFault
fault_after count pieces =
    or_else (names_fault pieces)
    (if nat_lt PATH_DEPTH_MAX (count + length pieces) then Some Deep else None)

-- the answer, where these names were read, too many or not, and these pieces are left
abbrev pub answer_after : List (List ℕ) → Bool → List (List ℕ) → Result (List (List ℕ)) PathFault
answer_after names deep pieces =
    unless_fault (names ++ pieces)
    (or_else (names_fault pieces)
    (if deep || nat_lt PATH_DEPTH_MAX (length names + length pieces) then Some Deep else None))
