-- The text of a state: a directory before its names, names in the order of their bytes.
use Rattle.std.specs.Prelude.{ℕ, zero, suc, ◌+◌, ◌/◌, ◌%◌, nat_lt, List, [], ◌∷◌, ◌++◌, length}
use Rattle.std.specs.Prelude.{flat_map, codes, decimal, if◌then◌else◌}
use Rattle.std.specs.Ordering.{is_gt}
use Rattle.jffs_tree.specs.State.{State, root, at, is_directory_in}
use Rattle.jffs_inodes.specs.Held.{bytes_of}
use Rattle.jffs_tree.specs.Look.{children, name_cmp}
use Rattle.jffs_node.specs.declared.path.TheConstants.{PATH_DEPTH_MAX}

abbrev pub line_end : List ℕ
line_end = 10 ∷ []

-- one lower case digit
abbrev pub hex_digit : ℕ → ℕ
hex_digit d = if nat_lt d 10 then d + 48 else d + 87

-- two digits a byte
abbrev pub hex : List ℕ → List ℕ
hex bytes = flat_map (λ b. hex_digit (b / 16) ∷ hex_digit (b % 16) ∷ []) bytes

-- `-` for no bytes
abbrev pub shown_bytes : List ℕ → List ℕ
shown_bytes [] = codes "-"
shown_bytes (b ∷ bytes) = hex (b ∷ bytes)

-- a size between two blanks
abbrev pub size_text : ℕ → List ℕ
size_text size = codes " " ++ (decimal size ++ codes " ")

abbrev pub directory_line : List ℕ → List ℕ
directory_line path = codes "d " ++ path ++ line_end

abbrev pub file_line : List ℕ → List ℕ → List ℕ
file_line path bytes =
    codes "f " ++ path ++ size_text (length bytes) ++ shown_bytes bytes ++ line_end

-- a name put before the first that is greater or equal
abbrev pub put_by_name : (List ℕ × ℕ) → List (List ℕ × ℕ) → List (List ℕ × ℕ)
put_by_name a [] = a ∷ []
put_by_name a (b ∷ bs) = if is_gt (name_cmp a b) then b ∷ put_by_name a bs else a ∷ b ∷ bs

-- names in the order of their bytes, equal names by inode
abbrev pub by_name : List (List ℕ × ℕ) → List (List ℕ × ℕ)
by_name [] = []
by_name (a ∷ names) = put_by_name a (by_name names)

-- the path of a name in the directory whose path is `above`
abbrev pub extended_path : List ℕ → List ℕ → List ℕ
extended_path above name = above ++ (codes "/" ++ name)

-- The text of one name and its inode, in the directory whose path is `above`; `deeper` gives what
-- stands below a directory.
abbrev pub name_text : State → (List ℕ → ℕ → List ℕ) → List ℕ → (List ℕ × ℕ) → List ℕ
name_text s deeper above a =
    let path = extended_path above a.0 in
    if is_directory_in s a.1 then directory_line path ++ deeper path a.1
    else file_line path (bytes_of (at s a.1))

-- What stands below the directory of that path and inode, at most as many levels down as the first
-- number says. The root's path is empty here.
unfoldable pub below : ℕ → State → List ℕ → ℕ → List ℕ
below zero s above i = []
below (suc levels) s above i =
    flat_map (name_text s (below levels s) above) (by_name (children i s))

-- no path has more than eight names
unfoldable pub dump_text : State → List ℕ
dump_text s = directory_line (codes "/") ++ below PATH_DEPTH_MAX s [] root
