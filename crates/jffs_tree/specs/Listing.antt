-- The names of a directory in order, and the first after a given one.
use Rattle.std.specs.Prelude.{◌≡◌, ℕ, ◌+◌, Bool, true, List, Option, Some, None}
use Rattle.std.specs.List.{find, slice_get}
use Rattle.std.specs.List.Sorted.{IsPermutation, IsStrictlySortedBy}
use Rattle.std.specs.Ordering.{is_lt, nat_cmp}
use Rattle.std.specs.Cmp.Lexicographic.{slice_cmp}
use Rattle.jffs_inodes.specs.Inodes.{Tree}
use Rattle.jffs_tree.specs.Look.{names_in, name_cmp}
use Rattle.jffs_tree.specs.Index.{ChildKey, key_cmp}

-- these are the names in a directory, in order, each with its inode
pub record IsListing (tree : Tree) (directory : ℕ) (names : List (List ℕ × ℕ)) : Type 0 where
  pub all : IsPermutation (names_in tree directory) names
  pub rising : IsStrictlySortedBy name_cmp names

-- whether a name is after a given one, equal names by inode; each is after none
abbrev pub is_after : Option (List ℕ × ℕ) → (List ℕ × ℕ) → Bool
is_after None e = true
is_after (Some given) e = is_lt (name_cmp given e)

-- whether a name's bytes are after those of a given one; each is after none
abbrev pub is_name_after : Option (List ℕ) → (List ℕ × ℕ) → Bool
is_name_after None e = true
is_name_after (Some given) e = is_lt (slice_cmp nat_cmp given e.0)

-- whether the key of a name in the same directory is after a given key
abbrev pub is_past : ChildKey → (List ℕ × ℕ) → Bool
is_past key e = is_lt (key_cmp key (key.0, Some e.0, e.1))

-- this is the first name of a directory that passes a test, or None where none does
pub record IsFirst (test : (List ℕ × ℕ) → Bool) (tree : Tree) (directory : ℕ)
    (found : Option (List ℕ × ℕ)) : Type 0 where
  pub names : List (List ℕ × ℕ)
  pub listing : IsListing tree directory names
  pub is : found ≡ find test names

-- A directory has one listing.
abbrev pub ListingsAreOne : Type 0
ListingsAreOne = (tree : Tree) (directory : ℕ) (names others : List (List ℕ × ℕ))
    → IsListing tree directory names → IsListing tree directory others → names ≡ others

-- Who goes on from each name to the first after it goes through the listing: the first after the
-- name with a number is the name with the next number, and None after the last.
abbrev pub NamesFollow : Type 0
NamesFollow = (tree : Tree) (directory : ℕ) (names : List (List ℕ × ℕ)) (number : ℕ)
    (e : List ℕ × ℕ) → IsListing tree directory names → slice_get names number ≡ Some e
    → find (is_after (Some e)) names ≡ slice_get names (number + 1)

-- And it begins with the first after none.
abbrev pub NamesBegin : Type 0
NamesBegin = (names : List (List ℕ × ℕ)) → find (is_after None) names ≡ slice_get names 0
