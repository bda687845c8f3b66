-- The names of a directory by their numbers.
use Rattle.std.specs.Prelude.{◌≡◌, ℕ, List, Some, slice_get}
use Rattle.std.specs.List.Sorted.{IsPermutation, IsSorted}
use Rattle.jffs_inodes.specs.Inodes.{Tree}
use Rattle.jffs_tree.specs.Look.{names_in, name_cmp}

-- the name with this number in a directory, in the order of their bytes, and the inode there
pub record IsNumbered (tree : Tree) (inode number : ℕ) (name : List ℕ) (found : ℕ) : Type 0 where
  pub names : List (List ℕ × ℕ)
  pub all : IsPermutation (names_in tree inode) names
  pub ordered : IsSorted name_cmp names
  pub numbered : slice_get names number ≡ Some (name, found)
