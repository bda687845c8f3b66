-- What is seen of a mounted volume, by paths.
use Rattle.std.specs.Prelude.{◌≡◌, ◌-◌, ◌++◌, ℕ, true, false, List, length, Option, Some}
use Rattle.std.specs.Prelude.{None, take, drop, min, unwrap_or, option_map}
use Rattle.jffs_tree.specs.declared.wish.Cause.{Cause}
use Rattle.jffs_tree.specs.declared.wish.Cause.TheVariants.{NotFound, IsDirectory}
use Rattle.jffs_inodes.specs.Inodes.{Tree}
use Rattle.jffs_tree.specs.State.{resolve, is_directory_in}
use Rattle.jffs_tree.specs.Origin.{state_in}
use Rattle.jffs_tree.specs.Look.{bytes_in, size_of}
use Rattle.jffs_tree.specs.Listing.{IsFirst, is_name_after}
use Rattle.jffs_session.specs.declared.looking.Sight.{Sight}
use Rattle.jffs_session.specs.declared.looking.Entry.{Entry}

-- the inode at a path
abbrev pub inode_at : Tree → List (List ℕ) → Option ℕ
inode_at tree path = resolve (state_in tree) path

-- the kind and the size of an inode
abbrev pub sight_in : Tree → ℕ → Sight
sight_in tree inode = record {
  inode = inode;
  directory = is_directory_in (state_in tree) inode;
  size = unwrap_or (size_of tree inode) 0;
}

-- what stands at a path
abbrev pub sight_at : Tree → List (List ℕ) → Option Sight
sight_at tree path = option_map (sight_in tree) (inode_at tree path)

-- a name, and what stands there
abbrev pub entry_in : Tree → (List ℕ × ℕ) → Entry
entry_in tree e = record { name = e.0; sight = sight_in tree e.1 }

-- This is the first name after a given one in the directory at a path, and what stands there. None
-- where none is after it, and where the path leads to no directory.
abbrev pub IsNextAt : Option (List ℕ) → Tree → Option ℕ → Option Entry → Type 0
IsNextAt given tree None found = found ≡ None
IsNextAt given tree (Some directory) found =
    (next : Option (List ℕ × ℕ)) × IsFirst (is_name_after given) tree directory next
    × (found ≡ option_map (entry_in tree) next)

-- The bytes of the file at a path from an offset on were copied into a buffer, as many as there are
-- and as it takes.
pub record IsReadAt (path : List (List ℕ)) (tree : Tree) (offset count : ℕ) (old new : List ℕ) :
    Type 0 where
  pub inode : ℕ
  pub found : inode_at tree path ≡ Some inode
  pub file : is_directory_in (state_in tree) inode ≡ false
  pub counted : count ≡ min (length old) (length (bytes_in tree inode) - offset)
  pub copied : new ≡ take count (drop offset (bytes_in tree inode)) ++ drop count old

-- a directory stands at the path
pub record HasDirectory (path : List (List ℕ)) (tree : Tree) : Type 0 where
  pub inode : ℕ
  pub found : inode_at tree path ≡ Some inode
  pub directory : is_directory_in (state_in tree) inode ≡ true

-- why no bytes are read at a path: nothing stands there, or a directory
abbrev pub IsUnread : List (List ℕ) → Tree → Cause → Type 0
IsUnread path tree NotFound = inode_at tree path ≡ None
IsUnread path tree IsDirectory = HasDirectory path tree
IsUnread path tree cause = ⊥
