-- What looks see.
use Rattle.std.specs.Prelude.{◌≡◌, ◌≢◌, ◌⊎◌, ◌-◌, ◌<◌, ◌≤◌, ◌++◌, ℕ, true, false, List, length, IsUtf8}
use Rattle.std.specs.Prelude.{map, sum, take, drop, min, unwrap_or, Some, None, Ok, Err}
use Rattle.std.specs.List.{filter}
use Rattle.jffs_node.specs.Path.{path_of}
use Rattle.jffs_node.specs.declared.path.PathFault.{PathFault}
use Rattle.jffs_node.specs.declared.path.PathFault.TheVariants as fault
use Rattle.jffs_tree.specs.State.{resolve, is_directory_in}
use Rattle.jffs_inodes.specs.Inodes.{Tree}
use Rattle.jffs_tree.specs.Origin.{state_in}
use Rattle.jffs_tree.specs.Look.{bytes_in, size_of, names_in, holds_version}
use Rattle.jffs_log.specs.Room.{heavy}
use Rattle.jffs_c.specs.declared.code.Code.{Code}
use Rattle.jffs_c.specs.declared.code.Code.TheVariants as code
use Rattle.jffs_c.specs.declared.looks.PathSight.{PathSight}
use Rattle.jffs_c.specs.declared.looks.VolumeUsage.{VolumeUsage}
use Rattle.jffs_c.specs.declared.volume.Volume.{Volume}
use Rattle.jffs_c.specs.Numbered.{IsNumbered}

-- the code of why bytes spell no path
abbrev pub code_of_fault : PathFault → Code
code_of_fault fault.NoSlash = code.PathNoSlash
code_of_fault fault.NameEmpty = code.PathNameEmpty
code_of_fault fault.NameLong = code.PathNameLong
code_of_fault fault.NameByte = code.PathNameByte
code_of_fault fault.Deep = code.PathDeep
code_of_fault fault.Memory = code.Memory

-- it says that bytes spell no path, and nothing of what stands there
abbrev pub IsOfPaths : Code → Type 0
IsOfPaths answer = (answer ≢ code.Done) × (answer ≢ code.NotFound)

-- why these bytes spell no path: they are no text, memory was refused, or their first fault
abbrev pub IsFaultOf : List ℕ → Code → Type 0
IsFaultOf bytes answer =
    ((answer ≡ code.PathNameByte) × (IsUtf8 bytes → ⊥))
    ⊎ (answer ≡ code.Memory)
    ⊎ ((why : PathFault) × (path_of bytes ≡ Err why) × (answer ≡ code_of_fault why))

-- these bytes spell a path, at which the volume has this inode
pub record LeadsTo (bytes : List ℕ) (volume : Volume) (inode : ℕ) : Type 0 where
  pub path : List (List ℕ)
  pub spelled : path_of bytes ≡ Ok path
  pub found : resolve (state_in volume.core.tree) path ≡ Some inode

-- these bytes spell a path, at which the volume has nothing
pub record LeadsNowhere (bytes : List ℕ) (volume : Volume) : Type 0 where
  pub path : List (List ℕ)
  pub spelled : path_of bytes ≡ Ok path
  pub none : resolve (state_in volume.core.tree) path ≡ None

-- why these bytes lead to no inode: they spell no path, or nothing stands there
abbrev pub IsUnreached : List ℕ → Volume → Code → Type 0
IsUnreached bytes volume answer =
    IsFaultOf bytes answer ⊎ ((answer ≡ code.NotFound) × LeadsNowhere bytes volume)

-- these bytes spell a path, at which the volume has a directory
pub record LeadsToDirectory (bytes : List ℕ) (volume : Volume) : Type 0 where
  pub inode : ℕ
  pub leads : LeadsTo bytes volume inode
  pub directory : is_directory_in (state_in volume.core.tree) inode ≡ true

-- why no bytes are read at a path: nothing is reached, or a directory
abbrev pub IsUnread : List ℕ → Volume → Code → Type 0
IsUnread bytes volume answer =
    IsUnreached bytes volume answer
    ⊎ ((answer ≡ code.IsDirectory) × LeadsToDirectory bytes volume)

-- the kind and the size of an inode
abbrev pub sight_in : Tree → ℕ → PathSight
sight_in tree inode = record {
  directory = is_directory_in (state_in tree) inode;
  size = unwrap_or (size_of tree inode) 0;
}

-- what was seen is what stands at the path
pub record IsSeen (bytes : List ℕ) (volume : Volume) (sight : PathSight) : Type 0 where
  pub inode : ℕ
  pub leads : LeadsTo bytes volume inode
  pub seen : sight ≡ sight_in volume.core.tree inode

-- The bytes of the file at the path from an offset on were copied into a buffer, as many as there
-- are and as it takes.
pub record IsRead (bytes : List ℕ) (volume : Volume) (offset count : ℕ) (old new : List ℕ) :
    Type 0 where
  pub inode : ℕ
  pub leads : LeadsTo bytes volume inode
  pub file : is_directory_in (state_in volume.core.tree) inode ≡ false
  pub counted : count ≡ min (length old) (length (bytes_in volume.core.tree inode) - offset)
  pub copied : new
      ≡ take count (drop offset (bytes_in volume.core.tree inode)) ++ drop count old

-- The name with this number in the directory at the path was copied into a buffer, and what stands
-- there was seen.
pub record IsEntry (bytes : List ℕ) (volume : Volume) (number : ℕ) (sight : PathSight) (len : ℕ)
    (old new : List ℕ) : Type 0 where
  pub inode : ℕ
  pub leads : LeadsTo bytes volume inode
  pub name : List ℕ
  pub found : ℕ
  pub numbered : IsNumbered volume.core.tree inode number name found
  pub seen : sight ≡ sight_in volume.core.tree found
  pub counted : len ≡ length name
  pub copied : new ≡ name ++ drop len old

-- what stands at the path has no name with this number; a file has none at all
pub record HasFewer (bytes : List ℕ) (volume : Volume) (number : ℕ) : Type 0 where
  pub inode : ℕ
  pub leads : LeadsTo bytes volume inode
  pub fewer : length (names_in volume.core.tree inode) ≤ number

-- the name with this number in the directory at the path is longer than a buffer
pub record IsLonger (bytes : List ℕ) (volume : Volume) (number room : ℕ) : Type 0 where
  pub inode : ℕ
  pub leads : LeadsTo bytes volume inode
  pub name : List ℕ
  pub found : ℕ
  pub numbered : IsNumbered volume.core.tree inode number name found
  pub longer : room < length name

-- why no name with this number is told to a buffer of so many bytes: nothing is reached, there are
-- fewer names, or it is too long
abbrev pub IsUntold : List ℕ → Volume → ℕ → ℕ → Code → Type 0
IsUntold bytes volume number room answer =
    IsUnreached bytes volume answer
    ⊎ ((answer ≡ code.Nothing) × HasFewer bytes volume number)
    ⊎ ((answer ≡ code.BufferShort) × IsLonger bytes volume number room)

-- How full the log is: its sectors, those that are erased, its records, the lengths of those that
-- live, and the weight that is sure to have room.
pub record IsUsage (volume : Volume) (usage : VolumeUsage) : Type 0 where
  pub sectors : usage.sectors ≡ volume.core.index.sectors
  pub sector_size : usage.sector_size ≡ volume.core.index.sector_size
  pub erased : usage.erased ≡ volume.core.index.sectors - volume.core.index.held
  pub records : usage.records ≡ length volume.core.index.records.items
  pub weight : usage.weight
      ≡ sum (map (λ k. k.length)
      (filter (λ k. holds_version volume.core.tree k.inode k.version)
      volume.core.index.records.items))
  pub sure : usage.sure ≡ heavy volume.core.index.sectors volume.core.index.sector_size
