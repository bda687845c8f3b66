-- What is seen of a volume, and the name that was told last.
use Rattle.std.specs.Prelude.{◌≡◌, ◌⊎◌, ◌≤◌, ℕ, length}
use Rattle.jffs_inodes.specs.Inodes.{Tree}
use Rattle.jffs_tree.specs.Look.{names_in}
use Rattle.jffs_core.specs.CoreState.{CoreState}
use Rattle.jffs_c.specs.declared.code.Code.{Code}
use Rattle.jffs_c.specs.declared.code.Code.TheVariants as code
use Rattle.jffs_c.specs.declared.place.Place.{Place}
use Rattle.jffs_c.specs.declared.volume.Phase.{Phase}
use Rattle.jffs_c.specs.Numbered.{IsNumbered}

-- The core, and how far the calls of its device are carried out.
pub record VolumeState : Type 0 where
  pub core : CoreState
  pub phase : Phase

-- the directory has this name with this number, and this inode under it
abbrev pub IsPlace : Tree → Place → Type 0
IsPlace tree place = IsNumbered tree place.directory place.number place.name place.inode

-- it is the place of the name with this number in this directory
pub record IsPlaceAt (tree : Tree) (directory number : ℕ) (place : Place) : Type 0 where
  pub is : IsPlace tree place
  pub there : place.directory ≡ directory
  pub numbered : place.number ≡ number

-- why no place of a name with this number is told: memory lacked, or there are fewer names
abbrev pub IsNoPlace : Tree → ℕ → ℕ → Code → Type 0
IsNoPlace tree directory number answer =
    (answer ≡ code.Memory)
    ⊎ ((answer ≡ code.Nothing) × (length (names_in tree directory) ≤ number))
