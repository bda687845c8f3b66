-- A sector that holds the records of some nodes, one after another, and then a rest.
use Rattle.std.specs.Prelude.{◌≡◌, ℕ, ◌-◌, ◌/◌, List, [], ◌∷◌, ◌++◌, length, flat_map, IsTrue}
use Rattle.jffs_node.specs.declared.node.Node.{Node}
use Rattle.jffs_node.specs.Record.{spelling, record_len, dsize, is_lawful, fits_rest}
use Rattle.jffs_log.specs.declared.sector.TheConstants.{RECORDS_PER_SECTOR}

-- the records of these nodes, one after another
abbrev pub spellings : List Node → List ℕ
spellings nodes = flat_map spelling nodes

-- each node is lawful where it stands, in a sector of which that many bytes are left
abbrev pub FitSector : ℕ → ℕ → List Node → Type 0
FitSector record_max len [] = Unit {0}
FitSector record_max len (n ∷ nodes) =
    IsTrue (is_lawful n) × IsTrue (fits_rest n.kind (dsize n) record_max len)
    × FitSector record_max (len - record_len n) nodes

-- the sector is their records and then these bytes
pub record HoldsNodes (sector : List ℕ) (nodes : List Node) (rest : List ℕ) : Type 0 where
  pub spelled : sector ≡ spellings nodes ++ rest
  pub fit : FitSector (length sector / RECORDS_PER_SECTOR) (length sector) nodes
