-- What is saved of an image that a scan may refuse: its records in the order of their versions, of
-- which each is taken that the tree of those taken before it allows.
use Rattle.std.specs.Prelude.{◌≡◌, ℕ, List, [], ◌∷◌, ◌++◌, map, fold, flat_map, filter_map, Option}
use Rattle.std.specs.Prelude.{Some, None, if◌then◌else◌}
use Rattle.std.specs.List.{enumerate_from}
use Rattle.std.specs.List.Sorted.{IsPermutation, IsNonDecreasingBy, IsStableByKey}
use Rattle.std.specs.Ordering.{nat_cmp}
use Rattle.jffs_node.specs.declared.read.Read.{Read}
use Rattle.jffs_node.specs.declared.read.Read.TheVariants.{Free, Bad}
use Rattle.jffs_node.specs.declared.read.Why.{Why}
use Rattle.jffs_node.specs.Record.{record_len}
use Rattle.jffs_node.specs.Reading.{reading_len}
use Rattle.jffs_tree.specs.Origin.{tree_of}
use Rattle.jffs_tree.specs.After.{can_apply}
use Rattle.jffs_log.specs.declared.salvaging.CutSector.{CutSector}
use Rattle.jffs_log.specs.declared.salvaging.SavedRecord.{SavedRecord}
use Rattle.jffs_log.specs.declared.salvaging.Salvaged.{Salvaged}
use Rattle.jffs_log.specs.Image.{Sector, Placed, records_in, past_of}
use Rattle.jffs_log.specs.Volume.{sectors_in}
use Rattle.jffs_log.specs.Scan.{Scanned}

-- the records of all sectors, of each those before its first that isn't closed and lawful
abbrev pub readable_in : List Sector → List Placed
readable_in sectors = flat_map records_in (enumerate_from 0 sectors)

abbrev pub version_at : Placed → ℕ
version_at p = p.node.version

-- the same records in the order of their versions; those of one version stay as they stood
pub record AreInOrder (found ordered : List Placed) : Type 0 where
  pub same : IsPermutation found ordered
  pub rise : IsNonDecreasingBy version_at ordered
  pub stable : IsStableByKey version_at nat_cmp found ordered

-- the records that were taken, the oldest first, and those that were left out
pub record Sifted : Type 0 where
  pub taken : List Placed
  pub left_out : List Placed

-- the next record: it is taken if the tree of those taken before it allows that
abbrev pub sift : Sifted → Placed → Sifted
sift s p =
    if can_apply (tree_of (past_of s.taken)) p.node then record s { taken = s.taken ++ p ∷ [] }
    else record s { left_out = s.left_out ++ p ∷ [] }

abbrev pub sifted : List Placed → Sifted
sifted ordered = fold sift (record { taken = []; left_out = [] }) ordered

-- what is said of a record that was found
abbrev pub saved_of : Placed → SavedRecord
saved_of p = record {
  version = p.node.version;
  inode = p.node.inode;
  length = record_len p.node;
  sector = p.sector;
  offset = p.offset;
}

-- this was made of those that were sifted
pub record IsMadeOf (s : Sifted) (made : Salvaged) : Type 0 where
  pub tree : made.tree ≡ tree_of (past_of s.taken)
  pub taken : made.taken.items ≡ map saved_of s.taken
  pub left_out : made.left_out.items ≡ map saved_of s.left_out

abbrev pub cut_at : ℕ → ℕ → Option Why → CutSector
cut_at sector offset why = record { sector = sector; offset = offset; why = why }

-- where the reading of a sector ended, if not at erased bytes
abbrev pub cut_before : ℕ → ℕ → Read → Option CutSector
cut_before sector offset Free = None
cut_before sector offset (Bad why) = Some (cut_at sector offset (Some why))
cut_before sector offset _ = Some (cut_at sector offset None)

abbrev pub cut_in : (ℕ × Sector) → Option CutSector
cut_in s = cut_before s.0 (reading_len s.1.reading) s.1.reading.ending

-- what is saved of the image, and what isn't
pub record IsSalvaged (count len : ℕ) (image : List ℕ) (made : Salvaged) : Type 0 where
  pub ordered : List Placed
  pub in_order : AreInOrder (readable_in (sectors_in count len image)) ordered
  pub records : IsMadeOf (sifted ordered) made
  pub cut : made.cut.items ≡ filter_map cut_in (enumerate_from 0 (sectors_in count len image))

-- all of the log that a scan finds
pub record IsWhole (scanned : Scanned) (made : Salvaged) : Type 0 where
  pub tree : made.tree ≡ scanned.tree
  pub taken : made.taken.items ≡ map saved_of scanned.log
  pub left_out : made.left_out.items ≡ []
