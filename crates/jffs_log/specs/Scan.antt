-- The scan of an image: the first refusal, or the log, and whether it is clean. Its tree is that of
-- the log.
use Rattle.std.specs.Prelude.{ℕ, ◌+◌, Bool, true, not, ◌&&◌, nat_lt, List, [], ◌∷◌, length, map}
use Rattle.std.specs.Prelude.{Option, Some, None, Result, Ok, Err, if◌then◌else◌}
use Rattle.std.specs.List.{list_any}
use Rattle.jffs_node.specs.declared.node.Node.{Node}
use Rattle.jffs_node.specs.declared.read.Read.{Read}
use Rattle.jffs_node.specs.declared.read.Read.TheVariants.{Bad}
use Rattle.jffs_node.specs.Reading.{reading_len}
use Rattle.jffs_flash.specs.Sizes.{is_geometry}
use Rattle.jffs_log.specs.declared.scanning.ScanWhy.{ScanWhy}
use Rattle.jffs_log.specs.declared.scanning.ScanWhy.TheVariants.{Geometry, BadRecord, NoErased}
use Rattle.jffs_log.specs.declared.scanning.ScanWhy.TheVariants.{Scattered, BadOrder, BadTree}
use Rattle.jffs_inodes.specs.Inodes.{Tree}
use Rattle.jffs_tree.specs.Origin.{tree_of}
use Rattle.jffs_tree.specs.Check.{makes_tree}
use Rattle.jffs_log.specs.Image.{Sector, Placed, sector_of, is_one_run, log_of, nodes_of, past_of}
use Rattle.jffs_log.specs.Image.{is_clean}

pub record Scanned : Type 0 where
  pub log : List Placed
  pub tree : Tree
  pub clean : Bool

abbrev pub bad_record : ℕ → ℕ → Read → Option ScanWhy → Option ScanWhy
bad_record sector offset (Bad why) later = Some (BadRecord sector offset why)
bad_record sector offset _ later = later

-- the first sector whose reading ended at a bad record
abbrev pub first_bad : ℕ → List Sector → Option ScanWhy
first_bad k [] = None
first_bad k (s ∷ sectors) =
    bad_record k (reading_len s.reading) s.reading.ending (first_bad (k + 1) sectors)

abbrev pub versions_rise : List Node → Bool
versions_rise [] = true
versions_rise (n ∷ []) = true
versions_rise (n ∷ m ∷ nodes) = nat_lt n.version m.version && versions_rise (m ∷ nodes)

abbrev pub or_refuse : Option ScanWhy → Result Scanned ScanWhy → Result Scanned ScanWhy
or_refuse (Some why) later = Err why
or_refuse None later = later

-- the first that holds, else this
abbrev pub unless : List (Bool × ScanWhy) → Scanned → Result Scanned ScanWhy
unless [] scanned = Ok scanned
unless (c ∷ causes) scanned = if c.0 then Err c.1 else unless causes scanned

abbrev pub scan_sectors : List Sector → Result Scanned ScanWhy
scan_sectors sectors = or_refuse (first_bad 0 sectors) (unless (
    (not (list_any (λ s. s.erased) sectors), NoErased)
    ∷ (not (is_one_run sectors), Scattered)
    ∷ (not (versions_rise (nodes_of (log_of sectors))), BadOrder)
    ∷ (not (makes_tree (past_of (log_of sectors))), BadTree)
    ∷ [])
    (record {
      log = log_of sectors;
      tree = tree_of (past_of (log_of sectors));
      clean = is_clean sectors;
    }))

abbrev pub scan : ℕ → List (List ℕ) → Result Scanned ScanWhy
scan sector_size image =
    if is_geometry (length image) sector_size then scan_sectors (map sector_of image)
    else Err Geometry
