use Rattle.std.proofs.Common.{◌≡◌, ◌++◌, drop, map, flat_map}
use Rattle.jffs_log.specs.Image.{records_in}
use Rattle.jffs_log.specs.LogIndex.{ref_of}
use Rattle.jffs_log.proofs.log_sectors.list_records.Given as goal

-- the records so far, and those of the sectors that are left
abbrev pub invariant-loop-sector : goal.invariant-loop-sector
invariant-loop-sector l = l.records.items ++ map ref_of (flat_map records_in (drop l.sector-index l.held)) ≡ map ref_of (flat_map records_in l.held)
