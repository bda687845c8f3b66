use Rattle.std.proofs.Common.{◌≡◌, ◌++◌, ◌-◌, ◌*◌, length}
use Rattle.std.specs.List.{enumerate_from}
use Rattle.jffs_log.specs.Volume.{sectors_in}
use Rattle.jffs_log.proofs.salvaging.read_all.Given as goal

-- the sectors so far, and those of the bytes that are left
abbrev pub invariant-loop-sector : goal.invariant-loop-sector
invariant-loop-sector l = record {
  read : l.found.items ++ enumerate_from l.sector (sectors_in (l.sectors - l.sector) l.sector_size l.rest) ≡ enumerate_from 0 (sectors_in l.sectors l.sector_size l.image);
  left : length l.rest ≡ (l.sectors - l.sector) * l.sector_size;
}
