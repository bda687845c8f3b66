use Rattle.std.proofs.Common.{◌≡◌, ◌+◌, ◌≤◌, not, drop, filter, length}
use Rattle.jffs_log.proofs.log_sectors.count_held.Given as goal

-- those so far and those that are left
abbrev pub invariant-loop-sector : goal.invariant-loop-sector
invariant-loop-sector l = record {
  left : l.many + length (filter (λ s. not s.1.erased) (drop l.sector-index l.found)) ≡ length (filter (λ s. not s.1.erased) l.found);
  few : l.many ≤ l.sector-index;
}
