use Rattle.std.proofs.Common.{◌≡◌, drop, map}
use Rattle.std.specs.List.{list_any}
use Rattle.jffs_log.proofs.log_sectors.has_erased.Given as goal

-- what is left decides
abbrev pub invariant-loop-sector : goal.invariant-loop-sector
invariant-loop-sector l = list_any (λ s. s.erased) (map (λ s. s.1) (drop l.sector-index l.found)) ≡ list_any (λ s. s.erased) (map (λ s. s.1) l.found)
