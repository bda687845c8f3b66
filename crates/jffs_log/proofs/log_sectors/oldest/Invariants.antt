use Rattle.std.proofs.Common.{◌≡◌, ◌++◌, drop, map}
use Rattle.std.specs.Option.{option_to_list}
use Rattle.jffs_log.specs.Image.{starts, starts_from}
use Rattle.jffs_log.proofs.log_sectors.oldest.Given as goal

-- the start that was found, and those that are left
abbrev pub invariant-loop-k : goal.invariant-loop-k
invariant-loop-k l = starts (map (λ s. s.1) l.found) ≡ option_to_list l.first ++ starts_from l.was_erased l.k (map (λ s. s.1) (drop l.k l.found))
