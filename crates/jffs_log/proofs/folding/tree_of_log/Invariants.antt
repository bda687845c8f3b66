use Rattle.std.proofs.Common.{take, reverse}
use Rattle.jffs_log.specs.ScanFound.{IsMadeBy, nodes_held}
use Rattle.jffs_log.proofs.folding.tree_of_log.Given as goal

-- the tree of the sectors so far
abbrev pub invariant-loop-sector : goal.invariant-loop-sector
invariant-loop-sector l = IsMadeBy (reverse (nodes_held (take l.sector-index l.held))) l.made
