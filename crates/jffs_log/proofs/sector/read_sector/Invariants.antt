use Rattle.std.proofs.Common.{◌≡◌, ◌-◌, ◌≤◌, length, drop, sum_by}
use Rattle.jffs_node.specs.Record.{record_len}
use Rattle.jffs_log.specs.Sector.{HoldsNodes}
use Rattle.jffs_log.proofs.sector.read_sector.Given as goal

-- the sector begins with the records of the nodes so far
abbrev pub invariant-loop-nodes : goal.invariant-loop-nodes
invariant-loop-nodes l = record {
  holds : HoldsNodes l.sector l.nodes.items (drop l.used l.sector);
  filled : l.used ≡ sum_by record_len l.nodes.items;
  inside : l.used ≤ length l.sector;
}

abbrev pub decreases-loop-nodes : goal.decreases-loop-nodes
decreases-loop-nodes l = length l.sector - l.used
