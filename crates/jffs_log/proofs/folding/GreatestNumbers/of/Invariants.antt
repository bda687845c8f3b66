use Rattle.std.proofs.Common.{◌≡◌, ◌+◌, ◌≤◌, ◌++◌, max, drop}
use Rattle.jffs_log.specs.Scan.{versions_rise}
use Rattle.jffs_log.specs.Room.{greatest_inode}
use Rattle.jffs_log.specs.ScanFound.{last_version, nodes_held}
use Rattle.jffs_log.proofs.scans.ScanNumbers.{rise_from, last_from}
use Rattle.jffs_log.proofs.folding.GreatestNumbers.of.Given as goal

-- what is left decides
abbrev pub invariant-loop-sector : goal.invariant-loop-sector
invariant-loop-sector l = record {
  rise : rise_from l.numbers.version (nodes_held (drop l.sector-index l.held)) ≡ versions_rise (nodes_held l.held);
  version : last_from l.numbers.version (nodes_held (drop l.sector-index l.held)) ≡ last_version (nodes_held l.held);
  inode : max l.numbers.inode (greatest_inode (nodes_held (drop l.sector-index l.held))) ≡ greatest_inode (nodes_held l.held);
  least : 1 ≤ l.numbers.inode;
}

-- what is left of the sector in hand, and of those after it
abbrev pub invariant-loop-node : goal.invariant-loop-node
invariant-loop-node l = record {
  rise : rise_from l.numbers.version (drop l.node-index l.node-items ++ nodes_held (drop (l.sector-index + 1) l.held)) ≡ versions_rise (nodes_held l.held);
  version : last_from l.numbers.version (drop l.node-index l.node-items ++ nodes_held (drop (l.sector-index + 1) l.held)) ≡ last_version (nodes_held l.held);
  inode : max l.numbers.inode (greatest_inode (drop l.node-index l.node-items ++ nodes_held (drop (l.sector-index + 1) l.held))) ≡ greatest_inode (nodes_held l.held);
  least : 1 ≤ l.numbers.inode;
}
