use Rattle.std.proofs.Common.{◌≡◌, ◌+◌, ◌++◌, drop, map, sum_by}
use Rattle.jffs_node.specs.Record.{record_len}
use Rattle.jffs_log.specs.Image.{placed_from}
use Rattle.jffs_log.specs.LogIndex.{ref_of}
use Rattle.jffs_log.proofs.sector.list_nodes.Given as goal

-- the records so far and those that are left, and the bytes of both
abbrev pub invariant-loop-node : goal.invariant-loop-node
invariant-loop-node l = record {
  listed : l.records.items ++ map ref_of (placed_from l.sector l.offset (drop l.node-index l.nodes)) ≡ l.fn.records.items ++ map ref_of (placed_from l.sector 0 l.nodes);
  room : l.offset + sum_by record_len (drop l.node-index l.nodes) ≡ sum_by record_len l.nodes;
}
