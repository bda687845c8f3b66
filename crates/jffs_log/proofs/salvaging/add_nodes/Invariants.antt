use Rattle.std.proofs.Common.{◌≡◌, ◌+◌, ◌++◌, sum_by}
use Rattle.std.specs.Vec.Iter.{into_iter_items}
use Rattle.jffs_node.specs.Record.{record_len}
use Rattle.jffs_log.specs.Image.{placed_from}
use Rattle.jffs_log.proofs.salvaging.add_nodes.Given as goal

-- the records so far and those that are left, and the bytes of both
abbrev pub invariant-loop-node : goal.invariant-loop-node
invariant-loop-node l = record {
  can : (goal.iterator-loop-node).can_next l.node-iterator;
  ends : (goal.iterator-loop-node).is_finite l.node-iterator;
  added : l.records.items ++ placed_from l.sector l.offset (into_iter_items l.node-iterator) ≡ l.fn.records.items ++ placed_from l.sector 0 l.fn.nodes.items;
  room : l.offset + sum_by record_len (into_iter_items l.node-iterator) ≡ sum_by record_len l.fn.nodes.items;
}
