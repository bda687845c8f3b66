use Rattle.std.proofs.Common.{◌≡◌, ◌+◌, ◌++◌, length, map, List}
use Rattle.rtrb.specs.Ring.{sent, received, known_items}
use Rattle.jffs_line.specs.declared.rings.Note.{Note}
use Rattle.jffs_line.specs.Rings.{as_request}
use Rattle.jffs_line.proofs.rings.settling.empty.Given as goal

abbrev pub invariant-loop-index : goal.invariant-loop-index
invariant-loop-index l = record {
  left : length (known_items l.consumer) + l.index ≡ l.count;
  whole : received l.consumer ++ known_items l.consumer ≡ sent l.fn.hand.producer;
  taken_out : (notes : List Note) × (received l.consumer ≡ received l.fn.ring.consumer ++ notes) × (l.waiting.items ≡ l.fn.waiting.items ++ map (as_request l.number) notes);
}
