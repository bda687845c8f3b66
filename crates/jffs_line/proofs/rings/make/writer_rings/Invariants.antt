use Rattle.std.proofs.Common.{◌≡◌, map}
use Rattle.std.specs.List.{range_with_len}
use Rattle.jffs_line.specs.Rings.{AreFresh}
use Rattle.jffs_line.proofs.rings.make.writer_rings.Given as goal

abbrev pub invariant-loop-index : goal.invariant-loop-index
invariant-loop-index l = record {
  fresh : AreFresh l.capacity l.hands.items l.rings.items;
  numbers : map (λ x. x.number) l.rings.items ≡ range_with_len 1 l.index;
}
