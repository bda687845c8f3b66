use Rattle.std.proofs.Common.{◌≡◌, ◌++◌, flat_map}
use Rattle.std.specs.Vec.Iter.{into_iter_items}
use Rattle.jffs_log.specs.Image.{records_in}
use Rattle.jffs_log.proofs.salvaging.records_of.Given as goal

-- the records so far, and those of the sectors that are left
abbrev pub invariant-loop-read : goal.invariant-loop-read
invariant-loop-read l = record {
  can : (goal.iterator-loop-read).can_next l.read-iterator;
  ends : (goal.iterator-loop-read).is_finite l.read-iterator;
  listed : l.records.items ++ flat_map records_in (into_iter_items l.read-iterator) ≡ flat_map records_in l.fn.found.items;
}
