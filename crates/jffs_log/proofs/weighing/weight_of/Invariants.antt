use Rattle.std.proofs.Common.{◌≡◌, ◌+◌, ◌*◌, ◌≤◌, ◌++◌, length, map, filter, sum}
use Rattle.jffs_tree.specs.Look.{holds_version}
use Rattle.jffs_log.proofs.weighing.weight_of.Given as goal

-- what was weighed so far, and the records that are left
abbrev pub invariant-records : goal.invariant-records
invariant-records l = record {
  can_next : (goal.iterator-records).can_next l.record-iterator;
  is_finite : (goal.iterator-records).is_finite l.record-iterator;
  weighed : l.weight
      + sum (map (λ k. k.length) (filter (λ k. holds_version l.tree k.inode k.version) (l.record-iterator.head.now ++ l.record-iterator.wrapped.now)))
      ≡ sum (map (λ k. k.length) (filter (λ k. holds_version l.tree k.inode k.version) l.records.items));
  small : l.weight + 4294967295 * length (l.record-iterator.head.now ++ l.record-iterator.wrapped.now) ≤ 4294967295 * length l.records.items;
}
