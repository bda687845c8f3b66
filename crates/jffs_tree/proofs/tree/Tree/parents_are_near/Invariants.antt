use Rattle.std.proofs.Common.{◌≡◌}
use Rattle.std.specs.List.{list_all}
use Rattle.jffs_tree.specs.Check.{is_near}
use Rattle.jffs_tree.specs.Origin.{state_in}
use Rattle.jffs_tree.proofs.tree.Tree.parents_are_near.Given as goal

abbrev pub invariant-loop-inode : goal.invariant-loop-inode
invariant-loop-inode l = record {
  can_next : (goal.iterator-loop-inode).can_next l.inode-iterator;
  is_finite : (goal.iterator-loop-inode).is_finite l.inode-iterator;
  left : list_all (is_near (state_in l.self)) (state_in l.inode-iterator) ≡ list_all (is_near (state_in l.self)) (state_in l.self);
}
