use Rattle.std.proofs.Common.{◌≡◌}
use Rattle.std.specs.List.{list_all}
use Rattle.jffs_inodes.specs.Held.{bytes_are_written}
use Rattle.jffs_tree.proofs.tree.Tree.bytes_are_written.Given as goal

abbrev pub invariant-loop-found : goal.invariant-loop-found
invariant-loop-found l = record {
  can_next : (goal.iterator-loop-found).can_next l.found-iterator;
  is_finite : (goal.iterator-loop-found).is_finite l.found-iterator;
  left : list_all (λ h. bytes_are_written h.1) l.found-iterator ≡ list_all (λ h. bytes_are_written h.1) l.self;
}
