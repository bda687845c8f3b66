use Rattle.std.proofs.Common.{◌≡◌}
use Rattle.std.specs.List.{list_all}
use Rattle.jffs_tree.specs.State.{is_directory_in}
use Rattle.jffs_tree.specs.Origin.{state_in}
use Rattle.jffs_tree.proofs.tree.Tree.parents_are_there.Given as goal

abbrev pub invariant-loop-found : goal.invariant-loop-found
invariant-loop-found l = record {
  can_next : (goal.iterator-loop-found).can_next l.found-iterator;
  is_finite : (goal.iterator-loop-found).is_finite l.found-iterator;
  left : list_all (λ e. is_directory_in (state_in l.self) e.1.parent) (state_in l.found-iterator) ≡ list_all (λ e. is_directory_in (state_in l.self) e.1.parent) (state_in l.self);
}
