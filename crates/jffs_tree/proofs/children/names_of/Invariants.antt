use Rattle.std.proofs.Common.{◌≡◌, ◌++◌}
use Rattle.jffs_tree.specs.Index.{names_under}
use Rattle.jffs_tree.proofs.listing.Listed.{IsFrom}
use Rattle.jffs_tree.proofs.children.names_of.Given as goal

-- the names so far, and those of the keys that are left
abbrev pub invariant-loop-key : goal.invariant-loop-key
invariant-loop-key l = record {
  can_next : (goal.iterator-loop-key).can_next l.key-iterator;
  is_finite : (goal.iterator-loop-key).is_finite l.key-iterator;
  from : IsFrom l.parent l.key-iterator;
  left : l.names.items ++ names_under l.parent l.key-iterator ≡ names_under l.parent l.children.keys;
}
