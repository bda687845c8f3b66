use Rattle.std.proofs.Common.{◌≡◌, None}
use Rattle.jffs_tree.specs.Index.{apart_from}
use Rattle.jffs_tree.proofs.children.are_apart.Given as goal

-- what is left is apart from the key before it just where all keys are apart
abbrev pub invariant-loop-key : goal.invariant-loop-key
invariant-loop-key l = record {
  can_next : (goal.iterator-loop-key).can_next l.key-iterator;
  is_finite : (goal.iterator-loop-key).is_finite l.key-iterator;
  left : apart_from l.before l.key-iterator ≡ apart_from None l.children.keys;
}
