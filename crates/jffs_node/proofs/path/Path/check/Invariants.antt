use Rattle.std.proofs.Common.{◌≡◌, ◌+◌, ◌≤◌, length}
use Rattle.std.specs.Option.{option_copied}
use Rattle.std.specs.Result.{result_err}
use Rattle.jffs_node.specs.Path.{path_of, pieces_of, left_len, fault_after}
use Rattle.jffs_node.proofs.path.Path.check.Given as goal

-- what is left decides, after as many names as were read
abbrev pub invariant-loop-left : goal.invariant-loop-left
invariant-loop-left l = record {
  same : result_err (path_of l.fn.text) ≡ fault_after l.count (pieces_of (option_copied l.left));
  within : l.count + left_len (option_copied l.left) ≤ length l.fn.text;
}

abbrev pub decreases-loop-left : goal.decreases-loop-left
decreases-loop-left l = left_len (option_copied l.left)
