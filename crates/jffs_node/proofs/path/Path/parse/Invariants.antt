use Rattle.std.proofs.Common.{◌≡◌, ◌≤◌, true, length}
use Rattle.std.specs.Option.{option_copied}
use Rattle.jffs_node.specs.declared.path.TheConstants.{PATH_DEPTH_MAX}
use Rattle.jffs_node.specs.Path.{IsPath, path_of, pieces_of, left_len, answer_after}
use Rattle.jffs_node.proofs.path.Path.parse.Given as goal

-- what is left decides, after the names that were read
abbrev pub invariant-loop-left : goal.invariant-loop-left
invariant-loop-left l = record {
  same : path_of l.fn.text ≡ answer_after l.names.items l.deep (pieces_of (option_copied l.left));
  lawful : IsPath l.names.items;
  full : l.deep ≡ true → PATH_DEPTH_MAX ≤ length l.names.items;
}

abbrev pub decreases-loop-left : goal.decreases-loop-left
decreases-loop-left l = left_len (option_copied l.left)
