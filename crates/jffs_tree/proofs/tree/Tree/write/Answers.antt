use Rattle.std.proofs.Common.{◌≡◌, ℕ, ◌≤◌, length, Some, option_map, sym, ap, ◌∙◌}
use Rattle.jffs_node.specs.Record.{file_max}
use Rattle.jffs_inodes.specs.Held.{Held}
use Rattle.jffs_inodes.specs.Inodes.{Tree, held_in}
use Rattle.jffs_inodes.specs.Marked.{HasNewest}
use Rattle.jffs_inodes.proofs.Marked.{few_marks}
use Rattle.jffs_tree.proofs.tree.Tree.write.Goals as goal

found_newest : (tree : Tree) (i : ℕ) (h : Held) (k : ℕ) → held_in tree i ≡ Some h → h.newest ≡ Some k → length h.writers ≤ file_max → HasNewest tree i (Some k)
found_newest tree i h k is newest few = record {
  held = sym (ap (λ o. option_map (λ x. x.newest) o) is ∙ ap (λ o. Some o) newest);
  few = λ v. few_marks tree v i h k file_max is newest few;
}

pub write_here-requires-clause-newest : goal.write_here-requires-clause-newest
write_here-requires-clause-newest c =
    found_newest c.args.self.now c.args.node.now.inode c.in-Some.found.now c.newest.result (sym c.in-Some.ensures) c.newest.ensures.newest c.newest.ensures.few

pub write_elsewhere-requires-2-clause-newest : goal.write_elsewhere-requires-2-clause-newest
write_elsewhere-requires-2-clause-newest c =
    found_newest c.args.self.now c.args.node.now.inode c.in-Some.found.now c.newest.result (sym c.in-Some.ensures) c.newest.ensures.newest c.newest.ensures.few
