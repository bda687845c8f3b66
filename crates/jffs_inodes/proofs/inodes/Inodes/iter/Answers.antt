use Rattle.std.proofs.Common.{ℕ, List, ap, ◌∙◌}
use Rattle.std.specs.List.{list_all}
use Rattle.jffs_inodes.specs.Held.{Held}
use Rattle.jffs_inodes.proofs.InOrder.{all_in_order}
use Rattle.jffs_inodes.proofs.inodes.Inodes.iter.Goals as goal

pub returns : goal.returns
returns c = record {
  all = λ test.
      ap (λ (es : List (ℕ × Held)). list_all test es) c.iter.ensures.rest
      ∙ all_in_order test c.self.inside.by_number.entries c.iter.ensures.unique
      ∙ ap (λ (t : List (ℕ × Held)). list_all test t) c.self.view_is;
}
