use Rattle.std.proofs.Common.{ℕ, ◌+◌, ◌++◌, [], ◌∷◌, List, ap, ◌∙◌, sym}
use Rattle.jffs_line.proofs.Lists.{range_more}
use Rattle.jffs_line.proofs.rings.make.writer_rings.Goals as goal

pub loop-index-preserved : goal.loop-index-preserved
loop-index-preserved c = record {
  fresh = c.in_ok-add.ensures.fresh;
  numbers = c.in_ok-add.ensures.numbers ∙ ap (λ (l : List ℕ). l ++ (c.loop-index.index + 1) ∷ []) c.loop-index.invariant.numbers ∙ sym (range_more c.loop-index.index);
}
