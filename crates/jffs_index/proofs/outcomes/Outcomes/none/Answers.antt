use Rattle.std.proofs.Common.{ap, ◌∙◌}
use Rattle.jffs_index.specs.Blocks.{Blocks, outcomes_of}
use Rattle.jffs_index.proofs.Blocks.{none_entered}
use Rattle.jffs_index.proofs.outcomes.Outcomes.none.Goals as goal

pub returns : goal.returns
returns c = ap (λ (z : Blocks). outcomes_of z) c.new.ensures.empty ∙ none_entered
