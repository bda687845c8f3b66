use Rattle.std.proofs.Common.{ap, ◌∙◌}
use Rattle.std.proofs.lemmas.Bool.{cond-false}
use Rattle.jffs_index.specs.declared.block.Slots.{Slots}
use Rattle.jffs_index.specs.declared.block.TheConstants.{SLOTS}
use Rattle.jffs_index.specs.Blocks.{slot}
use Rattle.jffs_index.proofs.Blocks.{none_filled}
use Rattle.jffs_index.proofs.block.Block.empty.Goals as goal

pub returns : goal.returns
returns c = λ at. ap (λ (z : Slots). slot z at) c.in_ok-slots.ensures.ok ∙ cond-false _ _ _ (none_filled SLOTS at)
