use Rattle.jffs_line.proofs.Steps.{forks}
use Rattle.jffs_line.proofs.shared.make.first_hand.Goals as goal

pub another-own-requires-clause-rule : goal.another-own-requires-clause-rule
another-own-requires-clause-rule c = forks _ _ _ _ c.requires.first.first c.requires.first.once
