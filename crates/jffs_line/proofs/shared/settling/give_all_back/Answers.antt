use Rattle.jffs_line.proofs.Steps.{merges}
use Rattle.jffs_line.proofs.shared.settling.give_all_back.Goals as goal

pub absorb-requires-clause-rule : goal.absorb-requires-clause-rule
absorb-requires-clause-rule c = merges _ _ _ _
