use Rattle.std.proofs.Common.{refl}
use Rattle.jffs_log.proofs.examples.example_is_erased_in_turn.Goals as goal

pub returns : goal.returns
returns c = record { next = refl; first = refl; other = refl }
