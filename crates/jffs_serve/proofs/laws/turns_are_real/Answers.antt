use Rattle.jffs_serve.proofs.ChainLaws.{failed_answers_failed, no_room_at_the_turn}
use Rattle.jffs_serve.proofs.laws.turns_are_real.Goals as goal

pub returns : goal.returns
returns c = record { no_space = no_room_at_the_turn; failed = failed_answers_failed }
