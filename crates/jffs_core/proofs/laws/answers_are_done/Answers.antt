use Rattle.jffs_core.proofs.answers.Done.{answers_are_done as by_step, answers_are_free, trees_are_done, device_is_done_or_not}
use Rattle.jffs_core.proofs.laws.answers_are_done.Goals as goal

pub returns : goal.returns
returns c = record { contents = by_step; free = answers_are_free; trees = trees_are_done; device = device_is_done_or_not }
