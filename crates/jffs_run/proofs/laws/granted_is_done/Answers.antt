use Rattle.jffs_run.proofs.promises.Done.{granted_is_done as by_chain, runs_are_free, each_is_done, failed_is_done_or_not}
use Rattle.jffs_run.proofs.laws.granted_is_done.Goals as goal

pub returns : goal.returns
returns c = record { works = by_chain; each = each_is_done; free = runs_are_free; failed = failed_is_done_or_not }
