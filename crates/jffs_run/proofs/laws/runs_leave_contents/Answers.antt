use Rattle.jffs_run.proofs.ends.Scanning.{runs_leave_contents, failed_runs_leave_history}
use Rattle.jffs_run.proofs.laws.runs_leave_contents.Goals as goal

pub returns : goal.returns
returns c = record { works = runs_leave_contents; failed = failed_runs_leave_history }
