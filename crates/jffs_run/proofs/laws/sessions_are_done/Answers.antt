use Rattle.jffs_run.proofs.promises.Sessions.{sessions_are_done, runs_are_sessions, faults_end_sessions}
use Rattle.jffs_run.proofs.laws.sessions_are_done.Goals as goal

pub returns-clause-done : goal.returns-clause-done
returns-clause-done c = sessions_are_done

pub returns-clause-runs : goal.returns-clause-runs
returns-clause-runs c = runs_are_sessions

pub returns-clause-faults : goal.returns-clause-faults
returns-clause-faults c = faults_end_sessions
