use Rattle.jffs_run.proofs.asked.Asked.{given_up_at_once}
use Rattle.jffs_run.proofs.ends.Faults.{line_mounted}
use Rattle.jffs_run.proofs.run.run_mounted.Goals as goal

pub returns-in_ok-accepted-in-Shared-clause-run : goal.returns-in_ok-accepted-in-Shared-clause-run
returns-in_ok-accepted-in-Shared-clause-run g c = rw c.with_accepted.ensures c.in_ok-accepted-in-Shared.ensures.run

pub returns-in_ok-accepted-in-Rings-clause-run : goal.returns-in_ok-accepted-in-Rings-clause-run
returns-in_ok-accepted-in-Rings-clause-run g c = rw c.with_accepted-in-Rings.ensures c.in_ok-accepted-in-Rings.ensures.run

pub returns-then-writers-gt-WRITERS_MAX-clause-fault : goal.returns-then-writers-gt-WRITERS_MAX-clause-fault
returns-then-writers-gt-WRITERS_MAX-clause-fault g c =
    given_up_at_once g.F.Flash c.args.script.now.writers.items c.args.script.now.cleaner c.args.core _ _ line_mounted c.requires.core.0 c.given_up.ensures

pub returns-in_default-clause-fault : goal.returns-in_default-clause-fault
returns-in_default-clause-fault g c =
    given_up_at_once g.F.Flash c.args.script.now.writers.items c.args.script.now.cleaner c.args.core _ _ line_mounted c.requires.core.0 c.given_up-in_default.ensures

pub returns-in_default-ring_line-clause-fault : goal.returns-in_default-ring_line-clause-fault
returns-in_default-ring_line-clause-fault g c =
    given_up_at_once g.F.Flash c.args.script.now.writers.items c.args.script.now.cleaner c.args.core _ _ line_mounted c.requires.core.0 c.given_up-in_default-ring_line.ensures
