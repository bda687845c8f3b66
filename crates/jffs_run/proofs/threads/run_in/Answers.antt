use Rattle.std.proofs.Common.{inl, inr, refl}
use Rattle.jffs_run.proofs.ends.Unstarted.{finished_unstarted}
use Rattle.jffs_run.proofs.threads.run_in.Goals as goal

pub start_all-running-requires-clause-crew : goal.start_all-running-requires-clause-crew
start_all-running-requires-clause-crew g c κs within = rw c.in-Ok-start_log.ensures.promise c.requires.crew

pub returns : goal.returns
returns g c =
    let given = c.start_all-running.ensures.given in
    record { finished = rw (given.0, given.1, given.2, c.in-Ok-start_log.ensures.promise) at c.join_all.ensures.finished }

pub returns-in_default : goal.returns-in_default
returns-in_default g c =
    let hands = c.unstarted.ensures.hands in
    record {
      finished = finished_unstarted g.H.Hand g.T.Taker c.args.script.now c.args.crew c.args.side c.unstarted.result c.unserved.result _ _ c.requires.crew
          hands.0 hands.1 hands.2 c.unstarted.ensures.fault (inr (inr refl)) c.unstarted.ensures.log c.unserved.ensures.ends c.unserved.ensures.served;
    }

pub returns-in-Err : goal.returns-in-Err
returns-in-Err g c =
    let hands = c.unstarted-in-Err.ensures.hands in
    record {
      finished = finished_unstarted g.H.Hand g.T.Taker c.args.script.now c.args.crew c.args.side c.unstarted-in-Err.result _ _ _ c.requires.crew
          hands.0 hands.1 hands.2 c.unstarted-in-Err.ensures.fault (inl refl) c.unstarted-in-Err.ensures.log c.in-Err.ensures.ends c.in-Err.ensures.served;
    }
