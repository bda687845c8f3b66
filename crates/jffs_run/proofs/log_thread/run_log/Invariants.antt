use Rattle.std.proofs.Common.{◌≡◌}
use Rattle.jffs_serve.specs.Showing.{CanServe}
use Rattle.jffs_serve.specs.Serving.{HasServed}
use Rattle.jffs_run.proofs.log_thread.run_log.Given as goal

abbrev pub invariant-loop : goal.invariant-loop
invariant-loop g l = record {
  ready : CanServe l.session l.publisher;
  ends : g.T.Taker.ends l.taker ≡ g.T.Taker.ends l.fn.side.taker;
  served : HasServed l.fn.side.session l.fn.side.publisher (g.T.Taker.taken l.fn.side.taker) l.session l.publisher (g.T.Taker.taken l.taker) l.served;
}
