use Rattle.jffs_serve.specs.Showing.{CanServe}
use Rattle.jffs_serve_tests.proofs.tests.rounds.serve_on.Given as goal

abbrev pub invariant-loop : goal.invariant-loop
invariant-loop g l = CanServe l.session l.publisher
