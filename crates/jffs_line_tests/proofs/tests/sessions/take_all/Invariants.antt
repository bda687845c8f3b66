use Rattle.std.proofs.Common.{◌≡◌}
use Rattle.jffs_line_tests.proofs.tests.sessions.take_all.Given as goal

-- it takes from the same ends
abbrev pub invariant-loop : goal.invariant-loop
invariant-loop g l = g.T.Taker.ends l.taker ≡ g.T.Taker.ends l.fn.taker
