use Rattle.std.proofs.Common.{◌≡◌}
use Rattle.jffs_line.specs.Line.{End}
use Rattle.jffs_line_tests.proofs.tests.sessions.insist.Given as goal

-- it stays the same end
abbrev pub invariant-loop : goal.invariant-loop
invariant-loop g l = ◌≡◌ {A = End} (g.H.Hand.sender l.hand, g.H.Hand.line l.hand) (g.H.Hand.sender l.fn.hand, g.H.Hand.line l.fn.hand)
