use Rattle.std.proofs.Common.{◌≡◌}
use Rattle.jffs_line.specs.Line.{End}
use Rattle.jffs_line_tests.proofs.tests.sessions.hand_in_all.Given as goal

-- it stays the same end
abbrev pub invariant-loop-size : goal.invariant-loop-size
invariant-loop-size g l = ◌≡◌ {A = End} (g.H.Hand.sender l.hand, g.H.Hand.line l.hand) (g.H.Hand.sender l.fn.hand, g.H.Hand.line l.fn.hand)
