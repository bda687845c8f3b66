use Rattle.std.proofs.Common.{◌+◌, ◌*◌, length}
use Rattle.jffs_line_tests.proofs.tests.sessions.+fn-write_all-join+arg3+write_all.Given as goal

-- each call has one hand less
abbrev pub decreases-join+arg3 : goal.decreases-join+arg3
decreases-join+arg3 g l = 2 * length l.hands.items + 1

abbrev pub decreases-write_all : goal.decreases-write_all
decreases-write_all g l = 2 * length l.hands.items
