use Rattle.std.proofs.Common.{◌≡◌}
use Rattle.jffs_index.specs.Ends.{index_of}
use Rattle.jffs_index_tests.proofs.tests.follower.look_until.Given as goal

abbrev pub invariant-loop : goal.invariant-loop
invariant-loop l = index_of l.reader ≡ index_of l.fn.reader
