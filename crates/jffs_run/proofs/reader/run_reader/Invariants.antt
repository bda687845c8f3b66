use Rattle.std.proofs.Common.{◌≡◌}
use Rattle.jffs_index.specs.Ends.{index_of}
use Rattle.jffs_run.proofs.reader.run_reader.Given as goal

abbrev pub invariant-loop : goal.invariant-loop
invariant-loop g l = index_of l.reader ≡ index_of l.fn.reader
