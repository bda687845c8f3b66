use Rattle.std.proofs.Common.{arith}
use Rattle.jffs_log.proofs.writing.write_in.Goals as goal

pub whole_as_slice-write_through : goal.whole_as_slice-write_through
whole_as_slice-write_through g c = omega (arith, c.requires.size)
