use Rattle.std.proofs.Common.{take}
use Rattle.std.specs.Io.KnownBytes.{Appends}
use Rattle.jffs_program.specs.Printed.{readers_from}
use Rattle.jffs_program.proofs.printing.print_readers.Given as goal

abbrev pub invariant-loop-index : goal.invariant-loop-index
invariant-loop-index g l = Appends (g.W.Write.contents l.fn.out) (g.W.Write.contents l.out) (readers_from 1 (take l.index l.readers))
