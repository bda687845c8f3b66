use Rattle.std.specs.Io.KnownBytes.{Appends}
use Rattle.jffs_program.specs.Printed.{lines_up_to}
use Rattle.jffs_program.proofs.printing.print_answers.Given as goal

abbrev pub invariant-loop-before : goal.invariant-loop-before
invariant-loop-before g l = Appends (g.W.Write.contents l.fn.out) (g.W.Write.contents l.out) (lines_up_to l.before l.answers)
