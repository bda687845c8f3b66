use Rattle.std.proofs.Common.{take}
use Rattle.std.specs.Io.KnownBytes.{Appends}
use Rattle.jffs_program.specs.Printed.{lines_of}
use Rattle.jffs_program.proofs.printing.print_answers_of.Given as goal

abbrev pub invariant-loop-answer : goal.invariant-loop-answer
invariant-loop-answer g l = Appends (g.W.Write.contents l.fn.out) (g.W.Write.contents l.out) (lines_of l.writer (take l.answer-index l.answers))
