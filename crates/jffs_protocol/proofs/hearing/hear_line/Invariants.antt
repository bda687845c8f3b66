use Rattle.std.specs.Io.Buffered.{reader_remaining}
use Rattle.jffs_protocol.specs.Hearing.{TakesPart}
use Rattle.jffs_protocol.proofs.hearing.hear_line.Given as goal

abbrev pub invariant-loop : goal.invariant-loop
invariant-loop g l = TakesPart (reader_remaining g.R.Read.remaining l.fn.input) (reader_remaining g.R.Read.remaining l.input) l.long l.line.items
