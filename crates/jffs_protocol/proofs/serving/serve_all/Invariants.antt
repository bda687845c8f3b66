use Rattle.std.specs.Io.Buffered.{reader_remaining}
use Rattle.jffs_protocol.specs.Serving.{ServesOn}
use Rattle.jffs_protocol.proofs.serving.serve_all.Given as goal

abbrev pub invariant-loop : goal.invariant-loop
invariant-loop g l = ServesOn g.S.Server.manner l.fn.server l.server (reader_remaining g.R.Read.remaining l.fn.input) (reader_remaining g.R.Read.remaining l.input) (g.W.Write.contents l.fn.out) (g.W.Write.contents l.out)
