use Rattle.std.proofs.KnownBytes.{Appends-nil, Appends-trans}
use Rattle.std.proofs.Common.{sym}
use Rattle.jffs_program.proofs.Printed.{readers_none, readers_next}
use Rattle.jffs_program.proofs.printing.print_readers.Goals as goal

pub loop-index-init : goal.loop-index-init
loop-index-init g c = rw (readers_none 1) (Appends-nil _)

pub loop-index-preserved : goal.loop-index-preserved
loop-index-preserved g c =
    let end = c.index-readers-index.result in
    let same = c.index-readers-index.is in
    rw (readers_next c.args.readers.now c.loop-index.index end c.loop-index-test.true, sym same) (Appends-trans _ _ _ _ _ c.loop-index.invariant c.in_ok-print_reader.ensures)
