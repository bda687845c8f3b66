use Rattle.std.proofs.Common.{◌≤◌, length, take}
use Rattle.std.specs.Io.KnownBytes.{Appends}
use Rattle.jffs_text.proofs.dumping.put.Given as goal

abbrev pub invariant-writes : goal.invariant-writes
invariant-writes g l = (l.sent ≤ length l.bytes) × Appends (g.W.Write.contents l.fn.out) (g.W.Write.contents l.out) (take l.sent l.bytes)
