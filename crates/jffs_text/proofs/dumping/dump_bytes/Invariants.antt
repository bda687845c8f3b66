use Rattle.std.proofs.Common.{◌-◌, ◌≤◌, take}
use Rattle.std.specs.Io.KnownBytes.{Appends}
use Rattle.jffs_tree.specs.Look.{bytes_in}
use Rattle.jffs_text.specs.Dump.{hex}
use Rattle.jffs_text.proofs.dumping.dump_bytes.Given as goal

abbrev pub invariant-loop-offset : goal.invariant-loop-offset
invariant-loop-offset g l = (l.offset ≤ l.size) × Appends (g.W.Write.contents l.fn.out) (g.W.Write.contents l.out) (hex (take l.offset (bytes_in l.tree l.inode)))

abbrev pub decreases-loop-offset : goal.decreases-loop-offset
decreases-loop-offset g l = l.size - l.offset
