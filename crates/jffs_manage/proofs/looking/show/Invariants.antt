use Rattle.std.proofs.Common.{◌≤◌, length, take}
use Rattle.std.specs.Io.KnownBytes.{Appends}
use Rattle.jffs_tree.specs.Look.{bytes_in}
use Rattle.jffs_manage.proofs.looking.show.Given as goal

abbrev pub invariant-loop : goal.invariant-loop
invariant-loop g l =
    (l.offset ≤ length (bytes_in l.tree l.inode))
    × Appends (g.W.Write.contents l.fn.out) (g.W.Write.contents l.out) (take l.offset (bytes_in l.tree l.inode))
