use Rattle.std.proofs.Common.{take}
use Rattle.std.specs.List.{flat_map}
use Rattle.std.specs.Io.KnownBytes.{Appends}
use Rattle.jffs_manage.specs.Looks.{name_line}
use Rattle.jffs_manage.proofs.looking.list_directory.Given as goal

abbrev pub invariant-loop-name : goal.invariant-loop-name
invariant-loop-name g l =
    Appends (g.W.Write.contents l.fn.out) (g.W.Write.contents l.out) (flat_map (name_line l.long l.core.tree l.core.index.records.items) (take l.name-index l.name-items))
