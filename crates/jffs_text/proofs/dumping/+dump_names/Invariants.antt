use Rattle.std.proofs.Common.{◌≡◌, take}
use Rattle.std.specs.List.{flat_map}
use Rattle.std.specs.Io.KnownBytes.{Appends}
use Rattle.jffs_text.proofs.Told.{text_in}
use Rattle.jffs_text.proofs.dumping.+dump_names.Given as goal

abbrev pub decreases-dump_names : goal.decreases-dump_names
decreases-dump_names g l = l.levels

abbrev pub invariant-loop-name : goal.invariant-loop-name
invariant-loop-name g l =
    Appends (g.W.Write.contents l.fn.out) (g.W.Write.contents l.out) (flat_map (text_in l.tree l.levels l.fn.path.items) (take l.name-index l.name-items))
    × (l.path.items ≡ l.fn.path.items)
