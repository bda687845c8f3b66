use Rattle.std.proofs.Common.{◌-◌}
use Rattle.jffs_marks.specs.Marks.{IsPlaceWithin}
use Rattle.jffs_marks.proofs.marks.Marks.search.Given as goal

abbrev pub invariant-halves : goal.invariant-halves
invariant-halves l = IsPlaceWithin l.self-inside.counts.items l.key l.from l.to

abbrev pub decreases-halves : goal.decreases-halves
decreases-halves l = l.to - l.from
