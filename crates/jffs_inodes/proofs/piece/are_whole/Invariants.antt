use Rattle.std.proofs.Common.{◌≡◌, length}
use Rattle.jffs_inodes.specs.Fragments.{AreLaid, ascending, laid}
use Rattle.jffs_inodes.proofs.files.Reading.{all_written}
use Rattle.jffs_inodes.proofs.piece.are_whole.Given as goal

-- What is left lies from the end on, and all that stands before it is written.
abbrev pub invariant-loop-first : goal.invariant-loop-first
invariant-loop-first l = record {
  lies : AreLaid l.end l.size (ascending l.rest);
  left : all_written (laid l.end l.size (ascending l.rest)) ≡ all_written (laid 0 l.size l.fragments.entries);
}

abbrev pub decreases-loop-first : goal.decreases-loop-first
decreases-loop-first l = length l.rest
