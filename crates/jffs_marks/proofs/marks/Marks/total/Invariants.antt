use Rattle.std.proofs.Common.{◌≡◌, ◌+◌, ◌≤◌, drop, min}
use Rattle.jffs_marks.specs.Marks.{marks_of}
use Rattle.jffs_marks.proofs.Totals.{AreFrom}
use Rattle.jffs_marks.proofs.marks.Marks.total.Given as goal

-- the marks so far, and those of the entries that are left
abbrev pub invariant-loop-index : goal.invariant-loop-index
invariant-loop-index l = record {
  from : AreFrom l.version (drop l.index l.self);
  small : l.total ≤ 4294967295;
  left : min (l.total + marks_of (drop l.index l.self) l.version) 4294967295 ≡ min (marks_of l.self l.version) 4294967295;
}
