use Rattle.jffs_text.specs.Scripts.{IsDraft}
use Rattle.jffs_text.proofs.script.Script.read_lines.Given as goal

abbrev pub invariant-loop-index : goal.invariant-loop-index
invariant-loop-index l = IsDraft l.draft
    × (goal.iterator-loop-index).can_next l.index-iterator
    × (goal.iterator-loop-index).is_finite l.index-iterator
