use Rattle.std.proofs.Common.{◌≡◌, List, true, vec_len}
use Rattle.jffs_line.specs.declared.request.Request.{Request}
use Rattle.jffs_line.specs.Settling.{all_hands}
use Rattle.jffs_line.proofs.Emptying.{AreEmptied}
use Rattle.jffs_line.proofs.rings.settling.empty_all.Given as goal

abbrev pub invariant-loop-hand : goal.invariant-loop-hand
invariant-loop-hand l =
    (left : List Request) × AreEmptied l.fn.rings.items (all_hands l.fn.hands) l.rings.items l.writers.items left
    × (l.whole ≡ true → l.waiting.items ≡ left)

abbrev pub decreases-loop-hand : goal.decreases-loop-hand
decreases-loop-hand l = vec_len l.writers
