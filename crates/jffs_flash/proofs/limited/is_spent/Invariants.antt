use Rattle.std.proofs.Common.{ℕ, ◌<◌, ◌≤◌, get_or}
use Rattle.jffs_flash.proofs.limited.is_spent.Given as goal

-- each byte so far can be read once more
abbrev pub invariant-loop-i : goal.invariant-loop-i
invariant-loop-i l = (k : ℕ) → l.at ≤ k → k < l.i → 1 ≤ get_or l.left k 0
