use Rattle.std.proofs.Common.{◌≡◌, ◌⊎◌, ℕ, ◌+◌, ◌<◌, ◌≤◌, length, get_or}
use Rattle.jffs_flash.proofs.limited.take_one.Given as goal

-- the bytes so far were counted once, and no other
abbrev pub invariant-loop-i : goal.invariant-loop-i
invariant-loop-i l = record {
  range : (k : ℕ) → get_or l.initial.left k 0 ≤ get_or l.left k 0 + 1;
  rest : (k : ℕ) → (k < l.at) ⊎ (l.i ≤ k) → get_or l.initial.left k 0 ≡ get_or l.left k 0;
  length : length l.left ≡ length l.initial.left;
}
