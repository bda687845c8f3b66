use Rattle.std.proofs.Common.{◌≡◌, ℕ, vec_len}
use Rattle.jffs_line.specs.Rings.{rings_ends, rings_taken}
use Rattle.jffs_line.proofs.rings.RingTaker.first_waiting.Given as goal

abbrev pub invariant-loop-step : goal.invariant-loop-step
invariant-loop-step l = record {
  ends : rings_ends l.self ≡ rings_ends l.fn.self;
  taken : (w : ℕ) → rings_taken l.self w ≡ rings_taken l.fn.self w;
  rings : vec_len l.self.rings ≡ vec_len l.fn.self.rings;
}
