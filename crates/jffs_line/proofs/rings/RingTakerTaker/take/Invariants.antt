use Rattle.std.proofs.Common.{◌≡◌, ℕ}
use Rattle.jffs_line.specs.Rings.{rings_ends, rings_taken}
use Rattle.jffs_line.proofs.rings.RingTakerTaker.take.Given as goal

abbrev pub invariant-loop : goal.invariant-loop
invariant-loop g l = record {
  ends : rings_ends l.self ≡ rings_ends l.fn.self;
  taken : (w : ℕ) → rings_taken l.self w ≡ rings_taken l.fn.self w;
}
