use Rattle.std.proofs.Common.{◌≡◌}
use Rattle.jffs_line.specs.Rings.{ring_line, ring_accepted}
use Rattle.jffs_line.proofs.rings.RingHand.hand_in.Given as goal

abbrev pub invariant-loop : goal.invariant-loop
invariant-loop g l = record {
  end : (l.self.number ≡ l.fn.self.number) × (ring_line l.self ≡ ring_line l.fn.self);
  accepted : ring_accepted l.self ≡ ring_accepted l.fn.self;
  wish : l.wish ≡ l.fn.wish;
}
