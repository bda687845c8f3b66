use Rattle.std.proofs.Common.{◌≡◌}
use Rattle.jffs_serve.specs.Copies.{IsCopy}
use Rattle.jffs_serve.specs.Copying.{wish_of}
use Rattle.jffs_serve.proofs.cleaner.hand_in.Given as goal

abbrev pub invariant-loop : goal.invariant-loop
invariant-loop g l = record {
  copy : IsCopy l.wish;
  same : l.wish ≡ wish_of l.fn.copy;
  accepted : g.H.Hand.accepted l.hand ≡ g.H.Hand.accepted l.fn.hand;
  sender : g.H.Hand.sender l.hand ≡ g.H.Hand.sender l.fn.hand;
  line : g.H.Hand.line l.hand ≡ g.H.Hand.line l.fn.hand;
}
