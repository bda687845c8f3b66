use Rattle.std.proofs.Common.{◌≡◌}
use Rattle.jffs_run.proofs.writer.offer_until.Given as goal

abbrev pub invariant-loop : goal.invariant-loop
invariant-loop g l = record {
  can : (goal.iterator-loop g).can_next l.iterator';
  ends : (goal.iterator-loop g).is_finite l.iterator';
  sender : g.H.Hand.sender l.hand ≡ g.H.Hand.sender l.fn.hand;
  line : g.H.Hand.line l.hand ≡ g.H.Hand.line l.fn.hand;
  accepted : g.H.Hand.accepted l.hand ≡ g.H.Hand.accepted l.fn.hand;
  wish : l.wish ≡ l.fn.wish;
}
