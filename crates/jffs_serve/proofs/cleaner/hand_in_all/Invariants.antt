use Rattle.std.proofs.Common.{◌≡◌, ◌≤◌, List, ◌++◌, length}
use Rattle.jffs_line.specs.declared.request.Request.{Request}
use Rattle.jffs_serve.specs.Copies.{HandsInCopies}
use Rattle.jffs_serve.proofs.Copying.{AsksOn}
use Rattle.jffs_serve.proofs.cleaner.hand_in_all.Given as goal

abbrev pub invariant-loop-copy : goal.invariant-loop-copy
invariant-loop-copy g l = record {
  counted : l.end.handed_in ≤ length (g.H.Hand.accepted l.hand);
  copies : (before : List Request) → HandsInCopies before (g.H.Hand.accepted l.fn.hand) l.fn.end.handed_in → HandsInCopies before (g.H.Hand.accepted l.hand) l.end.handed_in;
  asked : (more : List Request) × (g.H.Hand.accepted l.hand ≡ g.H.Hand.accepted l.fn.hand ++ more)
      × AsksOn more l.copy-iterator.rest.items l.fn.copies.items;
  sender : g.H.Hand.sender l.hand ≡ g.H.Hand.sender l.fn.hand;
  line : g.H.Hand.line l.hand ≡ g.H.Hand.line l.fn.hand;
}
