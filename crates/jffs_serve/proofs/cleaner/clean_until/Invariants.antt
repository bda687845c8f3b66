use Rattle.std.proofs.Common.{◌≡◌}
use Rattle.jffs_index.specs.Histories.{BeginsWith}
use Rattle.jffs_index.specs.Ends.{known, index_of}
use Rattle.jffs_serve.specs.Copies.{HandsInCopies}
use Rattle.jffs_serve.specs.Cleaning.{DoesRounds}
use Rattle.jffs_serve.proofs.cleaner.clean_until.Given as goal

abbrev pub invariant-loop-round : goal.invariant-loop-round
invariant-loop-round g l = record {
  copies : HandsInCopies (g.H.Hand.accepted l.fn.hand) (g.H.Hand.accepted l.hand) l.end.handed_in;
  cleans : DoesRounds l._round l.fn.jobs l.jobs (known l.fn.reader) (known l.reader) (g.H.Hand.accepted l.fn.hand) (g.H.Hand.accepted l.hand);
  sender : g.H.Hand.sender l.hand ≡ g.H.Hand.sender l.fn.hand;
  line : g.H.Hand.line l.hand ≡ g.H.Hand.line l.fn.hand;
  index : index_of l.reader ≡ index_of l.fn.reader;
  known : BeginsWith (known l.reader) (known l.fn.reader);
}
