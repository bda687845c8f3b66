use Rattle.std.proofs.Common.{◌≡◌, None}
use Rattle.jffs_index.specs.Ends.{all_put, pending, publisher_index}
use Rattle.jffs_serve.specs.PendingStep.{IsReady}
use Rattle.jffs_serve.specs.Showing.{CanServe}
use Rattle.jffs_serve.specs.Answered.{RepliesMore}
use Rattle.jffs_serve.proofs.serving.serve.Given as goal

abbrev pub invariant-loop : goal.invariant-loop
invariant-loop g l = record {
  can : (goal.iterator-loop g).can_next l.iterator';
  ends : (goal.iterator-loop g).is_finite l.iterator';
  ready : CanServe l.session l.publisher;
  sent : IsReady l.session.unsent (pending l.publisher);
  replies : RepliesMore l.fn.session (all_put l.fn.publisher).steps (g.T.Taker.taken l.fn.taker) l.session (all_put l.publisher).steps (g.T.Taker.taken l.taker) None;
  line : g.T.Taker.ends l.taker ≡ g.T.Taker.ends l.fn.taker;
  index : publisher_index l.publisher ≡ publisher_index l.fn.publisher;
  opening : (all_put l.publisher).opening ≡ (all_put l.fn.publisher).opening;
}
