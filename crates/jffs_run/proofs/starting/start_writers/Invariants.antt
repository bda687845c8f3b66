use Rattle.std.proofs.Common.{◌≡◌, ◌+◌, ◌≤◌, ◌++◌, [], length, map, vec_len, vec_capacity}
use Rattle.std.specs.List.{All}
use Rattle.std.specs.Vec.Iter.{into_iter_items}
use Rattle.jffs_run.specs.Ends.{EachFrom, end_of}
use Rattle.jffs_run.specs.Started.{IsStarted, end_given}
use Rattle.jffs_run.proofs.starting.start_writers.Given as goal

abbrev pub invariant-loop-hand : goal.invariant-loop-hand
invariant-loop-hand g l = record {
  can : (goal.iterator-loop-hand g).can_next l.hand-iterator;
  ends : (goal.iterator-loop-hand g).is_finite l.hand-iterator;
  count : vec_len l.writing + length (into_iter_items l.hand-iterator) ≡ length l.writers;
  number : l.number ≡ vec_len l.writing;
  room : length l.writers ≤ vec_capacity l.writing;
  fresh : All (λ hand. g.H.Hand.accepted hand ≡ []) (into_iter_items l.hand-iterator);
  started : EachFrom (IsStarted g.H.Hand l.writers) 0 l.writing.items;
  same : map (end_given g.H.Hand) l.writing.items ++ map (end_of g.H.Hand) (into_iter_items l.hand-iterator) ≡ map (end_of g.H.Hand) l.fn.hands.items;
}
