use Rattle.std.proofs.Common.{◌≡◌, ◌+◌, ◌≤◌, ◌++◌, List, length, map, vec_len, vec_capacity, false}
use Rattle.std.specs.Vec.Iter.{into_iter_items}
use Rattle.jffs_text.specs.declared.script.Writer.{Writer}
use Rattle.jffs_run.specs.Ends.{EachFrom, HandedIn, HandedInAll, end_of}
use Rattle.jffs_run.specs.Started.{IsCalm, IsStarted, end_given}
use Rattle.jffs_run.proofs.joining.join_writers.Given as goal

abbrev pub invariant-loop-one : goal.invariant-loop-one
invariant-loop-one g l = record {
  can : (goal.iterator-loop-one g).can_next l.one-iterator;
  ends : (goal.iterator-loop-one g).is_finite l.one-iterator;
  count : vec_len l.hands + length (into_iter_items l.one-iterator) ≡ vec_len l.fn.writing;
  room : vec_len l.fn.writing ≤ vec_capacity l.hands;
  same : map (end_of g.H.Hand) l.hands.items ++ map (end_given g.H.Hand) (into_iter_items l.one-iterator) ≡ map (end_given g.H.Hand) l.fn.writing.items;
  started : (script : List Writer) → EachFrom (IsStarted g.H.Hand script) 0 l.fn.writing.items → EachFrom (IsStarted g.H.Hand script) (vec_len l.hands) (into_iter_items l.one-iterator);
  handed_in : (script : List Writer) → EachFrom (IsStarted g.H.Hand script) 0 l.fn.writing.items → EachFrom (HandedIn g.H.Hand script) 0 l.hands.items;
  whole : (script : List Writer) → EachFrom (IsStarted g.H.Hand script) 0 l.fn.writing.items → l.stops.log_ended ≡ false → IsCalm l.stops → EachFrom (HandedInAll g.H.Hand script) 0 l.hands.items;
}
