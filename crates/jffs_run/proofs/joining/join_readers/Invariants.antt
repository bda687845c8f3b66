use Rattle.std.proofs.Common.{◌≡◌, ◌+◌, ◌≤◌, List, length, vec_len, vec_capacity, true}
use Rattle.std.specs.Vec.Iter.{into_iter_items}
use Rattle.jffs_text.specs.declared.script.ReaderStatement.{ReaderStatement}
use Rattle.jffs_index.specs.declared.rule.History.{History}
use Rattle.jffs_index.specs.Histories.{view_of}
use Rattle.jffs_index.specs.Ends.{published, publisher_index}
use Rattle.jffs_run.specs.Ends.{EachFrom}
use Rattle.jffs_run.specs.Looking.{HasSeen, IsWhole}
use Rattle.jffs_run.specs.Started.{IsLooking}
use Rattle.jffs_run.proofs.joining.join_readers.Given as goal

abbrev pub invariant-loop-handle : goal.invariant-loop-handle
invariant-loop-handle g l = record {
  can : (goal.iterator-loop-handle g).can_next l.handle-iterator;
  ends : (goal.iterator-loop-handle g).is_finite l.handle-iterator;
  count : vec_len l.ends + length (into_iter_items l.handle-iterator) ≡ vec_len l.fn.handles;
  room : vec_len l.fn.handles ≤ vec_capacity l.ends;
  whole : l.whole ≡ true → (view_of (published l.publisher)).answered ≡ l.answered;
  started : (statements : List ReaderStatement) → EachFrom (IsLooking (publisher_index l.publisher) statements) 0 l.fn.handles.items → EachFrom (IsLooking (publisher_index l.publisher) statements) (vec_len l.ends) (into_iter_items l.handle-iterator);
  seen : (statements : List ReaderStatement) (history : History) → EachFrom (IsLooking (publisher_index l.publisher) statements) 0 l.fn.handles.items → IsWhole (published l.publisher) l.answered history → EachFrom (HasSeen history statements) 0 l.ends.items;
}
