use Rattle.std.proofs.Common.{◌≡◌, ◌+◌, ◌≤◌, length, vec_len, vec_capacity}
use Rattle.std.specs.List.{All}
use Rattle.std.specs.Vec.Iter.{into_iter_items}
use Rattle.jffs_index.specs.declared.rule.Index.{Index}
use Rattle.jffs_index.specs.Ends.{index_of}
use Rattle.jffs_run.specs.Ends.{EachFrom}
use Rattle.jffs_run.specs.Started.{IsLooking}
use Rattle.jffs_run.proofs.starting.start_readers.Given as goal

abbrev pub invariant-loop-reader : goal.invariant-loop-reader
invariant-loop-reader g l = record {
  can : (goal.iterator-loop-reader g).can_next l.reader-iterator;
  ends : (goal.iterator-loop-reader g).is_finite l.reader-iterator;
  count : vec_len l.handles + length (into_iter_items l.reader-iterator) ≡ length l.statements;
  room : length l.statements ≤ vec_capacity l.handles;
  readers : (index : Index) → All (λ reader. index_of reader ≡ index) l.fn.readers.items → All (λ reader. index_of reader ≡ index) (into_iter_items l.reader-iterator);
  started : (index : Index) → All (λ reader. index_of reader ≡ index) l.fn.readers.items → EachFrom (IsLooking index l.statements) 0 l.handles.items;
}
