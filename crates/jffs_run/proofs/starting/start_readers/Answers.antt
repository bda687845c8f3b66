use Rattle.std.proofs.Common.{rules, ◌≡◌, ◌<◌, ◌∷◌, length, sym, ◌∙◌, ap, arith, vec_len}
use Rattle.std.specs.Vec.Iter.{into_iter_items}
use Rattle.std.proofs.lemmas.List.{get_or_default}
use Rattle.std.proofs.lemmas.List.Elements.{All-head, All-tail}
use Rattle.jffs_index.specs.declared.reader.Reader.{Reader}
use Rattle.jffs_index.specs.Ends.{index_of}
use Rattle.jffs_run.specs.Ends.{HasAt}
use Rattle.jffs_run.specs.Started.{IsLooking}
use Rattle.jffs_run.proofs.asked.Slots.{EachFrom-more}
use Rattle.jffs_run.proofs.starting.start_readers.Goals as goal

pub loop-reader-preserved : goal.loop-reader-preserved
loop-reader-preserved g c =
    let before = c.loop-reader.invariant in
    let step = c.in-Some.ensures.steps in
    let pushed = c.push_reserved.ensures in
    let many : length (into_iter_items c.loop-reader.reader-iterator) ≡ length (c.in-Some.reader ∷ into_iter_items c.next.new.self) = rw step.0 in
    let at_len : c.len.result ≡ vec_len c.loop-reader.handles = search rules in
    let below : c.len.result < length c.args.statements.now = let count = before.count in omega (arith, at_len, many) in
    record {
      can = search rules;
      ends = search rules;
      count = let count = before.count in omega (arith, many, pushed.len);
      room = let room = before.room in omega (arith, pushed.capacity);
      readers = λ index all. All-tail (λ (r : Reader). index_of r ≡ index) c.in-Some.reader _ (rw step.0 at (before.readers index all));
      started = λ index all.
          let first : index_of c.in-Some.reader ≡ index = All-head (λ (r : Reader). index_of r ≡ index) c.in-Some.reader _ (rw step.0 at (before.readers index all)) in
          let at : HasAt c.args.statements.now c.len.result c.in-Some-start_reader.handle.promise.statement.now = (
            below,
            get_or_default c.args.statements.now c.len.result c.in-Some-start_reader.handle.promise.statement.now c.index-statements-len.result below
                ∙ (sym c.index-statements-len.is ∙ sym c.in-Some-start_reader.ensures.1),
          ) in
          rw pushed.items (EachFrom-more (IsLooking index c.args.statements.now) c.loop-reader.handles.items c.in-Some-start_reader.handle c.len.result (at_len ∙ c.loop-reader.handles.ok.0) (before.started index all)
          (ap index_of c.in-Some-start_reader.ensures.0 ∙ first, at));
    }
