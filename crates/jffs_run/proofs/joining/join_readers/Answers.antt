use Rattle.std.proofs.Common.{rules, ◌≡◌, ◌+◌, ◌∷◌, length, arith, vec_len}
use Rattle.std.specs.Vec.Iter.{into_iter_items}
use Rattle.jffs_index.specs.Ends.{published, publisher_index, told_of}
use Rattle.jffs_run.specs.Looking.{HasSeen}
use Rattle.jffs_run.proofs.asked.Slots.{EachFrom-more}
use Rattle.jffs_run.proofs.ends.Seeing.{has_seen}
use Rattle.jffs_run.proofs.joining.join_readers.Goals as goal

pub loop-handle-preserved : goal.loop-handle-preserved
loop-handle-preserved g c =
    let before = c.loop-handle.invariant in
    let step = c.in-Some.ensures.steps in
    let pushed = c.push_reserved.ensures in
    let index = publisher_index c.args.publisher.now in
    let longer : vec_len c.push_reserved.new.self ≡ vec_len c.loop-handle.ends + 1 = search rules in
    record {
      can = search rules;
      ends = search rules;
      count = let cons : length (into_iter_items c.loop-handle.handle-iterator) ≡ length (c.in-Some.handle ∷ into_iter_items c.next.new.self) = rw step.0 in let count = before.count in omega arith;
      room = let room = before.room in omega (arith, pushed.capacity);
      whole = before.whole;
      started = λ statements each. rw longer (rw step.0 at (before.started statements each)).1;
      seen = λ statements history each whole.
          let looking = (rw step.0 at (before.started statements each)).0 in
          let now = has_seen (published c.args.publisher.now) history (told_of c.tell.result) c.args.answered index statements (vec_len c.loop-handle.ends)
          c.in-Some.handle c.join-reader.result c.last_look.result looking c.join-reader.ensures.1 c.tell.ensures.0 whole c.last_look.ensures in
          rw pushed.items (EachFrom-more (HasSeen history statements) c.loop-handle.ends.items c.last_look.result _ c.loop-handle.ends.ok.0 (before.seen statements history each whole) now);
    }
