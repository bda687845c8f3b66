use Rattle.std.proofs.Common.{rules, ◌≡◌, ◌+◌, ◌∷◌, length, arith, vec_len}
use Rattle.std.specs.Vec.Iter.{into_iter_items}
use Rattle.jffs_run.specs.Ends.{HandedIn, HandedInAll, commands_at, end_of}
use Rattle.jffs_run.specs.Started.{end_given}
use Rattle.jffs_run.proofs.asked.Slots.{EachFrom-more, moved}
use Rattle.jffs_run.proofs.joining.join_writers.Goals as goal

pub loop-one-preserved : goal.loop-one-preserved
loop-one-preserved g c =
    let before = c.loop-one.invariant in
    let step = c.in-Some.ensures.steps in
    let pushed = c.push_reserved.ensures in
    let kept = c.join_writer-hand.ensures in
    let hand = c.join_writer-hand.result.hand in
    let longer : vec_len c.push_reserved.new.self ≡ vec_len c.loop-one.hands + 1 = search rules in
    record {
      can = search rules;
      ends = search rules;
      count = let cons : length (into_iter_items c.loop-one.one-iterator) ≡ length (c.in-Some.one ∷ into_iter_items c.next.new.self) = rw step.0 in let count = before.count in omega arith;
      room = let room = before.room in omega (arith, pushed.capacity);
      same = rw (pushed.items, moved (end_of g.H.Hand) (end_given g.H.Hand) c.loop-one.hands.items hand c.in-Some.one (into_iter_items c.next.new.self) kept.end) (rw step.0 at before.same);
      started = λ script each. rw longer (rw step.0 at (before.started script each)).1;
      handed_in = λ script each.
          let started = (rw step.0 at (before.started script each)).0 in
          let now = (kept.wrote (commands_at script (vec_len c.loop-one.hands)) started).first in
          rw pushed.items (EachFrom-more (HandedIn g.H.Hand script) c.loop-one.hands.items hand _ c.loop-one.hands.ok.0 (before.handed_in script each) now);
      whole = λ script each goes_on calm.
          let started = (rw step.0 at (before.started script each)).0 in
          let stops = c.note.ensures goes_on calm in
          let now = (kept.wrote (commands_at script (vec_len c.loop-one.hands)) started).whole stops.2 in
          rw pushed.items (EachFrom-more (HandedInAll g.H.Hand script) c.loop-one.hands.items hand _ c.loop-one.hands.ok.0 (before.whole script each stops.0 stops.1) now);
    }
