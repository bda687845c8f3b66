use Rattle.std.proofs.Common.{rules, ◌≡◌, ◌<◌, List, [], ◌∷◌, length, sym, ◌∙◌, subst, arith, vec_len}
use Rattle.std.specs.Vec.Iter.{into_iter_items}
use Rattle.std.proofs.lemmas.List.Elements.{All-tail}
use Rattle.jffs_text.specs.declared.command.Command.{Command}
use Rattle.jffs_run.specs.Ends.{commands_at, end_of}
use Rattle.jffs_run.specs.Started.{HasWriting, IsStarted, end_given}
use Rattle.jffs_run.proofs.asked.Slots.{EachFrom-more, commands-at, moved}
use Rattle.jffs_run.proofs.starting.start_writers.Goals as goal

pub loop-hand-preserved : goal.loop-hand-preserved
loop-hand-preserved g c =
    let before = c.loop-hand.invariant in
    let step = c.in-Some.ensures.steps in
    let pushed = c.push_reserved.ensures in
    let many : length (into_iter_items c.loop-hand.hand-iterator) ≡ length (c.in-Some.hand ∷ into_iter_items c.next.new.self) = rw step.0 in
    let at_len : c.len.result ≡ vec_len c.loop-hand.writing = search rules in
    let below : c.len.result < length c.args.writers.now = let count = before.count in omega (arith, at_len, many) in
    let commands : c.as_slice-commands.result.now ≡ commands_at c.args.writers.now c.len.result =
    c.as_slice-commands.ensures.value ∙ sym (commands-at c.args.writers.now c.len.result c.index-writers-len.result below) in
    let started = subst (λ (commands : List Command). HasWriting g.H.Hand commands c.start_writer.result) commands c.start_writer.ensures.writes in
    record {
      can = search rules;
      ends = search rules;
      count = let count = before.count in omega (arith, many, pushed.len);
      number = let number = before.number in omega (arith, pushed.len);
      room = let room = before.room in omega (arith, pushed.capacity);
      fresh = All-tail (λ hand. g.H.Hand.accepted hand ≡ []) c.in-Some.hand _ (rw step.0 at before.fresh);
      started = rw pushed.items (EachFrom-more (IsStarted g.H.Hand c.args.writers.now) c.loop-hand.writing.items c.start_writer.result c.len.result (at_len ∙ c.loop-hand.writing.ok.0) before.started started);
      same = rw (pushed.items, moved (end_given g.H.Hand) (end_of g.H.Hand) c.loop-hand.writing.items c.start_writer.result c.in-Some.hand (into_iter_items c.next.new.self) c.start_writer.ensures.end) (rw step.0 at before.same);
    }
