use Rattle.std.specs.Prelude.{slice_index_or}
use Rattle.std.proofs.Common.{◌∙◌}
use Rattle.jffs_line.proofs.Steps.{merges, learns}
use Rattle.jffs_line.proofs.Settling.{writers_here, cleaner_seat, taker_seat, seat_back, all_settled, others_settled, was_settled}
use Rattle.jffs_line.specs.Numbered.{shared_numbered}
use Rattle.jffs_line.specs.Settling.{all_hands}
use Rattle.jffs_line.proofs.shared.settling.settle.Goals as goal

pub give_all_back-requires-clause-seat : goal.give_all_back-requires-clause-seat
give_all_back-requires-clause-seat g c = taker_seat c.args.hands c.args.taker _ c.into_hand-sends.ensures c.requires.ends

pub give_all_back-requires-clause-line : goal.give_all_back-requires-clause-line
give_all_back-requires-clause-line g c = writers_here c.args.hands c.args.taker _ c.into_hand-sends.ensures c.requires.ends

pub absorb-requires-clause-channel : goal.absorb-requires-clause-channel
absorb-requires-clause-channel g c =
    (c.give_all_back.ensures.seat, cleaner_seat c.args.hands c.args.taker _ c.into_hand-sends.ensures c.requires.ends)

pub absorb-requires-clause-rule : goal.absorb-requires-clause-rule
absorb-requires-clause-rule g c = merges _ _ _ _

pub absorb-requires-2-clause-rule : goal.absorb-requires-2-clause-rule
absorb-requires-2-clause-rule g c = merges _ _ _ _

pub drain-requires-clause-seat : goal.drain-requires-clause-seat
drain-requires-clause-seat g c =
    seat_back c.args.hands c.args.taker _ c.into_hand-sends.ensures c.requires.ends c.learn_as.new.pass c.learn_as.ensures.channel.0

pub learn_as-requires-clause-rule : goal.learn_as-requires-clause-rule
learn_as-requires-clause-rule g c = learns _ _

pub returns-in-Ok-clause-settled : goal.returns-in-Ok-clause-settled
returns-in-Ok-clause-settled g c =
    let control_in = c.learn_as.ensures.channel.2 ∙ c.absorb-2.ensures.rule in
    record {
      each =
          all_settled c.args.hands c.args.taker _ c.into_hand-sends.ensures c.requires.ends _ _ _ _ c.give_all_back.ensures.joined c.absorb.ensures.rule control_in c.in-Ok.ensures;
      numbered = λ k d below. shared_numbered (slice_index_or (all_hands c.args.hands) k d);
      others =
          others_settled c.args.hands c.args.taker _ c.into_hand-sends.ensures c.requires.ends _ _ _ _ c.give_all_back.ensures.joined c.absorb.ensures.rule control_in c.in-Ok.ensures;
    }

pub returns-in-Ok-clause-taken : goal.returns-in-Ok-clause-taken
returns-in-Ok-clause-taken g c =
    was_settled c.args.hands c.args.taker _ c.into_hand-sends.ensures c.requires.ends _ _ _ _ c.give_all_back.ensures.joined c.absorb.ensures.rule c.absorb-2.ensures.rule c.learn_as.ensures.rule.1

pub returns-clause-taken : goal.returns-clause-taken
returns-clause-taken g c =
    was_settled c.args.hands c.args.taker _ c.into_hand-sends.ensures c.requires.ends _ _ _ _ c.give_all_back.ensures.joined c.absorb.ensures.rule c.absorb-2.ensures.rule c.learn_as.ensures.rule.1
