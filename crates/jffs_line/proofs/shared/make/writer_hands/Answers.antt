use Rattle.std.proofs.Common.{◌≡◌, [], map, ap, ◌∙◌, sym, subst, rules, arith}
use Rattle.std.specs.List.{All}
use Rattle.std.proofs.lemmas.List.Elements.{All-push}
use Rattle.crossbeam_channel.specs.Ends.{sends_on, ruled_capacity}
use Rattle.jffs_line.specs.declared.shared.SharedHand.{SharedHand}
use Rattle.jffs_line.specs.Shared.{shared_end, shared_accepted, shared_capacity}
use Rattle.jffs_line.proofs.Making.{begins_next, rest_next, ends_more}
use Rattle.jffs_line.proofs.shared.make.writer_hands.Goals as goal

pub first_hand-requires-clause-first : goal.first_hand-requires-clause-first
first_hand-requires-clause-first c = begins_next _ _ (omega arith) c.loop-index.invariant.rest

pub loop-index-preserved : goal.loop-index-preserved
loop-index-preserved c =
    let P : SharedHand → Type 0 = λ h. (shared_accepted h ≡ []) × (shared_capacity h ≡ ruled_capacity (sends_on c.args.sends.now)) in
    let hand = c.in_ok-hand.ensures.hand in
    let writers = c.loop-index.invariant.writers in
    record {
      seat = search rules;
      rest = rest_next _ _ _ (omega arith) c.loop-index.invariant.rest c.in_ok-hand.ensures.rest;
      writers = record {
        ends = ap (map shared_end) c.in_ok-push.ensures.items ∙ ends_more _ _ _ _ writers.ends hand.0;
        fresh = subst (All P) (sym c.in_ok-push.ensures.items) (All-push P _ _ writers.fresh (hand.1, hand.2));
      };
    }
