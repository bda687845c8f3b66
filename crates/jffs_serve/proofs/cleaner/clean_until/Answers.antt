use Rattle.std.proofs.Common.{rules, ◌+◌, ◌≤◌, [], map, arith}
use Rattle.jffs_index.specs.Ends.{known}
use Rattle.jffs_index.specs.Histories.{view_of}
use Rattle.jffs_index.proofs.Kept.{begins_trans}
use Rattle.jffs_serve.specs.Copying.{wish_of}
use Rattle.jffs_serve.specs.Cleaning.{DoesRounds}
use Rattle.jffs_serve.proofs.Cleaning.{cleans_more, cleans_within, hands_nothing, copies_asked}
use Rattle.jffs_serve.proofs.cleaner.clean_until.Goals as goal
use Rattle.jffs_serve.proofs.cleaner.clean_until.Goals.{After-look}

-- a round in which nothing was handed in
idle : (g : _) (c : After-look g)
    → DoesRounds (c.loop-round._round + 1) c.args.jobs.now c.take-image.new.self (known c.args.reader.now) (known c.look.new.reader) (g.H.Hand.accepted c.args.hand.now) (g.H.Hand.accepted c.loop-round.hand)
idle g c =
    let accepted = g.H.Hand.accepted c.loop-round.hand in
    cleans_more c.loop-round._round c.args.jobs.now c.loop-round.jobs c.take-image.new.self (known c.args.reader.now) (known c.loop-round.reader) (known c.look.new.reader)
    (g.H.Hand.accepted c.args.hand.now) accepted accepted c.take-image.result []
    c.loop-round.invariant.cleans c.take-image.ensures c.loop-round.invariant.known c.look.ensures.grows (hands_nothing accepted) tt

pub loop-round-preserved-in_default : goal.loop-round-preserved-in_default
loop-round-preserved-in_default g c = record {
  copies = search rules;
  cleans = idle g (goal.at.loop-round-preserved-in_default g c).After-look;
  sender = search rules;
  line = search rules;
  index = search rules;
  known = begins_trans (known c.look.new.reader) (known c.loop-round.reader) (known c.args.reader.now) c.look.ensures.grows c.loop-round.invariant.known;
}

pub returns-then-found-clause-cleans : goal.returns-then-found-clause-cleans
returns-then-found-clause-cleans g c =
    let more : c.loop-round._round + 1 ≤ c.args.limit = omega arith in
    cleans_within (c.loop-round._round + 1) c.args.limit c.args.jobs.now c.take-image.new.self (known c.args.reader.now) (known c.look.new.reader)
    (g.H.Hand.accepted c.args.hand.now) (g.H.Hand.accepted c.loop-round.hand) more (idle g (goal.at.returns-then-found-clause-cleans g c).After-look)

pub loop-round-preserved : goal.loop-round-preserved
loop-round-preserved g c =
    let copies = c.in-Some.found.copies.items in
    record {
      copies = c.hand_in_all.ensures.copies (g.H.Hand.accepted c.args.hand.now) c.loop-round.invariant.copies;
      cleans = cleans_more c.loop-round._round c.args.jobs.now c.loop-round.jobs c.take-image.new.self (known c.args.reader.now) (known c.loop-round.reader) (known c.look.new.reader)
          (g.H.Hand.accepted c.args.hand.now) (g.H.Hand.accepted c.loop-round.hand) (g.H.Hand.accepted c.hand_in_all.new.hand) c.take-image.result (map wish_of copies)
          c.loop-round.invariant.cleans c.take-image.ensures c.loop-round.invariant.known c.look.ensures.grows c.hand_in_all.ensures.asked
          (copies_asked c.take-image.result (view_of (known c.look.new.reader)).tree copies c.in-Some.ensures.found);
      sender = search rules;
      line = search rules;
      index = search rules;
      known = begins_trans (known c.look.new.reader) (known c.loop-round.reader) (known c.args.reader.now) c.look.ensures.grows c.loop-round.invariant.known;
    }
