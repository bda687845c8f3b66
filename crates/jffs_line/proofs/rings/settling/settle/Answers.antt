use Rattle.std.proofs.Common.{rules, ◌≡◌, sym, subst}
use Rattle.jffs_line.specs.declared.rings.RingHand.{RingHand}
use Rattle.jffs_line.specs.Rings.{Apart, ring_accepted, rings_taken}
use Rattle.jffs_line.specs.Settling.{all_hands, IsSettled}
use Rattle.jffs_line.proofs.Ringing.{apart}
use Rattle.jffs_line.proofs.Emptying.{numbers_are}
use Rattle.jffs_line.proofs.rings.settling.settle.Goals as goal

pub empty_all-requires-clause-apart : goal.empty_all-requires-clause-apart
empty_all-requires-clause-apart c =
    subst Apart (numbers_are c.args.taker.rings.items (all_hands c.args.hands) c.requires.ends) (apart c.args.taker)

pub returns-in-Ok-clause-settled : goal.returns-in-Ok-clause-settled
returns-in-Ok-clause-settled c =
    let all = c.empty_all.ensures in
    let waits : c.in-Ok.waiting.items ≡ all.0 = search (rules, all.2) in
    subst (IsSettled (λ (h : RingHand). h.number) ring_accepted (all_hands c.args.hands) (rings_taken c.args.taker)) (sym waits) all.1

pub returns-in-Ok-clause-taken : goal.returns-in-Ok-clause-taken
returns-in-Ok-clause-taken c = (c.empty_all.ensures.0, c.empty_all.ensures.1)

pub returns-clause-taken : goal.returns-clause-taken
returns-clause-taken c = (c.empty_all.ensures.0, c.empty_all.ensures.1)
