use Rattle.std.proofs.Common.{ℕ}
use Rattle.std.specs.List.{range_with_len}
use Rattle.jffs_line.specs.declared.request.Request.{Request}
use Rattle.std.proofs.Common.{ap, ◌∙◌, sym, subst}
use Rattle.crossbeam_channel.specs.Err.{IsFull}
use Rattle.jffs_line.proofs.Steps.{may_hand_in, learns, was_full}
use Rattle.jffs_line.proofs.Numbering.{seqs-handed_in}
use Rattle.jffs_line.proofs.shared.SharedHand.try_hand_in.Goals as goal

pub try_send_as-requires-clause-rule : goal.try_send_as-requires-clause-rule
try_send_as-requires-clause-rule g c =
    (may_hand_in _ _ _ _ _ c.loop.self.known (ap (λ r. r.writer) c.loop.invariant.request ∙ sym c.loop.invariant.hand.0) c.loop.self.is_known, learns _ _)

pub returns-in-Err-Full-clause-full : goal.returns-in-Err-Full-clause-full
returns-in-Err-Full-clause-full g c = λ _.
    was_full _ _ _ c.args.self.now.known (rw (c.loop.invariant.known, c.loop.invariant.hand.2) at (c.in-Err-Full.ensures.rule.2 (subst IsFull (sym c.in-Err-Full.field-0-is) tt)))

pub invariant_of-self-clause-numbered : goal.invariant_of-self-clause-numbered
invariant_of-self-clause-numbered g c =
    seqs-handed_in _ _ _ _ _ c.loop.self.known c.in-Ok.ensures.rule
    (c.loop.self.numbered ∙ ap (λ (n : ℕ). range_with_len 1 n) c.loop.invariant.hand.1) (ap (λ (r : Request). r.seq) c.loop.invariant.request)
