use Rattle.std.proofs.Common.{ap, ◌∙◌, refl, List, map}
use Rattle.jffs_line.specs.declared.rings.Note.{Note}
use Rattle.jffs_line.proofs.Numbering.{seqs-pushed}
use Rattle.jffs_line.proofs.rings.RingHand.try_hand_in.Goals as goal

pub invariant_of-self-clause-numbered : goal.invariant_of-self-clause-numbered
invariant_of-self-clause-numbered c =
    ap (λ (ns : List Note). map (λ (n : Note). n.seq) ns) c.in-Ok.ensures.ok.0 ∙ seqs-pushed _ _ _ c.args.self.now.numbered refl
