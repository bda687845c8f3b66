-- What was accepted of a sender is numbered 1, 2, 3, ..
use Rattle.std.specs.Prelude.{◌≡◌, ℕ, List, [], ◌∷◌, map}
use Rattle.std.specs.List.{range_with_len}
use Rattle.std.proofs.Common.{refl, sym, ap, ◌∙◌}
use Rattle.std.proofs.lemmas.List.{length-map}
use Rattle.rtrb.specs.Ring.{sent}
use Rattle.jffs_line.specs.declared.rings.Note.{Note}
use Rattle.jffs_line.specs.declared.rings.RingHand.{RingHand}
use Rattle.jffs_line.specs.declared.shared.SharedHand.{SharedHand}
use Rattle.jffs_line.specs.Requests.{IsNumbered}
use Rattle.jffs_line.specs.Rings.{as_request, ring_accepted}
use Rattle.jffs_line.specs.Shared.{shared_accepted}

pub shared_numbered : (h : SharedHand) → IsNumbered (shared_accepted h)
shared_numbered h = h.numbered ∙ ap (λ n. range_with_len 1 n) (sym h.counted)

-- the ring's notes have the numbers of their requests
pub seqs_of_notes : (w : ℕ) (notes : List Note)
    → map (λ r. r.seq) (map (as_request w) notes) ≡ map (λ (n : Note). n.seq) notes
seqs_of_notes w [] = refl
seqs_of_notes w (n ∷ notes) = ap (λ seqs. n.seq ∷ seqs) (seqs_of_notes w notes)

pub ring_numbered : (h : RingHand) → IsNumbered (ring_accepted h)
ring_numbered h =
    seqs_of_notes h.number (sent h.producer) ∙ h.numbered
    ∙ ap (λ n. range_with_len 1 n)
    (sym (length-map (sent h.producer) (as_request h.number) ∙ h.counted))
