-- The records of the oldest sector, one after another.
use Rattle.std.proofs.Common.{◌≡◌, ℕ, ◌≤◌, ◌&&◌, List, [], ◌∷◌, ◌++◌, length, refl, ap, sym, ◌∙◌, arith}
use Rattle.std.proofs.Math.Bool.{and_assoc}
use Rattle.jffs_node.specs.declared.node.Node.{Node}
use Rattle.jffs_log.specs.declared.room.Room.TheVariants.{Copy}
use Rattle.jffs_log.specs.Cleaning.{GcState, in_last, copied, handled, handled_each, copy_has_room, copies_have_room, oldest_records}
use Rattle.jffs_log.specs.RoomLaws.{HandledInParts, OldestStays}
use Rattle.jffs_log.proofs.ring.Sectors.{length_in_last, length_in_next}
use Rattle.jffs_log.proofs.append.Puts.{put_by, handled_by}

pub handled_in_parts : HandledInParts
handled_in_parts z [] rest s = (refl, refl)
handled_in_parts z (n ∷ done) rest s =
    let later = handled_in_parts z done rest (handled z n s) in (
      later.0,
      ap (λ b. copy_has_room n s && b) later.1 ∙ sym (and_assoc (copy_has_room n s) (copies_have_room z done (handled z n s)) (copies_have_room z rest (handled_each z done (handled z n s)))),
    )

abbrev Stays : List (List Node) → List (List Node) → Type 0
Stays before after = (oldest_records after ≡ oldest_records before) × (2 ≤ length after)

stays_in_last : (n : Node) (sectors : List (List Node)) → 2 ≤ length sectors → Stays sectors (in_last n sectors)
stays_in_last n [] h = absurd (omega arith)
stays_in_last n (s ∷ []) h = absurd (omega arith)
stays_in_last n (s ∷ t ∷ sectors) h = (refl, (let e = length_in_last n s (t ∷ sectors) in omega arith))

stays_in_next : (n : Node) (sectors : List (List Node)) → 2 ≤ length sectors → Stays sectors (sectors ++ (n ∷ []) ∷ [])
stays_in_next n [] h = absurd (omega arith)
stays_in_next n (s ∷ sectors) h = (refl, (let e = length_in_next n (s ∷ sectors) in omega arith))

stays_one : (z : ℕ) (n : Node) (s : GcState) → 2 ≤ length s.log.sectors → Stays s.log.sectors (handled z n s).log.sectors
stays_one z n s h = handled_by (λ t. Stays s.log.sectors t.log.sectors) z n s
    (λ live. put_by (λ l. Stays s.log.sectors l.sectors) z Copy (copied s.past n) s.log (λ fits. stays_in_last (copied s.past n) s.log.sectors h) (λ less. stays_in_next (copied s.past n) s.log.sectors h))
    (λ off. (refl, h))

pub oldest_stays : OldestStays
oldest_stays z [] s h = (refl, h)
oldest_stays z (n ∷ nodes) s h =
    let one = stays_one z n s h in
    let later = oldest_stays z nodes (handled z n s) one.1 in
    (later.0 ∙ one.0, later.1)
