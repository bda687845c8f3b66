-- The index answers for room what the image says.
use Rattle.std.proofs.Common.{◌≡◌, ℕ, ◌+◌, ◌-◌, List, length, None, sym, ap, ◌∙◌, arith}
use Rattle.std.specs.List.{last_or}
use Rattle.jffs_log.specs.declared.log_index.RecordRef.{RecordRef}
use Rattle.jffs_log.specs.declared.room.Room.{Room}
use Rattle.jffs_log.specs.Image.{tail_of, free_of_tail, erased_count}
use Rattle.jffs_log.specs.Volume.{sectors_in}
use Rattle.jffs_log.specs.Room.{has_room, has_room_in}
use Rattle.jffs_log.specs.LogIndex.{Describes}
use Rattle.jffs_log.proofs.ring.Ring.{Numbered, ring_log}
use Rattle.jffs_log.proofs.append.Open.{length-sectors_in}
use Rattle.jffs_log.proofs.scans.MountedLog.{all_counted}

module _ (count len : ℕ) (image : List ℕ) (first many tail used free : ℕ) (records : List RecordRef) (h : Describes count len image first many tail used free records) where
  pub described_free : free_of_tail len (tail_of (sectors_in count len image)) ≡ free
  described_free = ap (λ (xs : List Numbered). free_of_tail len (last_or None xs)) (ring_log first (sectors_in count len image) h.held h.blank h.ring).0 ∙ sym h.exact

  pub described_counted : many + erased_count (sectors_in count len image) ≡ count
  described_counted =
      let all = all_counted (sectors_in count len image) in
      let log = ap (λ (xs : List Numbered). length xs) (ring_log first (sectors_in count len image) h.held h.blank h.ring).0 in
      let c = h.counted in
      let m = length-sectors_in count len image in
      omega arith

  pub described_erased : erased_count (sectors_in count len image) ≡ count - many
  described_erased = let c = described_counted in omega arith

  pub described_room : (room : Room) (k : ℕ) → has_room_in count len image room k ≡ has_room room k free (count - many)
  described_room room k = ap (λ f. has_room room k f (erased_count (sectors_in count len image))) described_free ∙ ap (has_room room k free) described_erased
