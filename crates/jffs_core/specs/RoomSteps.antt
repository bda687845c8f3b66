-- What cleaning adds to a history, and the answer where it made no room.
use Rattle.std.specs.Prelude.{◌≡◌, ℕ, ◌≤◌, ◌^◌, ◌/◌, true, false, List, ◌++◌, length, Ok}
use Rattle.jffs_node.specs.declared.node.Node.{Node}
use Rattle.jffs_node.specs.Record.{is_fresh, record_len}
use Rattle.jffs_tree.specs.declared.wish.Cause.TheVariants as causes
use Rattle.jffs_tree.specs.declared.wish.Outcome.TheVariants.{Refused}
use Rattle.jffs_tree.specs.declared.wish.NewNode.{NewNode}
use Rattle.jffs_tree.specs.Decide.{with, is_unmount_wish}
use Rattle.jffs_line.specs.declared.request.Request.{Request}
use Rattle.jffs_log.specs.Cleaning.{GcState, handled_each, oldest_records, cleaned, fresh_has_room}
use Rattle.jffs_log.specs.Cleaning.{room_made, version_after}
use Rattle.jffs_log.specs.RoomLaws.{IsSound, Holds}
use Rattle.jffs_core.specs.Run.{OnlyCopies}
use Rattle.jffs_core.specs.Step.{Turn, IsStep, decision, takes_no_node, had_room, session_of}
use Rattle.jffs_core.specs.Step.{newest_is_unmount}
use Rattle.jffs_node.specs.declared.layout.TheConstants.{HEADER_LEN}
use Rattle.jffs_flash.specs.declared.sizes.TheConstants.{MIN_SECTORS}
use Rattle.jffs_log.specs.declared.sector.TheConstants.{RECORDS_PER_SECTOR}

-- the versions up to here fit 32 bits
abbrev pub HasVersions : GcState → Type 0
HasVersions s = version_after s.past ≤ 2 ^ 32

-- Cleaning adds true copies alone.
abbrev pub CleaningOnlyCopies : Type 0
CleaningOnlyCopies =
    (sectors sector_size : ℕ) (s : GcState) → IsSound sectors sector_size s
    → HasVersions (cleaned sector_size s) → OnlyCopies s.past (cleaned sector_size s).past

-- So does a cleaning that ends early, after some of the records.
abbrev pub StoppedOnlyCopies : Type 0
StoppedOnlyCopies =
    (sectors sector_size : ℕ) (s : GcState) (done rest : List Node) → IsSound sectors sector_size s
    → oldest_records s.log.sectors ≡ done ++ rest
    → HasVersions (handled_each sector_size done s)
    → OnlyCopies s.past (handled_each sector_size done s).past

abbrev pub MakingRoomOnlyCopies : Type 0
MakingRoomOnlyCopies =
    (sectors sector_size len : ℕ) (s : GcState) → HEADER_LEN ≤ sector_size → MIN_SECTORS ≤ sectors
    → IsSound sectors sector_size s → 2 ≤ s.log.erased
    → HasVersions (room_made sector_size len (length s.log.sectors) s)
    → OnlyCopies s.past (room_made sector_size len (length s.log.sectors) s).past

-- the session that a request was taken in
pub record TakenIn (t : Turn) (s : GcState) : Type 0 where
  pub session : session_of t ≡ s
  pub clean : t.clean ≡ true → newest_is_unmount t.past ≡ true
  pub standing : t.failed ≡ false
  pub sound : IsSound t.volume.sectors t.volume.sector_size s

-- NoSpace is a lawful answer for a fresh node that has no room after the whole turn of cleaning.
abbrev pub NoSpaceIsAStep : Type 0
NoSpaceIsAStep =
    (t : Turn) (q : Request) (n : NewNode) (s : GcState) (gone : List Node) → TakenIn t s
    → Holds s gone → HEADER_LEN ≤ t.volume.sector_size → MIN_SECTORS ≤ t.volume.sectors
    → 2 ≤ t.erased
    → takes_no_node t q ≡ false → decision t q ≡ Ok n → is_fresh (with n 0 0 0) ≡ true
    → record_len (with n 0 0 0) ≤ t.volume.sector_size / RECORDS_PER_SECTOR → had_room t n ≡ false
    → fresh_has_room (record_len (with n 0 0 0))
    (room_made t.volume.sector_size (record_len (with n 0 0 0)) (length s.log.sectors) s) ≡ false
    → HasVersions (room_made t.volume.sector_size (record_len (with n 0 0 0)) (length s.log.sectors)
    s)
    → IsStep t q (Refused causes.NoSpace)
    (room_made t.volume.sector_size (record_len (with n 0 0 0)) (length s.log.sectors) s).past

-- With two sectors erased an Unmount is never answered NoSpace.
abbrev pub UnmountsHaveRoom : Type 0
UnmountsHaveRoom =
    (t : Turn) (q : Request) (after : List Node) → is_unmount_wish q.wish ≡ true → 2 ≤ t.erased
    → IsStep t q (Refused causes.NoSpace) after → ⊥
