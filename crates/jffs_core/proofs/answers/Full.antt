-- The log was heavy where a fresh record has no room.
use Rattle.std.proofs.Common.{◌≡◌, ℕ, ◌/◌, ◌≤◌, true, false, ◌&&◌, List, ◌++◌, length, reverse, leb, sym, ap, ◌∙◌, arith}
use Rattle.std.proofs.lemmas.Bool.{and_parts, leb-true}
use Rattle.jffs_node.specs.declared.node.Node.{Node}
use Rattle.jffs_node.specs.declared.layout.TheConstants.{HEADER_LEN}
use Rattle.jffs_flash.specs.declared.sizes.TheConstants.{MIN_SECTORS, MAX_SECTORS}
use Rattle.jffs_flash.specs.Sizes.{is_geometry, is_sector_size}
use Rattle.jffs_log.specs.declared.room.Room.TheVariants as rooms
use Rattle.jffs_log.specs.Room.{heavy, weight}
use Rattle.jffs_log.specs.LogIndex.{layout_in}
use Rattle.jffs_core.specs.CoreState.{CoreState}
use Rattle.jffs_core.specs.Past.{gc_state, RepresentsWorking, has_room_for}
use Rattle.jffs_core.specs.Cleaning.{HasMadeRoom}
use Rattle.jffs_log.specs.Image.{log_sectors}
use Rattle.jffs_log.specs.Volume.{sectors_in}
use Rattle.jffs_log.specs.Cleaning.{fresh_has_room, room_made}
use Rattle.jffs_log.specs.RoomLaws.{Holds}
use Rattle.jffs_log.proofs.scans.MountedLog.{log_nodes}
use Rattle.jffs_log.proofs.rooms.Copied.{copies_take_over, unmounts_are_dead}
use Rattle.jffs_log.proofs.rooms.Bound.{full_logs_are_heavy}
use Rattle.jffs_log.proofs.Parts.{logs_weigh_less}
use Rattle.jffs_core.proofs.answers.Deciding.{sector_sizes}

-- The log holds the newest part of the history.
pub past_holds : (past : List Node) (c : CoreState) → RepresentsWorking past c → (gone : List Node) × Holds (gc_state past c) gone
past_holds past c h = (
  h.history.gone,
  h.history.front ∙ ap (λ (nodes : List Node). reverse nodes ++ h.history.gone) (log_nodes (log_sectors (sectors_in c.index.sectors c.index.sector_size c.image))),
)

pub sizes_low : (count z : ℕ) → is_geometry count z ≡ true → (MIN_SECTORS ≤ count) × (HEADER_LEN ≤ z)
sizes_low count z h =
    let parts = and_parts (leb MIN_SECTORS count && leb count MAX_SECTORS) (is_sector_size z) h in (
      leb-true MIN_SECTORS count (and_parts (leb MIN_SECTORS count) (leb count MAX_SECTORS) parts.0).0,
      sector_sizes (λ y. HEADER_LEN ≤ y) z parts.1 (omega arith) (omega arith) (omega arith) (omega arith) (omega arith),
    )

-- Where a fresh record has no room after room was made, the log was heavy.
pub turn_was_full : (len : ℕ) (past after : List Node) (old middle : CoreState) → RepresentsWorking past old → HasMadeRoom len past after old middle → len ≤ old.index.sector_size / 4 → has_room_for middle rooms.Fresh len ≡ false
    → 2 ≤ (layout_in old.image old.index).erased → heavy old.index.sectors old.index.sector_size ≤ weight past
turn_was_full len past after old middle known made short none two =
    let sizes = sizes_low old.index.sectors old.index.sector_size known.history.sizes in
    let full : fresh_has_room len (room_made old.index.sector_size len (length (layout_in old.image old.index).sectors) (gc_state past old)) ≡ false = ap (fresh_has_room len) (sym made.turn) ∙ none in
    let heavy_log = full_logs_are_heavy copies_take_over unmounts_are_dead old.index.sectors old.index.sector_size len (gc_state past old) sizes.1 sizes.0 short known.sound two full in
    let holds = past_holds past old known in
    let part = logs_weigh_less (gc_state past old) holds.0 holds.1 in
    omega arith
