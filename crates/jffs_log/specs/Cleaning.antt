-- The log as the room of it is counted, and the pure steps of cleaning.
use Rattle.std.specs.Prelude.{ℕ, zero, suc, ◌+◌, ◌-◌, ◌/◌, Bool, true, not, ◌&&◌, ◌||◌, ◌==◌}
use Rattle.std.specs.Prelude.{nat_le, nat_lt, List, [], ◌∷◌, ◌++◌, map, filter, sum_by}
use Rattle.std.specs.Prelude.{if◌then◌else◌}
use Rattle.std.specs.List.{list_all}
use Rattle.jffs_node.specs.declared.node.Node.{Node}
use Rattle.jffs_node.specs.Record.{record_len, dsize, is_file, fits_rest}
use Rattle.jffs_tree.specs.State.{state_of_past}
use Rattle.jffs_tree.specs.Origin.{is_live}
use Rattle.jffs_tree.specs.Check.{each_fits}
use Rattle.jffs_tree.specs.Decide.{cleaning_copy, with}
use Rattle.jffs_log.specs.declared.room.Room.{Room}
use Rattle.jffs_log.specs.declared.room.Room.TheVariants.{Fresh, Copy}
use Rattle.jffs_log.specs.declared.sector.TheConstants.{RECORDS_PER_SECTOR}
use Rattle.jffs_log.specs.Image.{Sector, tail_of, log_sectors, erased_count, free_of_tail}
use Rattle.jffs_log.specs.Room.{tail_need, has_room}

-- The sectors of the log, the oldest first, each as its records in order; the bytes that are free
-- in the last, which is the tail; and how many sectors are erased.
pub record Layout : Type 0 where
  pub sectors : List (List Node)
  pub free : ℕ
  pub erased : ℕ

-- the bytes that these records take
abbrev pub used : List Node → ℕ
used nodes = sum_by record_len nodes

-- the record lengths of those among these that are live
abbrev pub live_used : List Node → List Node → ℕ
live_used past nodes = used (filter (λ n. is_live past n.version) nodes)

-- what an image's sectors hold
abbrev pub layout_of : ℕ → List Sector → Layout
layout_of sector_size sectors = record {
  sectors = map (λ s. s.1.reading.nodes) (log_sectors sectors);
  free = free_of_tail sector_size (tail_of sectors);
  erased = erased_count sectors;
}

-- one record more at the end of the last sector
abbrev pub in_last : Node → List (List Node) → List (List Node)
in_last n [] = (n ∷ []) ∷ []
in_last n (s ∷ []) = (s ++ n ∷ []) ∷ []
in_last n (s ∷ t ∷ sectors) = s ∷ in_last n (t ∷ sectors)

-- the record stands in the tail
abbrev pub in_tail : Node → Layout → Layout
in_tail n log =
    record { sectors = in_last n log.sectors; free = log.free - record_len n; erased = log.erased }

-- the record opens the next sector
abbrev pub in_next : ℕ → Node → Layout → Layout
in_next sector_size n log =
    record {
      sectors = log.sectors ++ (n ∷ []) ∷ [];
      free = sector_size - record_len n;
      erased = log.erased - 1;
    }

-- A record is put into the tail where that has room, else into the next sector.
abbrev pub put : ℕ → Room → Node → Layout → Layout
put sector_size room n log =
    if nat_le (tail_need room (record_len n)) log.free then in_tail n log
    else in_next sector_size n log

-- all sectors but the oldest
abbrev pub without_oldest : List (List Node) → List (List Node)
without_oldest [] = []
without_oldest (oldest ∷ newer) = newer

-- the records of the oldest sector
abbrev pub oldest_records : List (List Node) → List Node
oldest_records [] = []
oldest_records (oldest ∷ newer) = oldest

-- The oldest sector is erased.
abbrev pub erase_oldest : Layout → Layout
erase_oldest log =
    record { sectors = without_oldest log.sectors; free = log.free; erased = log.erased + 1 }

-- The nodes of the history, the newest first, and the log that holds the newest of them.
pub record GcState : Type 0 where
  pub past : List Node
  pub log : Layout

-- the version after the newest node's, whether or not it fits 32 bits
abbrev pub version_after : List Node → ℕ
version_after [] = 1
version_after (n ∷ past) = n.version + 1

-- the copy that cleaning makes of a node
abbrev pub copied : List Node → Node → Node
copied past n = with (cleaning_copy (state_of_past past) n) (version_after past) 0 0

-- the copy of a record is appended
abbrev pub with_copy : ℕ → Node → GcState → GcState
with_copy sector_size n s =
    record { past = copied s.past n ∷ s.past; log = put sector_size Copy (copied s.past n) s.log }

-- A record at its turn: copied where it is live, else skipped.
abbrev pub handled : ℕ → Node → GcState → GcState
handled sector_size n s = if is_live s.past n.version then with_copy sector_size n s else s

-- several records, each at its turn
abbrev pub handled_each : ℕ → List Node → GcState → GcState
handled_each sector_size [] s = s
handled_each sector_size (n ∷ nodes) s = handled_each sector_size nodes (handled sector_size n s)

-- the copy of this record, where one is made, has room
abbrev pub copy_has_room : Node → GcState → Bool
copy_has_room n s = not (is_live s.past n.version)
    || has_room Copy (record_len (copied s.past n)) s.log.free s.log.erased

-- each copy has room at its turn
abbrev pub copies_have_room : ℕ → List Node → GcState → Bool
copies_have_room sector_size [] s = true
copies_have_room sector_size (n ∷ nodes) s =
    copy_has_room n s && copies_have_room sector_size nodes (handled sector_size n s)

-- The oldest sector is cleaned: its live records are copied, in order, and it is erased.
abbrev pub cleaned : ℕ → GcState → GcState
cleaned sector_size s =
    let after = handled_each sector_size (oldest_records s.log.sectors) s in
    record { past = after.past; log = erase_oldest after.log }

-- a fresh record of `len` bytes has room
abbrev pub fresh_has_room : ℕ → GcState → Bool
fresh_has_room len s = has_room Fresh len s.log.free s.log.erased

-- Room is made for a fresh record of `len` bytes, by at most as many cleanings as the last number
-- says.
abbrev pub room_made : ℕ → ℕ → ℕ → GcState → GcState
room_made sector_size len zero s = s
room_made sector_size len (suc left) s =
    if fresh_has_room len s then s else room_made sector_size len left (cleaned sector_size s)

-- how many cleanings that takes
abbrev pub cleanings : ℕ → ℕ → ℕ → GcState → ℕ
cleanings sector_size len zero s = 0
cleanings sector_size len (suc left) s =
    if fresh_has_room len s then 0 else 1 + cleanings sector_size len left (cleaned sector_size s)

-- What a lawful log keeps.

-- each record of a sector, from an offset on, may stand there: a file or directory record leaves 64
-- bytes after it
abbrev pub stands_from : ℕ → ℕ → List Node → Bool
stands_from sector_size offset [] = true
stands_from sector_size offset (n ∷ nodes) =
    fits_rest n.kind (dsize n) (sector_size / RECORDS_PER_SECTOR) (sector_size - offset)
    && stands_from sector_size (offset + record_len n) nodes

-- the last sector's records, and what is free after them
abbrev pub last_fits : ℕ → ℕ → List (List Node) → Bool
last_fits sector_size free [] = free == 0
last_fits sector_size free (s ∷ []) = nat_le (used s + free) sector_size
last_fits sector_size free (s ∷ t ∷ sectors) = last_fits sector_size free (t ∷ sectors)

-- versions fall from the newest node on
abbrev pub versions_fall : List Node → Bool
versions_fall [] = true
versions_fall (n ∷ past) = list_all (λ m. nat_lt m.version n.version) past && versions_fall past

-- only a file's node may take away more or fewer bytes than it puts in
abbrev pub keeps_length : Node → Bool
keeps_length n = is_file n.kind || dsize n == n.rsize

-- a history whose bytes never move: each node fits at its turn, and versions rise
abbrev pub is_history : List Node → Bool
is_history past = each_fits past && versions_fall past && list_all keeps_length past
