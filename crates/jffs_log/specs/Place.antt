-- Where the next record of a log is put.
use Rattle.std.specs.Prelude.{◌≡◌, ℕ, ◌+◌, ◌<◌, ◌≤◌}
use Rattle.jffs_log.specs.declared.log_index.LogIndex.{LogIndex}
use Rattle.jffs_log.specs.declared.place.Place.{Place}
use Rattle.jffs_log.specs.declared.room.Room.{Room}
use Rattle.jffs_log.specs.Ring.{IsAt}
use Rattle.jffs_log.specs.Room.{tail_need}

-- after the last record of the tail
abbrev pub end_of_tail : LogIndex → Place
end_of_tail b = record { sector = b.tail; offset = b.used; free = b.free; held = b.held }

-- at the beginning of that sector, which the record opens
abbrev pub start_of : ℕ → LogIndex → Place
start_of sector b =
    record { sector = sector; offset = 0; free = b.sector_size; held = b.held + 1 }

-- at the beginning of the sector after the tail
pub record IsNextStart (b : LogIndex) (p : Place) : Type 0 where
  pub next : IsAt b.first b.sectors b.held p.sector
  pub start : p ≡ start_of p.sector b

-- A record of that length is put there: into the tail where that has room, else into the next
-- sector.
pub record IsPlace (room : Room) (len : ℕ) (b : LogIndex) (p : Place) : Type 0 where
  pub in_tail : tail_need room len ≤ b.free → p ≡ end_of_tail b
  pub in_next : b.free < tail_need room len → IsNextStart b p
