-- How much work cleaning is: what it copies.
use Rattle.std.specs.Prelude.{◌≡◌, ℕ, ◌+◌, ◌-◌, ◌*◌, ◌≤◌, List, ◌++◌, length, take, filter}
use Rattle.jffs_node.specs.declared.node.Node.{Node}
use Rattle.jffs_tree.specs.Origin.{is_live}
use Rattle.jffs_log.specs.Room.{weight}
use Rattle.jffs_log.specs.Cleaning.{GcState, used, live_used, oldest_records, cleaned, room_made}
use Rattle.jffs_log.specs.RoomLaws.{IsSound, live_weight, Holds}
use Rattle.jffs_node.specs.declared.layout.TheConstants.{HEADER_LEN}

-- The copies that were made between two states: the nodes newer than those that were there.
abbrev pub copies : GcState → GcState → List Node
copies before after = take (length after.past - length before.past) after.past

-- the bytes that their records take
abbrev pub copied_bytes : GcState → GcState → ℕ
copied_bytes before after = used (copies before after)

-- how many of these records are live
abbrev pub live_count : List Node → List Node → ℕ
live_count past nodes = length (filter (λ n. is_live past n.version) nodes)

-- A cleaning copies no more bytes than the live records of the oldest sector take, and no more
-- records than are live there.
pub record CopiesTheLive (before after : GcState) : Type 0 where
  pub past : after.past ≡ copies before after ++ before.past
  pub bytes : copied_bytes before after
      ≤ live_used before.past (oldest_records before.log.sectors)
  pub count : length (copies before after)
      ≤ live_count before.past (oldest_records before.log.sectors)

-- So does every cleaning of a lawful log.
abbrev pub CleaningsCopyTheLive : Type 0
CleaningsCopyTheLive =
    (sectors sector_size : ℕ) (s : GcState) → IsSound sectors sector_size s
    → CopiesTheLive s (cleaned sector_size s)

-- It copies 64 bytes less than a sector at most.
abbrev pub CleaningsFitASector : Type 0
CleaningsFitASector =
    (sectors sector_size : ℕ) (s : GcState) → HEADER_LEN ≤ sector_size
    → IsSound sectors sector_size s
    → copied_bytes s (cleaned sector_size s) + HEADER_LEN ≤ sector_size

-- what is live in the log, with what is free in the tail
abbrev pub live_and_free : GcState → ℕ
live_and_free s = live_weight s + s.log.free

-- The copies of a whole turn take no more bytes than the live records of the log did at its start,
-- with what was free in the tail: a copy that is put there may be copied once more.
pub record CopiesTheLog (before after : GcState) : Type 0 where
  pub past : after.past ≡ copies before after ++ before.past
  pub bytes : copied_bytes before after ≤ live_and_free before

-- So little is copied to make room in a lawful log, by at most as many cleanings as it has sectors.
abbrev pub MakingRoomCopiesLittle : Type 0
MakingRoomCopiesLittle =
    (sectors sector_size len most : ℕ) (s : GcState) → IsSound sectors sector_size s
    → most ≤ length s.log.sectors → CopiesTheLog s (room_made sector_size len most s)

-- Where the log holds the newest part of the history, that is at most the weight of it, with what
-- was free in the tail.
abbrev pub MakingRoomCopiesTheWeight : Type 0
MakingRoomCopiesTheWeight =
    (sectors sector_size len most : ℕ) (s : GcState) (gone : List Node)
    → IsSound sectors sector_size s → most ≤ length s.log.sectors → Holds s gone
    → copied_bytes s (room_made sector_size len most s) ≤ weight s.past + s.log.free

-- Each copy takes 64 bytes at least.
abbrev pub CopiesAreFew : Type 0
CopiesAreFew =
    (before after : GcState) → HEADER_LEN * length (copies before after) ≤ copied_bytes before after
