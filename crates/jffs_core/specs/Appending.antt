-- A node becomes the newest of the history.
use Rattle.std.specs.Prelude.{◌≡◌, ℕ, ◌+◌, ◌≤◌, ◌/◌, true, false, List, ◌∷◌}
use Rattle.jffs_node.specs.declared.node.Node.{Node}
use Rattle.jffs_node.specs.Record.{record_len}
use Rattle.jffs_tree.specs.declared.wish.Cause.{Cause}
use Rattle.jffs_tree.specs.declared.wish.Cause.TheVariants.{NoSpace, Device}
use Rattle.jffs_log.specs.declared.room.Room.{Room}
use Rattle.jffs_log.specs.declared.sector.TheConstants.{RECORDS_PER_SECTOR}
use Rattle.jffs_log.specs.LogIndex.{layout_in}
use Rattle.jffs_log.specs.History.{KeepsRules}
use Rattle.jffs_log.specs.Cleaning.{put}
use Rattle.jffs_log.specs.RoomLaws.{suits_room}
use Rattle.jffs_core.specs.CoreState.{CoreState, IsSameButAnswers}
use Rattle.jffs_core.specs.History.{HasNextVersion, MayFollow}
use Rattle.jffs_core.specs.Past.{RepresentsWorking, has_room_for}
use Rattle.jffs_core.specs.Calls.{RefusedWith}

-- the node may be the next of the history, and its record may stand where that room is
pub record MayPut (past : List Node) (sector_size : ℕ) (room : Room) (n : Node) : Type 0 where
  pub rules : KeepsRules (n ∷ past)
  pub short : record_len n ≤ sector_size / RECORDS_PER_SECTOR
  pub suits : suits_room room n ≡ true
  pub follows : MayFollow past n
  pub next : HasNextVersion past n

-- the node is the newest of the history, and its record the last of the log
pub record HasPut (room : Room) (n : Node) (old new : CoreState) : Type 0 where
  pub works : new.failed ≡ false
  pub faults : new.faults ≡ old.faults
  pub programs : new.wear.bytes ≤ old.wear.bytes + (record_len n + 1)
  pub had_room : has_room_for old room (record_len n) ≡ true
  pub log : layout_in new.image new.index
      ≡ put old.index.sector_size room n (layout_in old.image old.index)
  pub represents : (past : List Node) → RepresentsWorking past old
      → MayPut past old.index.sector_size room n → RepresentsWorking (n ∷ past) new

-- why a node wasn't put
pub record PutRefused (room : Room) (n : Node) (cause : Cause) (old new : CoreState) : Type 0 where
  pub stands : (past : List Node) → RepresentsWorking past old
      → MayPut past old.index.sector_size room n → RefusedWith (λ m. m ≡ n) cause past past old new
  pub no_room : cause ≡ NoSpace → has_room_for old room (record_len n) ≡ false
  pub as_it_was : cause ≡ NoSpace → new ≡ old
  pub same : (cause ≡ Device → ⊥) → IsSameButAnswers old new
