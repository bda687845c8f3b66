-- A log as its callers see it, and what its calls leave of it.
use Rattle.std.specs.Prelude.{◌≡◌, ◌⊎◌, ℕ, ◌+◌, ◌-◌, ◌*◌, ◌/◌, ◌^◌, ◌<◌, ◌≤◌, Bool, true, false}
use Rattle.std.specs.Prelude.{List, [], ◌∷◌, ◌++◌, length, min, IsTrue}
use Rattle.std.specs.List.{AllByRecursion}
use Rattle.jffs_node.specs.declared.node.Node.{Node}
use Rattle.jffs_node.specs.Record.{record_len, is_lawful, is_unmount}
use Rattle.jffs_inodes.specs.Inodes.{Tree}
use Rattle.jffs_tree.specs.Origin.{tree_of}
use Rattle.jffs_tree.specs.declared.wish.Cause.{Cause}
use Rattle.jffs_tree.specs.declared.wish.Cause.TheVariants as cause
use Rattle.jffs_flash.specs.Image.{erased, IsHalfErased}
use Rattle.jffs_flash.specs.Device.{Device, with_image, Fails, EraseFails, Unchanged}
use Rattle.jffs_flash.specs.Wear.{Wear, Wears, no_erase, one_erase}
use Rattle.jffs_flash.specs.declared.sizes.TheConstants.{MAX_SECTORS}
use Rattle.jffs_log.specs.declared.log_index.LogIndex.{LogIndex}
use Rattle.jffs_log.specs.declared.place.Place.{Place}
use Rattle.jffs_log.specs.declared.sector.TheConstants.{RECORDS_PER_SECTOR}
use Rattle.jffs_log.specs.declared.room.Room.{Room}
use Rattle.jffs_log.specs.declared.room.Room.TheVariants as room
use Rattle.jffs_log.specs.LogIndex.{IsLogIndex, HasSizes, IsSameLogIndex, IsCutSomewhere}
use Rattle.jffs_log.specs.LogIndex.{log_in, oldest_in, layout_in, lives_in, placed_at}
use Rattle.jffs_log.specs.Cleaning.{Layout, put, erase_oldest}
use Rattle.jffs_log.specs.History.{IsHistory, KeepsRules}
use Rattle.jffs_log.specs.Image.{Placed, is_clean}
use Rattle.jffs_log.specs.Place.{IsPlace}
use Rattle.jffs_log.specs.Room.{has_room_in}
use Rattle.jffs_log.specs.Erasable.{MayErase}
use Rattle.jffs_log.specs.Volume.{sectors_in}
use Rattle.jffs_log.specs.Wear.{sector_after}

-- its device, what that counts of its wear, how often each byte of it can still be read, what is
-- known of it in memory, whether a call of the device failed, and whether that was an erase
pub record LogState : Type 0 where
  pub device : Device
  pub wear : Wear
  pub reads_left : List ℕ
  pub index : LogIndex
  pub failed : Bool
  pub erase_failed : Bool

-- the records of the image, each with its sector and offset, in the order of the log
abbrev pub log_records : LogState → List Placed
log_records s = log_in s.device.image s.index

-- the log sector by sector, what is free in the tail, and how many sectors are erased
abbrev pub log_layout : LogState → Layout
log_layout s = layout_in s.device.image s.index

-- the log is the newest part of this history, and the rest of it was erased
abbrev pub HasHistory : List Node → LogState → Type 0
HasHistory past s = IsHistory s.device.image s.index past

-- What always holds of a log: while the device works, the index describes its image, and no erase
-- has failed.
pub record IsLog (s : LogState) : Type 0 where
  pub sizes : HasSizes s.device.sectors s.device.sector_size s.index
  pub held : s.index.held ≤ s.index.sectors
  pub first : s.index.first < s.index.sectors
  pub sectors : s.index.sectors ≤ MAX_SECTORS
  pub few : length s.index.records.items < 2 ^ 32
  pub told : s.failed ≡ false → IsLogIndex s.device.image s.index
  pub intact : s.failed ≡ false → s.erase_failed ≡ false

-- the node's record may be the next, where that room is
pub record MayAppend (r : Room) (n : Node) (s : LogState) : Type 0 where
  pub lawful : IsTrue (is_lawful n)
  pub short : record_len n ≤ s.index.sector_size / RECORDS_PER_SECTOR
  pub has_room : IsTrue
      (has_room_in s.index.sectors s.index.sector_size s.device.image r (record_len n))
  pub unmounts : r ≡ room.Unmount → IsTrue (is_unmount n.kind)

-- the node's record may be the next, and is put there
pub record MayAppendAt (p : Place) (n : Node) (s : LogState) : Type 0 where
  pub room : Room
  pub may : MayAppend room n s
  pub is_place : IsPlace room (record_len n) s.index p

-- whether the log of the image ends with an unmount node
abbrev pub is_clean_log : LogState → Bool
is_clean_log s = is_clean (sectors_in s.index.sectors s.index.sector_size s.device.image)

-- only the capacity reserved for records may differ
pub record IsSameLog (old new : LogState) : Type 0 where
  pub device : Unchanged old.device new.device
  pub wear : new.wear ≡ old.wear
  pub unread : new.reads_left ≡ old.reads_left
  pub index : IsSameLogIndex old.index new.index
  pub failed : new.failed ≡ old.failed
  pub erase_failed : new.erase_failed ≡ old.erase_failed

-- the numbers that an append leaves
pub record KeepsNumbers (old new : LogIndex) : Type 0 where
  pub sizes : HasSizes old.sectors old.sector_size new
  pub first : new.first ≡ old.first
  pub erases : new.erases ≡ old.erases

-- A log that still works, of which the device has another image.
pub record Works (old new : LogState) : Type 0 where
  pub failed : new.failed ≡ false
  pub no_erase_failed : new.erase_failed ≡ old.erase_failed
  pub told : IsLogIndex new.device.image new.index
  pub device : new.device ≡ with_image old.device new.device.image

-- for a record no sector is erased, and its bytes are programmed once, the gate's once more
abbrev pub WearsByRecord : Node → LogState → LogState → Type 0
WearsByRecord n old new = Wears no_erase (record_len n + 1) old.wear new.wear

-- the oldest sector is erased once, or the device was asked for that
abbrev pub WearsOldest : LogState → LogState → Type 0
WearsOldest old new = Wears (one_erase old.index.first) 0 old.wear new.wear

-- The node's record is the last of the log, in the tail or in the next sector.
pub record Appended (r : Room) (n : Node) (old new : LogState) : Type 0 where
  pub works : Works old new
  pub numbers : KeepsNumbers old.index new.index
  pub added : log_records new
      ≡ log_records old ++ placed_at new.index.tail (new.index.used - record_len n) n ∷ []
  pub layout_is : log_layout new ≡ put old.index.sector_size r n (log_layout old)
  pub clean : is_clean_log new ≡ is_unmount n.kind
  pub worn : WearsByRecord n old new
  pub history : (past : List Node) → HasHistory past old → KeepsRules (n ∷ past)
      → HasHistory (n ∷ past) new

-- the same, whatever room it was put there for
abbrev pub AppendedAt : Place → Node → LogState → LogState → Type 0
AppendedAt p n old new =
    (r : Room) → IsPlace r (record_len n) old.index p → Appended r n old new

-- The device failed: a scan finds the log as it was, or with the whole record at its end.
pub record AppendFailed (n : Node) (why : Cause) (old new : LogState) : Type 0 where
  pub cause_is : why ≡ cause.Device
  pub failed : new.failed ≡ true
  pub device : Fails (λ image. IsCutSomewhere old.index old.device.image image n) old.device
      new.device
  pub numbers : KeepsNumbers old.index new.index
  pub no_erase_failed : new.erase_failed ≡ old.erase_failed
  pub intact : new.erase_failed ≡ false
  pub worn : WearsByRecord n old new
  pub history : (past : List Node) → HasHistory past old → KeepsRules (n ∷ past)
      → HasHistory past new ⊎ HasHistory (n ∷ past) new

-- how often the oldest sector was to be erased, after once more
abbrev pub one_erase_more : LogIndex → ℕ
one_erase_more b = min (b.erases + 1) (2 ^ 64 - 1)

-- The oldest sector is gone.
pub record ErasedOldest (tree : Tree) (old new : LogState) : Type 0 where
  pub works : Works old new
  pub image : new.device.image ≡ erased old.index.sector_size old.index.first old.device.image
  pub sizes : HasSizes old.index.sectors old.index.sector_size new.index
  pub erases : new.index.erases ≡ one_erase_more old.index
  pub first : new.index.first ≡ sector_after old.index.sectors old.index.first
  pub gone : log_records old ≡ oldest_in old.device.image old.index ++ log_records new
  pub layout_is : log_layout new ≡ erase_oldest (log_layout old)
  pub clean : is_clean_log new ≡ is_clean_log old
  pub history : (past : List Node) → tree ≡ tree_of past → HasHistory past old → HasHistory past new

-- The device failed: the oldest sector, which could be erased, may hold any bytes.
pub record EraseFailed (tree : Tree) (why : Cause) (old new : LogState) : Type 0 where
  pub cause_is : why ≡ cause.Device
  pub failed : new.failed ≡ true
  pub device : EraseFails
      (IsHalfErased (old.index.first * old.index.sector_size) old.index.sector_size
      old.device.image) old.device new.device
  pub erase_failed : new.erase_failed ≡ true
  pub sizes : HasSizes old.index.sectors old.index.sector_size new.index
  pub first : new.index.first ≡ old.index.first
  pub erases : new.index.erases ≡ one_erase_more old.index
  pub may : (past : List Node) → tree ≡ tree_of past → HasHistory past old
      → MayErase old.index.sectors old.index.sector_size old.device.image past old.index.first

-- bytes were read, and nothing else has changed
abbrev pub SameButReads : LogState → LogState → Type 0
SameButReads old new = new ≡ record old { reads_left = new.reads_left }

-- A read of the device failed: no byte has changed.
pub record ReadFailed (old new : LogState) : Type 0 where
  pub device : Fails (λ image. image ≡ old.device.image) old.device new.device
  pub wear : new.wear ≡ old.wear
  pub index : new.index ≡ old.index
  pub failed : new.failed ≡ true
  pub erase_failed : new.erase_failed ≡ old.erase_failed
  pub intact : new.erase_failed ≡ false

-- why nothing was read
abbrev pub ReadStopped : Cause → LogState → LogState → Type 0
ReadStopped cause.Memory old new = new ≡ old
ReadStopped cause.Device old new = ReadFailed old new
ReadStopped _ old new = ⊥

-- no record of the oldest sector lives in the tree
abbrev pub OldestIsDead : Tree → LogState → Type 0
OldestIsDead tree s =
    AllByRecursion (λ p. lives_in tree p ≡ false) (oldest_in s.device.image s.index)
