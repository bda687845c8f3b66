-- The oldest sector is cleaned, and dead ones are erased.
use Rattle.std.specs.Prelude.{◌≡◌, ◌⊎◌, ℕ, zero, suc, ◌+◌, ◌/◌, ◌<◌, ◌≤◌, Bool, true, false, List}
use Rattle.std.specs.Prelude.{◌++◌, length, take, if◌then◌else◌, Some}
use Rattle.std.specs.List.{AllByRecursion}
use Rattle.jffs_node.specs.declared.node.Node.{Node}
use Rattle.jffs_node.specs.Record.{len_of_data}
use Rattle.jffs_tree.specs.declared.wish.Cause.{Cause}
use Rattle.jffs_tree.specs.declared.wish.Cause.TheVariants.{VersionsSpent, Memory, NoSpace}
use Rattle.jffs_tree.specs.declared.wish.Cause.TheVariants.{Device, Failed}
use Rattle.jffs_tree.specs.declared.cleaning.CopySource.{CopySource}
use Rattle.jffs_tree.specs.Decide.{source_of}
use Rattle.jffs_tree.specs.Origin.{is_live}
use Rattle.jffs_tree.specs.Laws.{NoneLive}
use Rattle.jffs_log.specs.LogIndex.{layout_in, lives_in, oldest_in}
use Rattle.jffs_log.specs.Room.{next_version}
use Rattle.jffs_log.specs.Cleaning.{Layout, handled, handled_each, copy_has_room, copies_have_room}
use Rattle.jffs_log.specs.Cleaning.{oldest_records, cleaned, erase_oldest, fresh_has_room}
use Rattle.jffs_log.specs.Cleaning.{room_made, used}
use Rattle.jffs_log.specs.Work.{live_and_free}
use Rattle.jffs_log.specs.declared.sector.TheConstants.{RECORDS_PER_SECTOR}
use Rattle.jffs_log.specs.RoomLaws.{Among}
use Rattle.jffs_core.specs.declared.cleaning.Cleaned.{Cleaned}
use Rattle.jffs_core.specs.declared.cleaning.Cleaned.TheVariants.{Erased, OneSector}
use Rattle.jffs_core.specs.CoreState.{CoreState}
use Rattle.jffs_core.specs.Run.{OnlyCopies}
use Rattle.jffs_core.specs.Step.{room_can_be_made}
use Rattle.jffs_core.specs.Past.{gc_state, Represents, RepresentsWorking}
use Rattle.jffs_core.specs.Calls.{WorksOn, FailsIn, RefusedAt, KeepsTwo, ProgramsOnce}

-- A record was handled at its turn: copied where it is live, and the copy had room, else skipped.
pub record HasHandled (past : List Node) (source : Node) (copied : Bool) (old new : CoreState) :
    Type 0 where
  pub after : List Node
  pub added : OnlyCopies past after
  pub stands : WorksOn past after old new
  pub turn : gc_state after new ≡ handled old.index.sector_size source (gc_state past old)
  pub room : copy_has_room source (gc_state past old) ≡ true
  pub counted : length after ≡ (if copied then 1 else 0) + length past

-- a version is left for one node more
abbrev pub HasVersionLeft : List Node → Type 0
HasVersionLeft past = (version : ℕ) × (next_version past ≡ Some version)

-- A live record wasn't copied: for want of memory only where it could have had a version.
pub record CopyStopped (cause : Cause) (past : List Node) (source : Node) (old new : CoreState) :
    Type 0 where
  pub live : is_live past source.version ≡ true
  pub stands : RefusedAt cause past past old new
  pub no_room : cause ≡ NoSpace → copy_has_room source (gc_state past old) ≡ false
  pub version : cause ≡ Memory → HasVersionLeft past

-- The core represents a history with this record, of which cleaning knows that.
pub record IsSourceIn (past : List Node) (n : Node) (source : CopySource) (c : CoreState) : Type 0
  where
    pub known : RepresentsWorking past c
    pub among : Among n past
    pub is : source ≡ source_of n

-- So it is of a core that works, and the record is short enough for its copy.
pub record IsSource (source : CopySource) (c : CoreState) : Type 0 where
  pub works : c.failed ≡ false
  pub past : List Node
  pub node : Node
  pub stands : IsSourceIn past node source c
  pub short : len_of_data source.len ≤ c.index.sector_size / RECORDS_PER_SECTOR

-- Several records were handled, and `copies` copies were made.
pub record HasCopied (nodes past after : List Node) (copies : ℕ) (old new : CoreState) :
    Type 0 where
  pub added : OnlyCopies past after
  pub stands : WorksOn past after old new
  pub turn : gc_state after new ≡ handled_each old.index.sector_size nodes (gc_state past old)
  pub room : copies_have_room old.index.sector_size nodes (gc_state past old) ≡ true
  pub counted : length after ≡ copies + length past

-- the same, of all records of the oldest sector
abbrev pub HasCopiedAll : List Node → List Node → ℕ → CoreState → CoreState → Type 0
HasCopiedAll past after copies old new =
    HasCopied (oldest_records (layout_in old.image old.index).sectors) past after copies old new

-- A core that works represents a history, and its oldest sector isn't the only one.
pub record HasSeveral (c : CoreState) : Type 0 where
  pub works : c.failed ≡ false
  pub past : List Node
  pub known : RepresentsWorking past c
  pub several : 2 ≤ length (layout_in c.image c.index).sectors

-- whether each copy that cleaning makes of the oldest sector has room at its turn
abbrev pub copies_would_fit : List Node → CoreState → Bool
copies_would_fit past c =
    copies_have_room c.index.sector_size (oldest_records (layout_in c.image c.index).sectors)
    (gc_state past c)

-- The oldest sector was cleaned: one copy was made for each of its records that was live at its
-- turn, and it was erased.
pub record HasCleaned (past after : List Node) (copies : ℕ) (old new : CoreState) : Type 0 where
  pub added : OnlyCopies past after
  pub stands : WorksOn past after old new
  pub turn : gc_state after new ≡ cleaned old.index.sector_size (gc_state past old)
  pub room : copies_would_fit past old ≡ true
  pub counted : length after ≡ copies + length past

-- The oldest sector was erased, and the history is the same.
pub record HasErased (past : List Node) (old new : CoreState) : Type 0 where
  pub stands : WorksOn past past old new
  pub log : layout_in new.image new.index ≡ erase_oldest (layout_in old.image old.index)

-- So it was of a core that works on, whatever history it represented.
pub record ErasesOldest (old new : CoreState) : Type 0 where
  pub works : new.failed ≡ false
  pub log : layout_in new.image new.index ≡ erase_oldest (layout_in old.image old.index)
  pub history : (past : List Node) → RepresentsWorking past old → HasErased past old new

-- An erase stopped, since the device failed; no node was in hand.
pub record EraseStopped (cause : Cause) (old new : CoreState) : Type 0 where
  pub cause_is : cause ≡ Device
  pub history : (past : List Node) → RepresentsWorking past old → FailsIn (λ n. ⊥) past past old new

-- Room was made for a fresh record of `len` bytes, if that could be: copies were added, and the log
-- is as after some cleanings.
pub record HasMadeRoom (len : ℕ) (past after : List Node) (old new : CoreState) : Type 0 where
  pub copies : OnlyCopies past after
  pub stands : WorksOn past after old new
  pub turn : gc_state after new
      ≡ room_made old.index.sector_size len (length (layout_in old.image old.index).sectors)
      (gc_state past old)
  pub room : room_can_be_made old.index.sector_size len
      (length (layout_in old.image old.index).sectors) (gc_state past old)
      ≡ fresh_has_room len (gc_state after new)
  pub two : KeepsTwo old new

-- Cleaning stopped with this cause. It had no room for a copy only where fewer than two sectors
-- were erased.
pub record CleaningStopped (cause : Cause) (past after : List Node) (old new : CoreState) :
    Type 0 where
  pub copies : OnlyCopies past after
  pub stands : RefusedAt cause past after old new
  pub no_room : cause ≡ NoSpace → 2 ≤ (layout_in old.image old.index).erased → ⊥

-- No more room was made for a fresh record of `len` bytes, with this cause: NoSpace only where none
-- could be. The copies that were made so far are little.
pub record MakingStopped (len : ℕ) (cause : Cause) (past after : List Node) (old new : CoreState) :
    Type 0 where
  pub stopped : CleaningStopped cause past after old new
  pub none : cause ≡ NoSpace
      → room_can_be_made old.index.sector_size len (length (layout_in old.image old.index).sectors)
      (gc_state past old) ≡ false
  pub little : used stopped.copies.copies ≤ live_and_free (gc_state past old)

-- one of these records is live
abbrev pub OneLives : List Node → List Node → Type 0
OneLives past nodes = (n : Node) × Among n nodes × (is_live past n.version ≡ true)

-- The cleaning of a sector stops for want of room only where a copy had none at its turn, for want
-- of a version only where a record has still to be copied, and for want of memory only where a
-- version is left for the next.
pub record WantsCopy (cause : Cause) (past after : List Node) (c : CoreState) : Type 0 where
  pub at_turn : cause ≡ NoSpace → copies_would_fit past c ≡ false
  pub to_copy : cause ≡ VersionsSpent
      → OneLives after (oldest_records (layout_in c.image c.index).sectors)
  pub version : cause ≡ Memory → HasVersionLeft after

-- Some of the oldest sector's records were handled, from its first on.
pub record HandledFirst (past after : List Node) (c : CoreState) : Type 0 where
  pub done : List Node
  pub rest : List Node
  pub are : oldest_records (layout_in c.image c.index).sectors ≡ done ++ rest
  pub turn : after ≡ (handled_each c.index.sector_size done (gc_state past c)).past

-- The cleaning of one sector stopped, which isn't the log's only one.
pub record SectorStopped (cause : Cause) (past after : List Node) (old new : CoreState) :
    Type 0 where
  pub several : 2 ≤ length (layout_in old.image old.index).sectors
  pub stopped : CleaningStopped cause past after old new
  pub handled : HandledFirst past after old
  pub wants : WantsCopy cause past after old

-- What a cleaning answers: the sector that was cleaned, or that the log has at most one, and
-- nothing was changed.
abbrev pub DidClean : Cleaned → List Node → CoreState → CoreState → Type 0
DidClean (Erased sector copies) past old new =
    (sector ≡ old.index.first) × (2 ≤ length (layout_in old.image old.index).sectors)
    × ((after : List Node) × HasCleaned past after copies old new)
DidClean OneSector past old new = (new ≡ old) × (length (layout_in old.image old.index).sectors < 2)

-- A cleaning that came to its end, of a core that represented this history.
pub record Cleans (mounted past : List Node) (done : Cleaned) (old new : CoreState) : Type 0 where
  pub after : List Node
  pub added : OnlyCopies past after
  pub stands : Represents mounted after new
  pub did : DidClean done past old new
  pub two : KeepsTwo old new

-- why a cleaning stopped
abbrev pub StopIs : Cause → List Node → List Node → CoreState → CoreState → Type 0
StopIs Failed past after old new = (old.failed ≡ true) × (new ≡ old)
StopIs NoSpace past after old new =
    RefusedAt NoSpace past after old new × (2 ≤ (layout_in old.image old.index).erased → ⊥)
StopIs cause past after old new = (old.failed ≡ false) × RefusedAt cause past after old new

-- A cleaning that stopped, of a core that represented this history, and unless the core had failed,
-- of a log of several sectors. The copies that were made stay.
pub record Stops (mounted past : List Node) (cause : Cause) (old new : CoreState) : Type 0 where
  pub after : List Node
  pub added : OnlyCopies past after
  pub stands : Represents mounted after new
  pub several : old.failed ≡ false → 2 ≤ length (layout_in old.image old.index).sectors
  pub why : StopIs cause past after old new
  pub wants : WantsCopy cause past after old

-- the oldest sectors are erased, as many as the number says
abbrev pub erased_times : ℕ → Layout → Layout
erased_times zero log = log
erased_times (suc k) log = erase_oldest (erased_times k log)

-- The oldest sector may be erased: none of its records is live, and it is another one than the
-- tail.
pub record IsDeadOldest (c : CoreState) : Type 0 where
  pub several : 2 ≤ length (layout_in c.image c.index).sectors
  pub dead : AllByRecursion (λ p. lives_in c.tree p ≡ false) (oldest_in c.image c.index)

-- none of the records of these sectors is live
abbrev pub AreDead : List Node → List (List Node) → Type 0
AreDead past sectors = AllByRecursion (NoneLive past) sectors

-- The `count` oldest sectors were erased, none of which held a live record; the history is the
-- same, and the oldest sector that is left may not be erased.
pub record ErasesDead (mounted past : List Node) (count : ℕ) (old new : CoreState) : Type 0 where
  pub works : old.failed ≡ false
  pub still_works : new.failed ≡ false
  pub faults : new.faults ≡ old.faults
  pub programs : ProgramsOnce past past old new
  pub stands : Represents mounted past new
  pub log : layout_in new.image new.index ≡ erased_times count (layout_in old.image old.index)
  pub dead : AreDead past (take count (layout_in old.image old.index).sectors)
  pub last : IsDeadOldest new → ⊥
  pub two : KeepsTwo old new

-- why no more dead sectors were erased: the device failed with no node in hand, or had failed
abbrev pub EraseStopIs : Cause → List Node → CoreState → CoreState → Type 0
EraseStopIs Device past old new = (old.failed ≡ false) × FailsIn (λ n. ⊥) past past old new
EraseStopIs Failed past old new = (old.failed ≡ true) × (new ≡ old)
EraseStopIs _ past old new = ⊥

-- No more dead sectors were erased: the device failed, or had failed.
pub record ErasingStopped (cause : Cause) (old new : CoreState) : Type 0 where
  pub either : (cause ≡ Device) ⊎ (cause ≡ Failed)
  pub history : (mounted past : List Node) → Represents mounted past old
      → Represents mounted past new × EraseStopIs cause past old new

-- the same of a core that works
pub record HasErasedDead (count : ℕ) (past : List Node) (old new : CoreState) : Type 0 where
  pub stands : WorksOn past past old new
  pub log : layout_in new.image new.index ≡ erased_times count (layout_in old.image old.index)
  pub dead : AreDead past (take count (layout_in old.image old.index).sectors)
  pub last : IsDeadOldest new → ⊥
