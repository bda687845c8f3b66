-- What a core represents: the log that was mounted, and the history since.
use Rattle.std.specs.Prelude.{◌≡◌, ◌⊎◌, ℕ, ◌*◌, ◌<◌, Bool, true, false, List, [], ◌∷◌, ◌++◌, Ok}
use Rattle.jffs_node.specs.declared.node.Node.{Node}
use Rattle.jffs_inodes.specs.Inodes.{Tree}
use Rattle.jffs_tree.specs.Origin.{state_in, tree_of}
use Rattle.jffs_tree.specs.declared.wish.Limits.{Limits}
use Rattle.jffs_log.specs.declared.log_index.LogIndex.{LogIndex}
use Rattle.jffs_log.specs.declared.room.Room.{Room}
use Rattle.jffs_log.specs.Image.{is_clean, past_of}
use Rattle.jffs_log.specs.Volume.{split, sectors_in}
use Rattle.jffs_flash.specs.Device.{Device}
use Rattle.jffs_flash.specs.Image.{IsHalfErased}
use Rattle.jffs_log.specs.Scan.{Scanned, scan}
use Rattle.jffs_log.specs.ScanFound.{scan_of}
use Rattle.jffs_log.specs.Room.{limits as limits_of, has_room}
use Rattle.jffs_log.specs.LogIndex.{IsLogIndex, HasSizes, layout_in}
use Rattle.jffs_log.specs.History.{IsHistory}
use Rattle.jffs_log.specs.Erasable.{MayErase}
use Rattle.jffs_log.specs.Begun.{IsHealable, FindsTree}
use Rattle.jffs_log.specs.Heal.{healed}
use Rattle.jffs_log.specs.Cleaning.{GcState}
use Rattle.jffs_log.specs.RoomLaws.{IsSound}
use Rattle.jffs_core.specs.History.{MayFollow, Grows, contents}
use Rattle.jffs_core.specs.CoreState.{CoreState}
use Rattle.jffs_core.specs.Step.{newest_is_unmount}

-- the log ends with an unmount node, and nothing was programmed after it
abbrev pub is_clean_in : List ℕ → LogIndex → Bool
is_clean_in image b = is_clean (sectors_in b.sectors b.sector_size image)

-- What a core that works has is what this history makes, of which the image holds the newest part,
-- where the index says.
pub record IsPast (past : List Node) (image : List ℕ) (b : LogIndex) (tree : Tree) (limits : Limits)
    (clean : Bool) : Type 0 where
  pub history : IsHistory image b past
  pub index : IsLogIndex image b
  pub sound : IsSound b.sectors b.sector_size (record { past = past; log = layout_in image b })
  pub tree_is : tree ≡ tree_of past
  pub limits_are : limits ≡ limits_of b.sector_size past
  pub clean_is : clean ≡ is_clean_in image b

-- The core works, and represents this history: the same of all that is in it.
abbrev pub RepresentsWorking : List Node → CoreState → Type 0
RepresentsWorking past c = IsPast past c.image c.index c.tree c.limits c.clean

-- The index has the sizes of the device. Unless the device failed, it describes the image, and the
-- core represents some history.
pub record HasLogIndex (failed : Bool) (count len : ℕ) (image : List ℕ) (b : LogIndex) (tree : Tree)
    (limits : Limits) (clean : Bool) : Type 0 where
  pub sizes : HasSizes count len b
  pub index : failed ≡ false → IsLogIndex image b
  pub past : failed ≡ false → (past : List Node) × IsPast past image b tree limits clean

-- the history with the log that holds the newest part of it
abbrev pub gc_state : List Node → CoreState → GcState
gc_state past c = record { past = past; log = layout_in c.image c.index }

-- a record of `len` bytes has room in the log
abbrev pub has_room_for : CoreState → Room → ℕ → Bool
has_room_for c room len =
    has_room room len (layout_in c.image c.index).free (layout_in c.image c.index).erased

-- of the history, or of it and one node more of this kind
abbrev pub OrOneMore : (Node → Type 0) → List Node → (List Node → Type 0) → Type 0
OrOneMore More past P = P past ⊎ ((n : Node) × More n × P (n ∷ past))

-- The erase of the oldest sector failed, which may hold any bytes; before that the image held the
-- newest part of this history.
pub record WasErasing (past : List Node) (image : List ℕ) (b : LogIndex) : Type 0 where
  pub was : List ℕ
  pub may : MayErase b.sectors b.sector_size was past b.first
  pub left : IsHalfErased (b.first * b.sector_size) b.sector_size was image

-- What stands of a core whose device failed. Tree and image may each have one node more, of this
-- kind; of an image whose erase failed the rest is known.
pub record HasFailed (More : Node → Type 0) (past : List Node) (c : CoreState) : Type 0 where
  pub clean : c.clean ≡ true → newest_is_unmount past ≡ true
  pub tree : OrOneMore More past (λ found. c.tree ≡ tree_of found)
  pub left : c.erase_failed ≡ false → OrOneMore More past (λ found. IsHistory c.image c.index found)
  pub erasing : c.erase_failed ≡ true → WasErasing past c.image c.index

-- the core represents this history, whether or not its device failed
pub record RepresentsPast (past : List Node) (c : CoreState) : Type 0 where
  pub working : c.failed ≡ false → RepresentsWorking past c
  pub broken : c.failed ≡ true → HasFailed (MayFollow past) past c

-- The abstraction relation: a core represents the log that was mounted and the history since.
pub record Represents (mounted past : List Node) (c : CoreState) : Type 0 where
  pub grown : Grows mounted past
  pub stands : RepresentsPast past c

-- The device is as a core has it: of the same sizes, with its image and its counts of faults and of
-- failed erases.
pub record IsLeftBy (c : CoreState) (device : Device) : Type 0 where
  pub sizes : HasSizes device.sectors device.sector_size c.index
  pub image_is : device.image ≡ c.image
  pub faults_are : device.faults ≡ c.faults
  pub failed_erases_are : device.failed_erases ≡ c.failed_erases

-- What a mount of the device gives: a core that represents the log that a scan finds, and has
-- answered nothing.
pub record IsFresh (device : Device) (c : CoreState) : Type 0 where
  pub scanned : Scanned
  pub found : scan_of device ≡ Ok scanned
  pub stands : Represents (past_of scanned.log) (past_of scanned.log) c
  pub device_is : IsLeftBy c device
  pub begins : c.index.first < c.index.sectors
  pub erases : c.index.erases ≡ 0
  pub works : c.failed ≡ false
  pub no_erase_failed : c.erase_failed ≡ false
  pub not_closed : c.closed ≡ false
  pub no_answers : c.answers ≡ []

-- What a scan of a core's image finds: the tree of the history, whose state is what the fresh nodes
-- since the mount made.
pub record FindsContents (mounted past : List Node) (c : CoreState) : Type 0 where
  pub scanned : Scanned
  pub found : scan c.index.sector_size (split c.index.sectors c.index.sector_size c.image)
      ≡ Ok scanned
  pub tree_is : scanned.tree ≡ c.tree
  pub clean_is : scanned.clean ≡ c.clean
  pub added : List Node
  pub since : past ≡ added ++ mounted
  pub state_is : state_in scanned.tree ≡ contents mounted added

-- A scan of the image of a core that works finds the contents.
abbrev pub ScansFindContents : Type 0
ScansFindContents =
    (mounted past : List Node) (c : CoreState) → Represents mounted past c → c.failed ≡ false
    → FindsContents mounted past c

-- where an erase failed, what it left of its sector can be told from a log's
abbrev pub IsSpared : CoreState → Type 0
IsSpared c = c.erase_failed ≡ true
    → IsHealable c.index.sectors c.index.sector_size c.image c.index.first

-- the image in which a log is looked for after a failure: as it was left, unless an erase failed;
-- or healed, unless what an erase left could be another log's
abbrev pub IsOpened : CoreState → List ℕ → Type 0
IsOpened c image = ((c.erase_failed ≡ false) × (image ≡ c.image))
    ⊎ (IsSpared c × (image ≡ healed c.index.sectors c.index.sector_size c.image))

-- a scan finds the tree of the history, or that of it and one node more of this kind
abbrev pub FindsTreeOf : (Node → Type 0) → List Node → CoreState → List ℕ → Type 0
FindsTreeOf More past c image = OrOneMore More past
    (λ found. FindsTree (tree_of found) c.index.sectors c.index.sector_size image)

-- After a failure a scan finds the history, or it and one node more that may follow.
abbrev pub FailedScansFind : Type 0
FailedScansFind =
    (mounted past : List Node) (c : CoreState) (image : List ℕ) → Represents mounted past c
    → c.failed ≡ true → IsOpened c image → FindsTreeOf (MayFollow past) past c image
