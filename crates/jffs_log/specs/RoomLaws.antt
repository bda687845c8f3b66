-- Laws of cleaning and room.
use Rattle.std.specs.Prelude.{◌≡◌, ◌⊎◌, ℕ, ◌+◌, ◌-◌, ◌*◌, ◌/◌, ◌≤◌, ◌<◌, Bool, true, false, ◌&&◌}
use Rattle.std.specs.Prelude.{◌==◌, List, [], ◌∷◌, ◌++◌, length, map, reverse, flat_map, get_or}
use Rattle.std.specs.Prelude.{Some, Ok}
use Rattle.std.specs.List.{AllByRecursion}
use Rattle.jffs_node.specs.declared.node.Node.{Node}
use Rattle.jffs_node.specs.Record.{record_len, dsize, is_unmount}
use Rattle.jffs_tree.specs.Origin.{is_live}
use Rattle.jffs_log.specs.declared.room.Room.{Room}
use Rattle.jffs_log.specs.declared.room.Room.TheVariants.{Fresh, Copy, Unmount}
use Rattle.jffs_log.specs.Room.{weight, heavy, has_room, next_version}
use Rattle.jffs_log.specs.Image.{past_of, sector_of}
use Rattle.jffs_log.specs.Scan.{Scanned, scan}
use Rattle.jffs_log.specs.Cleaning.{layout_of, Layout, GcState, live_used, put, erase_oldest}
use Rattle.jffs_log.specs.Cleaning.{copied, with_copy, handled_each, copies_have_room, cleaned}
use Rattle.jffs_log.specs.Cleaning.{fresh_has_room, room_made, cleanings, oldest_records}
use Rattle.jffs_log.specs.Cleaning.{stands_from, last_fits, is_history, version_after}
use Rattle.jffs_node.specs.declared.layout.TheConstants.{HEADER_LEN}
use Rattle.jffs_flash.specs.declared.sizes.TheConstants.{MIN_SECTORS}
use Rattle.jffs_log.specs.declared.sector.TheConstants.{RECORDS_PER_SECTOR}

-- one of these
abbrev pub Among : Node → List Node → Type 0
Among m [] = ⊥
Among m (n ∷ nodes) = (m ≡ n) ⊎ Among m nodes

-- A session with a lawful log, on a volume of these sizes.
pub record IsSound (sectors : ℕ) (sector_size : ℕ) (s : GcState) : Type 0 where
  pub history : is_history s.past ≡ true
  pub known : AllByRecursion (λ nodes. AllByRecursion (λ n. Among n s.past) nodes) s.log.sectors
  pub stands : AllByRecursion (λ nodes. stands_from sector_size 0 nodes ≡ true) s.log.sectors
  pub tail : last_fits sector_size s.log.free s.log.sectors ≡ true
  pub counted : length s.log.sectors + s.log.erased ≡ sectors

-- The copy that cleaning makes of a live node is no longer than it, makes it obsolete, and makes no
-- older node live.
pub record TakesOver (past : List Node) (n : Node) : Type 0 where
  pub shorter : record_len (copied past n) ≤ record_len n
  pub obsolete : is_live (copied past n ∷ past) n.version ≡ false
  pub no_other : (m : Node) → Among m past → is_live past m.version ≡ false
      → is_live (copied past n ∷ past) m.version ≡ false
  pub history : is_history (copied past n ∷ past) ≡ true
  pub kind : is_unmount (copied past n).kind ≡ false

-- The copy of a live node takes over from it.
abbrev pub CopiesTakeOver : Type 0
CopiesTakeOver =
    (past : List Node) (n : Node) → is_history past ≡ true → Among n past
    → is_live past n.version ≡ true → TakesOver past n

-- An unmount node is never live.
abbrev pub UnmountNodesAreDead : Type 0
UnmountNodesAreDead =
    (past : List Node) (n : Node) → is_history past ≡ true → Among n past → is_unmount n.kind ≡ true
    → is_live past n.version ≡ false

-- With 2 sectors erased each copy of a cleaning has room at its turn. A cleaning opens at most one
-- sector, so it leaves as many erased, or more.
abbrev pub CleaningHasRoom : Type 0
CleaningHasRoom =
    (sectors sector_size : ℕ) (s : GcState) → HEADER_LEN ≤ sector_size
    → IsSound sectors sector_size s → 2 ≤ s.log.erased → 2 ≤ length s.log.sectors
    → (copies_have_room sector_size (oldest_records s.log.sectors) s ≡ true)
    × IsSound sectors sector_size (cleaned sector_size s)
    × (s.log.erased ≤ (cleaned sector_size s).log.erased)

-- A cleaning that ends early, after some of the records, leaves a lawful log, with at most one
-- erased sector fewer.
abbrev pub CleaningMayStop : Type 0
CleaningMayStop =
    (sectors sector_size : ℕ) (s : GcState) (done rest : List Node) → HEADER_LEN ≤ sector_size
    → IsSound sectors sector_size s → 2 ≤ s.log.erased → 2 ≤ length s.log.sectors
    → oldest_records s.log.sectors ≡ done ++ rest
    → IsSound sectors sector_size (handled_each sector_size done s)
    × (s.log.erased ≤ (handled_each sector_size done s).log.erased + 1)

-- A record that has room leaves a sector erased, and a fresh one leaves two.
abbrev pub PutsKeepErased : Type 0
PutsKeepErased =
    (sector_size : ℕ) (room : Room) (n : Node) (log : Layout)
    → has_room room (record_len n) log.free log.erased ≡ true → 1 ≤ log.erased
    → 1 ≤ (put sector_size room n log).erased

-- a fresh record leaves two
abbrev pub FreshKeepsTwo : Type 0
FreshKeepsTwo =
    (sector_size : ℕ) (n : Node) (log : Layout)
    → has_room Fresh (record_len n) log.free log.erased ≡ true → 2 ≤ log.erased
    → 2 ≤ (put sector_size Fresh n log).erased

-- the room that a node of this kind is given
abbrev pub suits_room : Room → Node → Bool
suits_room Unmount n = is_unmount n.kind && dsize n == 0
suits_room _ n = true

-- A record that has room leaves a lawful log.
abbrev pub PutsKeepSound : Type 0
PutsKeepSound =
    (sectors sector_size : ℕ) (room : Room) (n : Node) (s : GcState) → IsSound sectors sector_size s
    → is_history (n ∷ s.past) ≡ true → suits_room room n ≡ true
    → record_len n ≤ sector_size / RECORDS_PER_SECTOR
    → has_room room (record_len n) s.log.free s.log.erased ≡ true
    → IsSound sectors sector_size (record { past = n ∷ s.past; log = put sector_size room n s.log })

-- The oldest sector may go, where it isn't the tail.
abbrev pub ErasingKeepsSound : Type 0
ErasingKeepsSound =
    (sectors sector_size : ℕ) (s : GcState) → IsSound sectors sector_size s
    → 2 ≤ length s.log.sectors
    → IsSound sectors sector_size (record { past = s.past; log = erase_oldest s.log })

-- With 2 sectors erased, making room leaves a lawful log with 2 sectors erased.
abbrev pub MakingRoomKeepsSound : Type 0
MakingRoomKeepsSound =
    (sectors sector_size len : ℕ) (s : GcState) → HEADER_LEN ≤ sector_size → MIN_SECTORS ≤ sectors
    → IsSound sectors sector_size s → 2 ≤ s.log.erased
    → IsSound sectors sector_size (room_made sector_size len (length s.log.sectors) s)
    × (2 ≤ (room_made sector_size len (length s.log.sectors) s).log.erased)

-- what is live in the log
abbrev pub live_weight : GcState → ℕ
live_weight s = live_used s.past (flat_map (λ nodes. nodes) s.log.sectors)

-- Where a fresh record of at most a quarter of a sector has no room after every sector that held
-- the log was cleaned, the log was heavy.
abbrev pub FullLogsAreHeavy : Type 0
FullLogsAreHeavy =
    (sectors sector_size len : ℕ) (s : GcState) → HEADER_LEN ≤ sector_size → MIN_SECTORS ≤ sectors
    → len ≤ sector_size / RECORDS_PER_SECTOR → IsSound sectors sector_size s → 2 ≤ s.log.erased
    → fresh_has_room len (room_made sector_size len (length s.log.sectors) s) ≡ false
    → heavy sectors sector_size ≤ live_weight s

-- What is live then fills all but three sectors, up to the quarter and 64 bytes that may be left
-- free in each.
abbrev pub FullLogsFill : Type 0
FullLogsFill =
    (sectors sector_size len : ℕ) (s : GcState) → HEADER_LEN ≤ sector_size → MIN_SECTORS ≤ sectors
    → len ≤ sector_size / RECORDS_PER_SECTOR → IsSound sectors sector_size s → 2 ≤ s.log.erased
    → fresh_has_room len (room_made sector_size len (length s.log.sectors) s) ≡ false
    → (sectors - 3) * (3 * sector_size / 4 - HEADER_LEN) ≤ live_weight s

-- Making room erases no more sectors than held the log, and so at most all.
abbrev pub CleaningsAreFew : Type 0
CleaningsAreFew =
    (sectors sector_size len : ℕ) (s : GcState) → IsSound sectors sector_size s
    → cleanings sector_size len (length s.log.sectors) s ≤ sectors

-- With 2 sectors erased an unmount node has room.
abbrev pub UnmountHasRoom : Type 0
UnmountHasRoom =
    (log : Layout) → 2 ≤ log.erased → has_room Unmount HEADER_LEN log.free log.erased ≡ true

-- What is live in the log weighs no more than the history, of which the log holds the newest part.
abbrev pub LogsWeighLess : Type 0
LogsWeighLess =
    (s : GcState) (gone : List Node)
    → s.past ≡ reverse (flat_map (λ nodes. nodes) s.log.sectors) ++ gone
    → live_weight s ≤ weight s.past

-- The versions are those that the log gives.
abbrev pub VersionsFollow : Type 0
VersionsFollow =
    (past : List Node) (version : ℕ) → next_version past ≡ Some version
    → version_after past ≡ version

-- A mounted image is a session with a lawful log.
abbrev pub MountsAreSound : Type 0
MountsAreSound = (sector_size : ℕ) (image : List (List ℕ)) (scanned : Scanned)
    → AllByRecursion (λ bytes. (length bytes ≡ sector_size) × ((i : ℕ) → get_or bytes i 0 < 256))
    image
    → scan sector_size image ≡ Ok scanned
    → IsSound (length image) sector_size
    (record { past = past_of scanned.log; log = layout_of sector_size (map sector_of image) })

-- One copy that has room leaves a lawful log, however many sectors are erased.
abbrev pub CopiesKeepSound : Type 0
CopiesKeepSound =
    (sectors sector_size : ℕ) (n : Node) (s : GcState) → IsSound sectors sector_size s
    → Among n s.past → is_live s.past n.version ≡ true
    → record_len n ≤ sector_size / RECORDS_PER_SECTOR
    → has_room Copy (record_len (copied s.past n)) s.log.free s.log.erased ≡ true
    → IsSound sectors sector_size (with_copy sector_size n s)

-- Once each of these was handled at its turn, none of them is live.
abbrev pub HandledAreDead : Type 0
HandledAreDead =
    (sector_size : ℕ) (nodes : List Node) (s : GcState) → is_history s.past ≡ true
    → AllByRecursion (λ n. Among n s.past) nodes
    → AllByRecursion (λ n. is_live (handled_each sector_size nodes s).past n.version ≡ false) nodes

-- The log holds the newest part of the history, and `gone` is the rest.
abbrev pub Holds : GcState → List Node → Type 0
Holds s gone = s.past ≡ reverse (flat_map (λ nodes. nodes) s.log.sectors) ++ gone

-- What is put is the newest, and what is erased the oldest.
abbrev pub PutsAreNewest : Type 0
PutsAreNewest =
    (sector_size : ℕ) (room : Room) (n : Node) (s : GcState) (gone : List Node) → Holds s gone
    → Holds (record { past = n ∷ s.past; log = put sector_size room n s.log }) gone

-- What is erased is the oldest.
abbrev pub ErasedAreOldest : Type 0
ErasedAreOldest =
    (s : GcState) (gone : List Node) → Holds s gone
    → Holds (record { past = s.past; log = erase_oldest s.log })
    (reverse (oldest_records s.log.sectors) ++ gone)

-- For a loop over the records of the oldest sector: one after another is all at once, and the
-- oldest sector stays the same.
abbrev pub HandledInParts : Type 0
HandledInParts = (sector_size : ℕ) (done rest : List Node) (s : GcState)
    → (handled_each sector_size (done ++ rest) s
    ≡ handled_each sector_size rest (handled_each sector_size done s))
    × (copies_have_room sector_size (done ++ rest) s ≡ copies_have_room sector_size done s
    && copies_have_room sector_size rest (handled_each sector_size done s))

-- The oldest sector stays the same while its records are handled.
abbrev pub OldestStays : Type 0
OldestStays = (sector_size : ℕ) (nodes : List Node) (s : GcState) → 2 ≤ length s.log.sectors
    → (oldest_records (handled_each sector_size nodes s).log.sectors ≡ oldest_records s.log.sectors)
    × (2 ≤ length (handled_each sector_size nodes s).log.sectors)
