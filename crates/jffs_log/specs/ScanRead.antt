-- What a scan reads of the sectors, and where the log begins among them.
use Rattle.std.specs.Prelude.{◌≡◌, ◌⊎◌, ℕ, ◌+◌, ◌/◌, ◌^◌, ◌<◌, ◌≤◌, not, List, length, drop, get_or}
use Rattle.std.specs.Prelude.{sum_by, Option}
use Rattle.std.specs.Prelude.{Some, None, Result, Ok, Err, IsTrue, if◌then◌else◌}
use Rattle.std.specs.List.{list_any, enumerate_from, AllByRecursion}
use Rattle.jffs_node.specs.Record.{record_len, is_lawful}
use Rattle.jffs_node.specs.Reading.{reading, reading_len, found}
use Rattle.jffs_flash.specs.Device.{Device as FlashDevice}
use Rattle.jffs_flash.specs.ReadsLeft.{HasSpent, left_at}
use Rattle.jffs_log.specs.declared.sector.SectorRead.TheInside.{Inside}
use Rattle.jffs_log.specs.declared.sector.TheConstants.{RECORDS_PER_SECTOR}
use Rattle.jffs_log.specs.declared.scanning.ScanWhy.{ScanWhy}
use Rattle.jffs_log.specs.declared.scanning.ScanWhy.TheVariants.{Device, Memory, NoErased}
use Rattle.jffs_log.specs.declared.scanning.ScanWhy.TheVariants.{Scattered}
use Rattle.jffs_log.specs.Image.{Sector, sector_of, starts, is_one_run, oldest_of}
use Rattle.jffs_log.specs.Sector.{HoldsNodes}
use Rattle.jffs_log.specs.Volume.{sector_bytes, sectors_in}
use Rattle.jffs_log.specs.Scan.{first_bad, bad_record}

-- the fields of a sector that was read, as its number and what it reads as
abbrev pub sector_read : Inside → ℕ × Sector
sector_read s = (
  s.number,
  record { erased = s.erased; reading = record { nodes = s.nodes.items; ending = s.ending } },
)

-- the bytes that its records take, and that these are lawful
pub record IsRead (s : Inside) : Type 0 where
  pub filled : s.used ≡ sum_by record_len s.nodes.items
  pub lawful : AllByRecursion (λ n. IsTrue (is_lawful n)) s.nodes.items

-- its number, and where each of its records stands, are small
pub record IsSmall (s : ℕ × Sector) : Type 0 where
  pub number : s.0 < 2 ^ 16
  pub used : sum_by record_len s.1.reading.nodes < 2 ^ 16

-- the bytes of a sector after its records
abbrev pub rest_of : List ℕ → List ℕ
rest_of sector = drop (reading_len (reading sector)) sector

-- the sector begins with the records of the nodes that it reads as, its reading ends at what stands
-- after them, and its bytes are bytes
pub record IsSpelled (sector : List ℕ) : Type 0 where
  pub holds : HoldsNodes sector (reading sector).nodes (rest_of sector)
  pub ends : (reading sector).ending ≡ found (length sector / RECORDS_PER_SECTOR) (rest_of sector)
  pub bytes : (i : ℕ) → get_or sector i 0 < 256

-- the oldest sector, or why there is none
abbrev pub oldest_sector : List Sector → Result ℕ ScanWhy
oldest_sector sectors =
    if not (list_any (λ s. s.erased) sectors) then Err NoErased else (
    if not (is_one_run sectors) then Err Scattered else Ok (oldest_of (starts sectors)))

-- the bad record of a sector, where its reading ended at one
abbrev pub bad_in : (ℕ × Sector) → Option ScanWhy
bad_in s = bad_record s.0 (reading_len s.1.reading) s.1.reading.ending None

-- the first `count` sectors of the image were read: none has a bad record, and each begins with the
-- records of its nodes
pub record AreRead (count len : ℕ) (image : List ℕ) (list : List (ℕ × Sector)) : Type 0 where
  pub read : list ≡ enumerate_from 0 (sectors_in count len image)
  pub none : first_bad 0 (sectors_in count len image) ≡ None
  pub spelled : (k : ℕ) → k < count → IsSpelled (sector_bytes len k image)

-- why sectors couldn't be read: the device, memory, or a bad record
abbrev pub IsReadFault : ScanWhy → ℕ → ℕ → Option ScanWhy → Type 0
IsReadFault Device before after bad = before < after
IsReadFault Memory before after bad = after ≡ before
IsReadFault why before after bad = (bad ≡ Some why) × (after ≡ before)

-- the number of the sector that was begun last
abbrev pub number_of_tail : Option (ℕ × Sector) → ℕ
number_of_tail None = 0
number_of_tail (Some tail) = tail.0

-- the bytes that its records take
abbrev pub used_of_tail : Option (ℕ × Sector) → ℕ
used_of_tail None = 0
used_of_tail (Some tail) = reading_len tail.1.reading

-- sectors couldn't be read, and nothing but the count of faults has changed
pub record IsUnread (why : ScanWhy) (old new : FlashDevice) (bad : Option ScanWhy) : Type 0 where
  pub cause : IsReadFault why old.faults new.faults bad
  pub rest : new ≡ record old { faults = new.faults }

-- a sector of these bytes was read, and has no bad record
pub record HasRead (s : ℕ × Sector) (number : ℕ) (bytes : List ℕ) : Type 0 where
  pub read : s ≡ (number, sector_of bytes)
  pub spelled : IsSpelled bytes
  pub sound : bad_in s ≡ None

-- The range was read once at most: the bytes outside it can be read as often as before, and the
-- call failed only where some byte inside it could not be read once more.
pub record IsReadOnce (at len : ℕ) (before after : FlashDevice) (old new : List ℕ) : Type 0 where
  pub rest : after.faults ≡ before.faults → (i : ℕ) → (i < at) ⊎ (at + len ≤ i)
      → left_at old i ≤ left_at new i
  pub fails : before.faults < after.faults → 1 ≤ len → HasSpent old at len
