-- What a log keeps in memory of its device.
use Rattle.std.specs.Prelude.{◌≡◌, ◌⊎◌, ℕ, ◌*◌, true, List, [], ◌∷◌, ◌++◌, length, map, filter}
use Rattle.std.specs.Prelude.{flat_map, sum, sum_by, None, Bool, ◌&&◌, ◌==◌, if◌then◌else◌}
use Rattle.jffs_inodes.specs.Inodes.{Tree}
use Rattle.jffs_tree.specs.Origin.{is_live}
use Rattle.jffs_tree.specs.Look.{holds_version}
use Rattle.jffs_tree.specs.declared.cleaning.CopySource.{CopySource}
use Rattle.std.specs.List.{AllByRecursion, last_or}
use Rattle.jffs_node.specs.declared.node.Node.{Node}
use Rattle.jffs_node.specs.Record.{record_len, dsize}
use Rattle.jffs_flash.specs.Sizes.{is_geometry}
use Rattle.jffs_log.specs.declared.log_index.RecordRef.{RecordRef}
use Rattle.jffs_log.specs.declared.log_index.LogIndex.{LogIndex}
use Rattle.jffs_log.specs.Image.{Sector, Placed, records_in, records_in_first, log_sectors}
use Rattle.jffs_log.specs.Image.{free_of_tail}
use Rattle.jffs_log.specs.Cleaning.{Layout, layout_of}
use Rattle.jffs_log.specs.Volume.{sectors_in}
use Rattle.jffs_log.specs.Ring.{IsRing}
use Rattle.jffs_log.specs.Live.{IsGoodEnding, IsReadable, IsOpenSector, live_log}

-- what the index has of a record
abbrev pub ref_of : Placed → RecordRef
ref_of p = record {
  version = p.node.version;
  inode = p.node.inode;
  data_offset = p.node.offset;
  data_len = dsize p.node;
  length = record_len p.node;
  sector = p.sector;
  offset = p.offset;
}

-- what cleaning knows of it
abbrev pub source_in : RecordRef → CopySource
source_in k =
    record { inode = k.inode; version = k.version; offset = k.data_offset; len = k.data_len }

-- the sector that was begun last has that many bytes used and that many erased
pub record HasTail (count len : ℕ) (image : List ℕ) (held : List (ℕ × Sector))
    (tail used free : ℕ) : Type 0 where
  pub older : List (ℕ × Sector)
  pub last : ℕ × Sector
  pub nodes : List Node
  pub end : held ≡ older ++ last ∷ []
  pub number : last.0 ≡ tail
  pub opened : IsOpenSector count len image last.0 nodes free
  pub filled : used ≡ sum_by record_len nodes

-- These numbers and records are those of the image.
pub record Describes (count len : ℕ) (image : List ℕ) (first many tail used free : ℕ)
    (records : List RecordRef) : Type 0 where
  pub sizes : is_geometry count len ≡ true
  pub whole : length image ≡ count * len
  pub held : List (ℕ × Sector)
  pub blank : List (ℕ × Sector)
  pub ring : IsRing first (sectors_in count len image) held blank
  pub counted : length held ≡ many
  pub sound : AllByRecursion (λ s. IsGoodEnding s.reading.ending) (sectors_in count len image)
  pub room : (free ≡ 0) ⊎ HasTail count len image held tail used free
  pub exact : free ≡ free_of_tail len (last_or None held)
  pub listed : records ≡ map ref_of (flat_map records_in held)

-- the index describes this image
abbrev pub IsLogIndex : List ℕ → LogIndex → Type 0
IsLogIndex image b =
    Describes b.sectors b.sector_size image b.first b.held b.tail b.used b.free b.records.items

-- the device has `count` sectors of `len` bytes
abbrev pub HasSizes : ℕ → ℕ → LogIndex → Type 0
HasSizes count len b = (count ≡ b.sectors) × (len ≡ b.sector_size)

-- the records of the image, in the order of the log
abbrev pub log_in : List ℕ → LogIndex → List Placed
log_in image b = live_log b.sectors b.sector_size image

-- those of its oldest sector
abbrev pub oldest_in : List ℕ → LogIndex → List Placed
oldest_in image b = records_in_first (log_sectors (sectors_in b.sectors b.sector_size image))

-- the log sector by sector, what is free in the tail, and how many sectors are erased
abbrev pub layout_in : List ℕ → LogIndex → Layout
layout_in image b = layout_of b.sector_size (sectors_in b.sectors b.sector_size image)

-- the tree holds the record's version in its inode
abbrev pub lives_in : Tree → Placed → Bool
lives_in tree p = holds_version tree p.node.inode p.node.version

-- the lengths of those records that live in the tree
abbrev pub weight_in : Tree → List Placed → ℕ
weight_in tree log = sum_by (λ p. record_len p.node) (filter (lives_in tree) log)

-- the lengths of the live records of an inode together
abbrev pub live_bytes_in : Tree → ℕ → List RecordRef → ℕ
live_bytes_in tree i records =
    sum (map (λ k. k.length)
    (filter (λ k. (k.inode == i) && holds_version tree i k.version) records))

-- how many records of a sector live in the tree
abbrev pub live_in : ℕ → Tree → List Placed → ℕ
live_in sector tree log = length (filter (λ p. (p.sector == sector) && lives_in tree p) log)

-- how many of them a history has live
abbrev pub live_records_in : ℕ → List Node → List Placed → ℕ
live_records_in sector past log =
    length (filter (λ p. (p.sector == sector) && is_live past p.node.version) log)

-- the records from the first one on that stands in another sector
abbrev pub from_other : ℕ → List RecordRef → List RecordRef
from_other sector [] = []
from_other sector (k ∷ records) =
    if k.sector == sector then from_other sector records else k ∷ records

-- the same in all but the capacity reserved for records
pub record IsSameLogIndex (old new : LogIndex) : Type 0 where
  pub sectors : new.sectors ≡ old.sectors
  pub sector_size : new.sector_size ≡ old.sector_size
  pub first : new.first ≡ old.first
  pub held : new.held ≡ old.held
  pub tail : new.tail ≡ old.tail
  pub used : new.used ≡ old.used
  pub free : new.free ≡ old.free
  pub erases : new.erases ≡ old.erases
  pub records : new.records.items ≡ old.records.items

-- a node with the sector and the offset of its record
abbrev pub placed_at : ℕ → ℕ → Node → Placed
placed_at sector offset n = record { sector = sector; offset = offset; node = n }

-- after a failed write a scan finds the log as it was, or the whole record too
pub record IsCut (b : LogIndex) (old new : List ℕ) (p : Placed) : Type 0 where
  pub readable : IsReadable (sectors_in b.sectors b.sector_size new)
  pub log : (log_in new b ≡ log_in old b) ⊎ (log_in new b ≡ log_in old b ++ p ∷ [])

-- the same, at some sector and offset
pub record IsCutSomewhere (b : LogIndex) (old new : List ℕ) (n : Node) : Type 0 where
  pub sector : ℕ
  pub offset : ℕ
  pub cut : IsCut b old new (placed_at sector offset n)
