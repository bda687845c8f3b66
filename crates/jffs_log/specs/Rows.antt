-- What the definitions give on examples.
use Rattle.std.specs.Prelude.{◌≡◌, ℕ, ◌-◌, Bool, true, false, List, [], ◌∷◌, ◌++◌, length, set}
use Rattle.std.specs.Prelude.{replicate, Option, Some, None, Ok, Err, Result, codes}
use Rattle.jffs_node.specs.declared.node.Node.{Node}
use Rattle.jffs_node.specs.declared.read.Why.TheVariants as why
use Rattle.jffs_node.specs.Record.{spelling}
use Rattle.jffs_node.specs.Rows.{lone_unmount, created, hello, hello_one, old_sector, hole_of}
use Rattle.jffs_node.specs.Rows.{erased_from}
use Rattle.jffs_inodes.specs.Held.{bytes_of}
use Rattle.jffs_tree.specs.Origin.{entry}
use Rattle.jffs_log.specs.declared.scanning.ScanWhy.{ScanWhy}
use Rattle.jffs_log.specs.declared.scanning.ScanWhy.TheVariants.{Geometry, BadRecord, NoErased}
use Rattle.jffs_log.specs.declared.scanning.ScanWhy.TheVariants.{Scattered, BadOrder, BadTree}
use Rattle.jffs_log.specs.Image.{past_of}
use Rattle.jffs_log.specs.Scan.{Scanned, scan}

-- an erased sector
abbrev pub blank : List ℕ
blank = replicate 1024 255

-- a sector that begins with these bytes
abbrev pub sector_with : List ℕ → List ℕ
sector_with bytes = bytes ++ replicate (1024 - length bytes) 255

-- a volume of 8 sectors of 1024 bytes, whose first sectors are these
abbrev pub volume : List (List ℕ) → List (List ℕ)
volume sectors = sectors ++ replicate (8 - length sectors) blank

-- the refusal, where it is one
abbrev pub why_refused : Result Scanned ScanWhy → Option ScanWhy
why_refused (Ok scanned) = None
why_refused (Err w) = Some w

-- how many records, whether clean, and the bytes of inode 2
abbrev pub seen_in : Result Scanned ScanWhy → Option (ℕ × Bool × List ℕ)
seen_in (Ok scanned) =
    Some (length scanned.log, scanned.clean, bytes_of (entry (past_of scanned.log) 2))
seen_in (Err w) = None

-- why a volume with these first sectors is refused
abbrev pub refusal : List (List ℕ) → Option ScanWhy
refusal sectors = why_refused (scan 1024 (volume sectors))

-- what is seen in such a volume
abbrev pub seen : List (List ℕ) → Option (ℕ × Bool × List ℕ)
seen sectors = seen_in (scan 1024 (volume sectors))

-- a byte after a gap, without a size
abbrev pub one_byte_at_four : Node
one_byte_at_four = record hello_one { version = 1; offset = 4; bytes = 0x61 ∷ [] }

-- images that are refused
pub record Refusals : Type 0 where
  pub five_sectors : why_refused (scan 1024 (replicate 5 blank)) ≡ Some Geometry
  pub scattered : refusal
      (sector_with (spelling created) ∷ blank ∷ sector_with (spelling created) ∷ [])
      ≡ Some Scattered
  pub no_erased : refusal (replicate 8 (sector_with (0 ∷ []))) ≡ Some NoErased
  pub flags : refusal (sector_with (set (spelling created) 5 4) ∷ [])
      ≡ Some (BadRecord 0 0 why.Flags)
  pub falling : refusal (sector_with (spelling hello ++ spelling created) ∷ []) ≡ Some BadOrder
  pub orphan : refusal (sector_with (spelling (record created { parent = 9 })) ∷ []) ≡ Some BadTree
  pub unwritten : refusal (sector_with (spelling one_byte_at_four) ∷ []) ≡ Some BadTree
  pub half_gate : seen (sector_with (set (spelling created) 7 15) ∷ []) ≡ Some (0, false, [])

-- records of both forms in one log
pub record MixedForms : Type 0 where
  pub hole : seen (sector_with (spelling (hole_of 5)) ∷ [])
      ≡ Some (1, false, 0 ∷ 0 ∷ 0 ∷ 0 ∷ 0x61 ∷ [])
  pub too_short : refusal (sector_with (spelling (hole_of 4)) ∷ []) ≡ Some (BadRecord 0 0 why.Size)
  pub older_form_after :
      refusal (sector_with
      (spelling (hole_of 5)
      ++ spelling (record created { inode = 3; version = 2; name = Some (codes "g") }))
      ∷ []) ≡ Some BadTree

-- images of one sector of records
pub record FirstScan : Type 0 where
  pub blank : seen [] ≡ Some (0, false, [])
  pub unmounted : seen (sector_with (spelling lone_unmount) ∷ []) ≡ Some (1, true, [])
  pub old_form : seen (old_sector ∷ []) ≡ Some (3, true, codes "hello")
  pub gate_open : seen (set old_sector 71 255 ∷ []) ≡ Some (1, false, [])
  pub half_erased : refusal (erased_from 100 old_sector ∷ []) ≡ Some (BadRecord 0 64 why.Name)

-- the log begins in the last sector and goes on in the first
pub record Turning : Type 0 where
  pub turned : seen (sector_with (spelling hello) ∷ blank ∷ blank ∷ blank ∷ blank ∷ blank ∷ blank
      ∷ sector_with (spelling created) ∷ []) ≡ Some (2, false, codes "hello")
  pub by_number : refusal
      (sector_with (spelling created) ∷ blank ∷ blank ∷ blank ∷ blank ∷ blank ∷ blank
      ∷ sector_with (spelling hello) ∷ []) ≡ Some BadOrder
