-- What a scan answers: the index and the numbers that come next, or the cause of its refusal.
use Rattle.std.specs.Prelude.{◌≡◌, ℕ, ◌<◌, Bool, true, false, List, [], ◌∷◌, get_or, flat_map}
use Rattle.std.specs.Prelude.{Result, Ok, Err}
use Rattle.std.specs.List.{AllByRecursion}
use Rattle.jffs_node.specs.declared.node.Node.{Node}
use Rattle.jffs_tree.specs.declared.wish.Limits.{Limits}
use Rattle.jffs_inodes.specs.Inodes.{Tree}
use Rattle.jffs_tree.specs.Origin.{tree_of}
use Rattle.jffs_tree.specs.Check.{each_fits, has_second_form}
use Rattle.jffs_log.specs.declared.folding.MadeTree.{MadeTree}
use Rattle.jffs_log.specs.declared.log_index.LogIndex.{LogIndex}
use Rattle.jffs_log.specs.declared.scanning.ScanWhy.{ScanWhy}
use Rattle.jffs_log.specs.declared.scanning.ScanWhy.TheVariants.{Device, Memory}
use Rattle.jffs_log.specs.Image.{Sector, past_of, oldest_of, starts}
use Rattle.jffs_log.specs.Room.{limits as limits_after}
use Rattle.jffs_flash.specs.Device.{Device as FlashDevice}
use Rattle.jffs_log.specs.LogState.{LogState}
use Rattle.jffs_log.specs.Volume.{split, sectors_in}
use Rattle.jffs_log.specs.LogIndex.{IsLogIndex, HasSizes, log_in}
use Rattle.jffs_log.specs.Scan.{Scanned, scan}
use Rattle.jffs_log.specs.declared.shown.Shown.{Shown}
use Rattle.jffs_log.specs.Shown.{shown_device}

-- the version of the last node, 0 where there is none
abbrev pub last_version : List Node → ℕ
last_version [] = 0
last_version (n ∷ []) = n.version
last_version (n ∷ m ∷ nodes) = last_version (m ∷ nodes)

-- the nodes of the sectors, one after another
abbrev pub nodes_held : List (ℕ × Sector) → List Node
nodes_held held = flat_map (λ s. s.1.reading.nodes) held

-- the tree of these nodes, each of which fits those before it, and whether one of them states a
-- size
pub record IsMadeBy (past : List Node) (made : MadeTree) : Type 0 where
  pub tree : made.tree ≡ tree_of past
  pub fit : each_fits past ≡ true
  pub sizes : made.has_sizes ≡ has_second_form past

-- The scan of the image, whose elements are bytes, with the index that describes it. The log begins
-- with its oldest sector, and where it has none, since all are erased, with sector 0.
pub record IsFound (count len : ℕ) (image : List ℕ) (found : LogIndex) (tree : Tree) (clean : Bool)
    (limits : Limits) : Type 0 where
  pub answer : scan len (split count len image)
      ≡ Ok (record { log = log_in image found; tree = tree; clean = clean })
  pub index : IsLogIndex image found
  pub sizes : HasSizes count len found
  pub erases : found.erases ≡ 0
  pub begins : found.first ≡ oldest_of (starts (sectors_in count len image))
  pub limits_are : limits ≡ limits_after len (past_of (log_in image found))
  pub bytes : AllByRecursion (λ bytes. (i : ℕ) → get_or bytes i 0 < 256) (split count len image)

-- why the scan was refused: the device, memory, or the definition's answer
abbrev pub IsCause : ScanWhy → ℕ → ℕ → Result Scanned ScanWhy → Type 0
IsCause Device before after answer = before < after
IsCause Memory before after answer = after ≡ before
IsCause why before after answer = (answer ≡ Err why) × (after ≡ before)

-- what a scan of the device gives by the definition
abbrev pub scan_of : FlashDevice → Result Scanned ScanWhy
scan_of device = scan device.sector_size (split device.sectors device.sector_size device.image)

-- the log on the device, which no call changed
pub record IsMounted (device : FlashDevice) (log : LogState) (tree : Tree) (clean : Bool)
    (limits : Limits) : Type 0 where
  pub device_is : log.device ≡ device
  pub works : log.failed ≡ false
  pub no_erase_failed : log.erase_failed ≡ false
  pub found : IsFound device.sectors device.sector_size device.image log.index tree clean limits

-- no log was found in what is shown, and nothing but the count of faults has changed
pub record IsUnfound (shown : Shown) (device : FlashDevice) (why : ScanWhy) (after : FlashDevice) :
    Type 0 where
  pub cause : IsCause why device.faults after.faults (scan_of (shown_device shown device))
  pub rest : after ≡ record device { faults = after.faults }

-- no log was found, and nothing but the count of faults has changed
pub record IsRefused (device : FlashDevice) (why : ScanWhy) (after : FlashDevice) : Type 0 where
  pub cause : IsCause why device.faults after.faults (scan_of device)
  pub rest : after ≡ record device { faults = after.faults }
