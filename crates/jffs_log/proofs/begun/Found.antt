-- What is asked of a sector that a scan stopped at, by what scans have found.
use Rattle.std.proofs.Common.{◌≡◌, ◌⊎◌, inl, inr, ℕ, zero, suc, ◌+◌, ◌-◌, ◌<◌, Bool, true, false, cond, not, ◌&&◌, leb, ltb, eqb, List, [], ◌∷◌, length, filter, Option, Some, None, Result, Ok, Err, refl, sym, ap, subst, ◌∙◌, arith}
use Rattle.std.specs.Prelude.{is_ok}
use Rattle.std.proofs.lemmas.Bool.{cases_Bool}
use Rattle.jffs_node.specs.declared.read.Read.{Read}
use Rattle.jffs_node.specs.declared.read.Read.TheVariants.{Closed, Free, Torn, Bad}
use Rattle.jffs_node.specs.declared.read.Why.{Why}
use Rattle.jffs_node.specs.Reading.{reading_len}
use Rattle.jffs_flash.specs.Sizes.{is_geometry}
use Rattle.jffs_flash.specs.Image.{erased}
use Rattle.jffs_inodes.specs.Inodes.{Tree}
use Rattle.jffs_tree.specs.Look.{holds_version}
use Rattle.jffs_tree.specs.declared.wish.Limits.{Limits}
use Rattle.jffs_log.specs.declared.log_index.LogIndex.{LogIndex}
use Rattle.jffs_log.specs.declared.log_index.RecordRef.{RecordRef}
use Rattle.jffs_log.specs.declared.scanning.ScanWhy.{ScanWhy}
use Rattle.jffs_log.specs.declared.scanning.ScanWhy.TheVariants.{Geometry, Device, BadRecord, NoErased, Scattered, BadOrder, BadTree, Memory}
use Rattle.jffs_log.specs.Image.{Sector, starts, oldest_of, erased_count}
use Rattle.jffs_log.specs.Volume.{sectors_in}
use Rattle.jffs_log.specs.Scan.{Scanned, first_bad, bad_record, or_refuse, scan_sectors}
use Rattle.jffs_log.specs.ScanFound.{IsCause, IsFound}
use Rattle.jffs_log.specs.LogIndex.{IsLogIndex, HasSizes}
use Rattle.jffs_log.specs.Wear.{sector_after}
use Rattle.jffs_log.specs.Heal.{scan_in, is_magic, stopped_by, stopped_at, live_found, is_damaged, is_last_erased, was_begun, only_if, begun_erase}
use Rattle.jffs_log.proofs.ring.Live.{geometry_passed}
use Rattle.jffs_log.proofs.append.Open.{length-sectors_in}
use Rattle.jffs_log.proofs.rooms.Rooms.{described_erased}
use Rattle.jffs_log.proofs.rooms.Weighed.{refs_count}
use Rattle.jffs_log.proofs.scans.ScanFound.{geometry_refused}

-- The sector is one of the device's.
bad_within : (k s p : ℕ) (w : Why) (sectors : List Sector) → first_bad k sectors ≡ Some (BadRecord s p w) → s < k + length sectors
bad_within k s p w [] h = cc
bad_within k s p w (x ∷ sectors) h = by_ending x.reading.ending (λ e. let below = bad_within (k + 1) s p w sectors e in omega arith) h
  where
    by_ending : (r : Read) → (first_bad (k + 1) sectors ≡ Some (BadRecord s p w) → s < k + length (x ∷ sectors))
        → bad_record k (reading_len x.reading) r (first_bad (k + 1) sectors) ≡ Some (BadRecord s p w) → s < k + length (x ∷ sectors)
    by_ending (Closed n len) later e = later e
    by_ending Free later e = later e
    by_ending Torn later e = later e
    by_ending (Bad why) later e = let same : k ≡ s = cc in omega arith

-- no other cause is a bad record
refused_otherwise : (a b c d : Bool) (scanned : Scanned) (s p : ℕ) (w : Why)
    → ◌≡◌ {A = Result Scanned ScanWhy} (cond a (Err NoErased) (cond b (Err Scattered) (cond c (Err BadOrder) (cond d (Err BadTree) (Ok scanned))))) (Err (BadRecord s p w)) → ⊥
refused_otherwise true b c d scanned s p w h = cc
refused_otherwise false true c d scanned s p w h = cc
refused_otherwise false false true d scanned s p w h = cc
refused_otherwise false false false true scanned s p w h = cc
refused_otherwise false false false false scanned s p w h = cc

bad_first : (o : Option ScanWhy) (later : Result Scanned ScanWhy) (s p : ℕ) (w : Why) → (later ≡ Err (BadRecord s p w) → ⊥) → or_refuse o later ≡ Err (BadRecord s p w) → o ≡ Some (BadRecord s p w)
bad_first None later s p w never h = absurd (never h)
bad_first (Some why) later s p w never h = let same : why ≡ BadRecord s p w = cc in ap (λ (v : ScanWhy). Some v) same

-- A scan stopped at that sector, and no call has failed.
pub record Stopped (count len : ℕ) (image : List ℕ) (why : ScanWhy) (before after k : ℕ) : Type 0 where
  pub sizes : is_geometry count len ≡ true
  pub inside : k < count
  pub same : after ≡ before
  pub answer : scan_in count len image ≡ Err why

stopped_is : (t : Bool) (s k : ℕ) → cond t (Some s) None ≡ Some k → s ≡ k
stopped_is true s k h = cc
stopped_is false s k h = cc

pub stopped : (why : ScanWhy) (count len before after k : ℕ) (image : List ℕ) → stopped_by why ≡ Some k → IsCause why before after (scan_in count len image) → Stopped count len image why before after k
stopped Geometry count len before after k image h cause = cc
stopped Device count len before after k image h cause = cc
stopped NoErased count len before after k image h cause = cc
stopped Scattered count len before after k image h cause = cc
stopped BadOrder count len before after k image h cause = cc
stopped BadTree count len before after k image h cause = cc
stopped Memory count len before after k image h cause = cc
stopped (BadRecord s p w) count len before after k image h cause =
    let at : s ≡ k = stopped_is (eqb p 0 && is_magic w) s k h in
    let sizes : is_geometry count len ≡ true = elim (cases_Bool (is_geometry count len)) [
      | inl holds ↦ holds
      | inr fails ↦ let other = (geometry_refused count len image before before fails refl).0 in cc
    ] in
    let all = length-sectors_in count len image in
    let first = bad_first (first_bad 0 (sectors_in count len image)) _ s p w (refused_otherwise _ _ _ _ _ s p w) (sym (geometry_passed count len image sizes) ∙ cause.0) in
    let below = bad_within 0 s p w (sectors_in count len image) first in
    record { sizes = sizes; inside = omega arith; same = cause.1; answer = cause.0 }

-- By the index of what was found.
pub last_is : (count len k : ℕ) (image : List ℕ) (b : LogIndex) → HasSizes count len b → IsLogIndex image b → b.first ≡ oldest_of (starts (sectors_in count len image))
    → is_last_erased k (sectors_in count len image) ≡ (leb 2 (b.sectors - b.held) && ltb (b.sectors - b.held) b.sectors && eqb b.first (sector_after b.sectors k))
last_is count len k image b sizes index begins =
    let same : sectors_in count len image ≡ sectors_in b.sectors b.sector_size image = λ i. sectors_in (sizes.0 i) (sizes.1 i) image in
    let left : erased_count (sectors_in count len image) ≡ b.sectors - b.held = ap erased_count same ∙ described_erased _ _ _ _ _ _ _ _ _ index in
    let many : length (sectors_in count len image) ≡ b.sectors = length-sectors_in count len image ∙ sizes.0 in
    λ i. leb 2 (left i) && ltb (left i) (many i) && eqb ((sym begins) i) (sector_after (many i) k)

pub live_is : (count len k : ℕ) (image : List ℕ) (b : LogIndex) (tree : Tree) (clean : Bool) (limits : Limits) → IsFound count len image b tree clean limits
    → ltb 0 (length (filter (λ (r : RecordRef). eqb r.sector k && holds_version tree r.inode r.version) b.records.items)) ≡ ltb 0 (live_found k (scan_in count len image))
live_is count len k image b tree clean limits found =
    ap (ltb 0) (refs_count _ _ _ _ _ _ _ _ _ found.index k tree)
    ∙ ap (λ (r : Result Scanned ScanWhy). ltb 0 (live_found k r)) (sym found.answer)

-- Whether an erase is to be ended.
module _ (count len k : ℕ) (image : List ℕ) (why : ScanWhy) (answer : scan_in count len image ≡ Err why) where
  at_stop : stopped_by why ≡ Some k → begun_erase count len image ≡ cond (was_begun count len image k) (Some k) None
  at_stop is = ap (λ (r : Result Scanned ScanWhy). only_if (was_begun count len image) (stopped_at r)) answer ∙ ap (only_if (was_begun count len image)) is

  pub is_begun : stopped_by why ≡ Some k → was_begun count len image k ≡ true → begun_erase count len image ≡ Some k
  is_begun is begun = at_stop is ∙ ap (λ t. cond t (Some k) None) begun

  pub is_not_begun : stopped_by why ≡ Some k → was_begun count len image k ≡ false → begun_erase count len image ≡ None
  is_not_begun is none = at_stop is ∙ ap (λ t. cond t (Some k) None) none

  pub is_not_stopped : stopped_by why ≡ None → begun_erase count len image ≡ None
  is_not_stopped is = ap (λ (r : Result Scanned ScanWhy). only_if (was_begun count len image) (stopped_at r)) answer ∙ ap (only_if (was_begun count len image)) is

-- an undamaged sector, once it is erased, is the last erased one or not
pub begun_as : (count len k : ℕ) (image : List ℕ) (b : LogIndex) (tree : Tree) (clean : Bool) (limits : Limits) (last : Bool) → is_damaged count len image k ≡ false
    → IsFound count len (erased len k image) b tree clean limits
    → last ≡ (leb 2 (b.sectors - b.held) && ltb (b.sectors - b.held) b.sectors && eqb b.first (sector_after b.sectors k)) → was_begun count len image k ≡ last
begun_as count len k image b tree clean limits last sound found is =
    let at = last_is count len k (erased len k image) b found.sizes found.index found.begins ∙ sym is in
    λ i. not (sound i) && is_ok (found.answer i) && at i
