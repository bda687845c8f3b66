-- What a scan finds of a ring.
use Rattle.std.proofs.Common.{◌≡◌, ℕ, ◌+◌, ◌≤◌, true, not, ◌||◌, List, [], ◌∷◌, ◌++◌, length, take, drop, set, zero, suc, flat_map, Option, None, Result, Err, cond, refl, sym, ap, ◌∙◌, arith}
use Rattle.std.specs.List.{list_any, enumerate_from, AllByRecursion}
use Rattle.std.proofs.Math.Bool.{or_comm}
use Rattle.std.proofs.lemmas.Bool.{or_left, or_right}
use Rattle.std.proofs.lemmas.List.{take-append-drop, map-append}
use Rattle.std.proofs.lemmas.List.Folds.{list_any-append}
use Rattle.jffs_node.specs.declared.read.Read.{Read}
use Rattle.jffs_node.specs.declared.read.Read.TheVariants.{Closed, Free, Torn, Bad}
use Rattle.jffs_node.specs.Reading.{reading_len}
use Rattle.jffs_tree.specs.Origin.{tree_of}
use Rattle.jffs_tree.specs.Check.{makes_tree}
use Rattle.jffs_flash.specs.Sizes.{is_geometry}
use Rattle.jffs_log.specs.declared.scanning.ScanWhy.{ScanWhy}
use Rattle.jffs_log.specs.declared.scanning.ScanWhy.TheVariants.{Geometry, NoErased, Scattered, BadOrder, BadTree}
use Rattle.jffs_log.specs.Image.{Sector, records_in, log_of, nodes_of, past_of, is_one_run, is_clean}
use Rattle.jffs_log.specs.Scan.{Scanned, first_bad, bad_record, versions_rise, or_refuse, unless, scan_sectors, scan}
use Rattle.jffs_log.specs.Volume.{split, sectors_in}
use Rattle.jffs_log.specs.Ring.{IsRing}
use Rattle.jffs_log.specs.Live.{IsGoodEnding, IsReadable}
use Rattle.jffs_log.proofs.ring.Ring.{Numbered, sectors_of, ring_log, sectors_numbered}
use Rattle.jffs_log.proofs.ring.Volume.{length-split}

pub ring_live : (first : ℕ) (sectors : List Sector) (held blank : List Numbered) → IsRing first sectors held blank → log_of sectors ≡ flat_map records_in held
ring_live first sectors held blank h = ap (flat_map records_in) (ring_log first sectors held blank h).0

any_append : (xs ys : List Numbered) → list_any (λ s. s.erased) (sectors_of (xs ++ ys)) ≡ list_any (λ s. s.erased) (sectors_of xs) || list_any (λ s. s.erased) (sectors_of ys)
any_append xs ys = ap (list_any (λ s. s.erased)) (map-append (λ s. s.1) xs ys) ∙ list_any-append (λ s. s.erased) (sectors_of xs) (sectors_of ys)

any_blank : (held blank : List Numbered) → 1 ≤ length blank → AllByRecursion (λ s. s.1.erased ≡ true) blank → list_any (λ s. s.erased) (sectors_of (held ++ blank)) ≡ true
any_blank held [] some h = absurd (omega arith)
any_blank held (b ∷ blank) some h = any_append held (b ∷ blank) ∙ or_right (list_any (λ s. s.erased) (sectors_of held)) _ (or_left b.1.erased (list_any (λ s. s.erased) (sectors_of blank)) h.0)

pub ring_readable : (first : ℕ) (sectors : List Sector) (held blank : List Numbered) → IsRing first sectors held blank → AllByRecursion (λ s. IsGoodEnding s.reading.ending) sectors → IsReadable sectors
ring_readable first sectors held blank h sound =
    let n = enumerate_from 0 sectors in
    record {
      sound = sound;
      erased =
          ap (list_any (λ s. s.erased)) (sectors_numbered 0 sectors ∙ ap sectors_of (sym (take-append-drop first n)))
          ∙ any_append (take first n) (drop first n)
          ∙ or_comm (list_any (λ s. s.erased) (sectors_of (take first n))) (list_any (λ s. s.erased) (sectors_of (drop first n)))
          ∙ sym (any_append (drop first n) (take first n))
          ∙ ap (λ (xs : List Numbered). list_any (λ s. s.erased) (sectors_of xs)) h.order
          ∙ any_blank held blank h.some h.unused;
      run = (ring_log first sectors held blank h).1;
    }

pub sound_set : (sectors : List Sector) (k : ℕ) (s : Sector) → AllByRecursion (λ s. IsGoodEnding s.reading.ending) sectors → IsGoodEnding s.reading.ending → AllByRecursion (λ s. IsGoodEnding s.reading.ending) (set sectors k s)
sound_set [] k s h sound = h
sound_set (x ∷ sectors) zero s h sound = (sound, h.1)
sound_set (x ∷ sectors) (suc k) s h sound = (h.0, sound_set sectors k s h.1 sound)

-- What a scan answers of a readable image.
pub none_bad : (k at : ℕ) (r : Read) (later : Option ScanWhy) → IsGoodEnding r → bad_record k at r later ≡ later
none_bad k at (Closed n len) later h = refl
none_bad k at Free later h = refl
none_bad k at Torn later h = refl
none_bad k at (Bad why) later h = absurd h

pub first_none : (k : ℕ) (sectors : List Sector) → AllByRecursion (λ s. IsGoodEnding s.reading.ending) sectors → first_bad k sectors ≡ None
first_none k [] h = refl
first_none k (s ∷ sectors) h = none_bad k (reading_len s.reading) s.reading.ending (first_bad (k + 1) sectors) h.0 ∙ first_none (k + 1) sectors h.1

abbrev pub answer_on : List Sector → Result Scanned ScanWhy
answer_on sectors = unless (
    (not (versions_rise (nodes_of (log_of sectors))), BadOrder)
    ∷ (not (makes_tree (past_of (log_of sectors))), BadTree)
    ∷ [])
    (record { log = log_of sectors; tree = tree_of (past_of (log_of sectors)); clean = is_clean sectors })

abbrev pub rest_of_causes : List Sector → Result Scanned ScanWhy
rest_of_causes sectors = cond (not (list_any (λ s. s.erased) sectors)) (Err NoErased) (cond (not (is_one_run sectors)) (Err Scattered) (answer_on sectors))

pub geometry_passed : (count len : ℕ) (image : List ℕ) → is_geometry count len ≡ true → scan len (split count len image) ≡ scan_sectors (sectors_in count len image)
geometry_passed count len image sizes =
    ap (λ k. cond (is_geometry k len) (scan_sectors (sectors_in count len image)) (Err Geometry)) (length-split count len image)
    ∙ ap (λ t. cond t (scan_sectors (sectors_in count len image)) (Err Geometry)) sizes

pub bad_passed : (count len : ℕ) (image : List ℕ) → is_geometry count len ≡ true → first_bad 0 (sectors_in count len image) ≡ None → scan len (split count len image) ≡ rest_of_causes (sectors_in count len image)
bad_passed count len image sizes none = geometry_passed count len image sizes ∙ ap (λ o. or_refuse o (rest_of_causes (sectors_in count len image))) none

pub scan_reads : (count len : ℕ) (image : List ℕ) → is_geometry count len ≡ true → IsReadable (sectors_in count len image) → scan len (split count len image) ≡ answer_on (sectors_in count len image)
scan_reads count len image sizes h =
    let sectors = sectors_in count len image in
    let a = answer_on sectors in
    bad_passed count len image sizes (first_none 0 sectors h.sound)
    ∙ ap (λ t. cond (not t) (Err NoErased) (cond (not (is_one_run sectors)) (Err Scattered) a)) h.erased
    ∙ ap (λ t. cond (not t) (Err Scattered) a) h.run
