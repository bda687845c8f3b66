-- The numbers that a log keeps of its records are small.
use Rattle.std.proofs.Common.{◌≡◌, ◌∙◌, ℕ, zero, suc, ◌+◌, ◌*◌, ◌/◌, ◌^◌, ◌<◌, ◌≤◌, true, not, List, [], ◌∷◌, ◌++◌, length, take, drop, filter, sum_by, sym, ap, subst, arith, length-append}
use Rattle.std.specs.List.{enumerate_from, AllByRecursion}
use Rattle.std.proofs.lemmas.List.{length-take}
use Rattle.jffs_flash.specs.Sizes.{is_geometry}
use Rattle.jffs_node.specs.Record.{record_len}
use Rattle.jffs_node.specs.Reading.{reading}
use Rattle.jffs_log.specs.Image.{Sector, turned}
use Rattle.jffs_log.specs.Sector.{spellings}
use Rattle.jffs_log.specs.Volume.{split, sector_bytes, sectors_in}
use Rattle.jffs_log.specs.ScanRead.{AreRead, IsSpelled, IsSmall, rest_of}
use Rattle.jffs_log.proofs.append.Appended.{sizes_small}
use Rattle.jffs_log.proofs.append.Open.{length-sectors_in}
use Rattle.jffs_log.proofs.ring.Ring.{Numbered}
use Rattle.jffs_log.proofs.ring.SectorSpellings.{length_spellings}
use Rattle.jffs_log.proofs.scans.MountedLog.{each_turned, each_filtered}
use Rattle.jffs_log.proofs.scans.ScanSectors.{all_split}

-- the bytes of the records are bytes of the sector
used_small : (bytes : List ℕ) → length bytes ≤ 16384 → IsSpelled bytes → sum_by record_len (reading bytes).nodes < 2 ^ 16
used_small bytes short h =
    let long = length_spellings (length bytes / 4) (length bytes) (reading bytes).nodes h.holds.fit in
    let whole = ap length h.holds.spelled ∙ length-append (spellings (reading bytes).nodes) (rest_of bytes) in
    omega arith

each_used : (count len : ℕ) (image : List ℕ) → AllByRecursion (λ bytes. sum_by record_len (reading bytes).nodes < 2 ^ 16) (split count len image) → AllByRecursion (λ (s : Sector). sum_by record_len s.reading.nodes < 2 ^ 16) (sectors_in count len image)
each_used zero len image h = tt
each_used (suc more) len image h = (h.0, each_used more len (drop len image) h.1)

numbered_small : (k : ℕ) (sectors : List Sector) → k + length sectors ≤ 64 → AllByRecursion (λ (s : Sector). sum_by record_len s.reading.nodes < 2 ^ 16) sectors → AllByRecursion IsSmall (enumerate_from k sectors)
numbered_small k [] few h = tt
numbered_small k (s ∷ sectors) few h = (record { number = omega arith; used = h.0 }, numbered_small (k + 1) sectors (omega arith) h.1)

-- so it is of each sector of a log that was read
pub held_small : (count len : ℕ) (image : List ℕ) (list held : List Numbered) (first : ℕ) → is_geometry count len ≡ true → AreRead count len image list → held ≡ filter (λ (s : Numbered). not s.1.erased) (turned first list) → AllByRecursion IsSmall held
held_small count len image list held first sizes read is =
    let small = sizes_small count len sizes in
    let few : 0 + length (sectors_in count len image) ≤ 64 = let many = length-sectors_in count len image in let most = small.0 in omega arith in
    let each = all_split (λ bytes. sum_by record_len (reading bytes).nodes < 2 ^ 16) count len image (λ k below.
    let cut = length-take len (drop (k * len) image) in
    let most = small.1 in
    used_small (sector_bytes len k image) (omega arith) (read.spelled k below)) in
    subst (AllByRecursion IsSmall) (sym is)
    (each_filtered IsSmall (λ (s : Numbered). not s.1.erased) (turned first list)
    (each_turned IsSmall first list
    (subst (AllByRecursion IsSmall) (sym read.read) (numbered_small 0 (sectors_in count len image) few (each_used count len image each)))))
