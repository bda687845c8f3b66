-- The index of an image whose sectors were read.
use Rattle.std.proofs.Common.{◌≡◌, ◌⊎◌, inl, inr, ⊎_elim, ℕ, ◌-◌, ◌*◌, ◌/◌, ◌<◌, Bool, true, false, cond, not, ◌||◌, ltb, eqb, List, [], ◌∷◌, ◌++◌, length, map, filter, flat_map, replicate, get_or, Option, Some, None, Result, Ok, Err, refl, sym, ap, subst, ◌∙◌, arith, length-drop}
use Rattle.std.specs.List.{list_any, last_or, enumerate_from}
use Rattle.std.proofs.lemmas.Bool.{cases_Bool}
use Rattle.std.proofs.lemmas.List.{append_assoc, map-append}
use Rattle.jffs_node.specs.declared.node.Node.{Node}
use Rattle.jffs_node.specs.declared.read.Why.{Why}
use Rattle.jffs_node.specs.declared.read.Read.{Read}
use Rattle.jffs_node.specs.declared.read.Read.TheVariants.{Closed, Free, Torn, Bad}
use Rattle.jffs_node.specs.Reading.{Reading, reading, reading_len, is_erased, found, broken_rule, closed_or_bad}
use Rattle.jffs_node.proofs.Sound.{only}
use Rattle.jffs_flash.specs.Sizes.{is_geometry}
use Rattle.jffs_log.specs.declared.log_index.RecordRef.{RecordRef}
use Rattle.jffs_log.specs.declared.scanning.ScanWhy.{ScanWhy}
use Rattle.jffs_log.specs.declared.scanning.ScanWhy.TheVariants.{NoErased, Scattered}
use Rattle.jffs_log.specs.Image.{Sector, Placed, sector_of, records_in, starts, oldest_of, is_one_run, turned, log_sectors, nodes_of, is_free, free_in, free_of_tail}
use Rattle.jffs_log.specs.Sector.{HoldsNodes}
use Rattle.jffs_log.specs.Volume.{sectors_in, sector_bytes}
use Rattle.jffs_log.specs.Ring.{IsRing}
use Rattle.jffs_log.specs.LogIndex.{ref_of, HasTail, Describes}
use Rattle.jffs_log.specs.ScanRead.{oldest_sector, AreRead, IsSpelled, rest_of, number_of_tail, used_of_tail}
use Rattle.jffs_log.proofs.ring.Ring.{Numbered, ring_log, ring_reads}
use Rattle.jffs_log.proofs.scans.MountedLog.{placed_nodes}
use Rattle.jffs_log.proofs.ring.RingFound.{ring_of}
use Rattle.jffs_log.proofs.append.Open.{length-sectors_in, get_or-sectors_in}
use Rattle.jffs_log.proofs.scans.ScanSectors.{all_sound}
use Rattle.jffs_log.proofs.ring.Volume.{length-sector}

abbrev pub is_held : Numbered → Bool
is_held s = not s.1.erased

-- The log among the sectors.
pub record IsLocated (sectors : List Sector) (first : ℕ) (held : List Numbered) : Type 0 where
  pub some : list_any (λ s. s.erased) sectors ≡ true
  pub run : is_one_run sectors ≡ true
  pub begins : first ≡ oldest_of (starts sectors)
  pub blank : List Numbered
  pub ring : IsRing first sectors held blank
  pub log : log_sectors sectors ≡ held

pub record OldestIs (sectors : List Sector) (first : ℕ) : Type 0 where
  pub some : list_any (λ s. s.erased) sectors ≡ true
  pub run : is_one_run sectors ≡ true
  pub oldest : oldest_of (starts sectors) ≡ first

oldest_by : (some run : Bool) (k first : ℕ) → ◌≡◌ {A = Result ℕ ScanWhy} (cond (not some) (Err NoErased) (cond (not run) (Err Scattered) (Ok k))) (Ok first) → (some ≡ true) × (run ≡ true) × (k ≡ first)
oldest_by true true k first h = (refl, refl, (cc))
oldest_by true false k first h = cc
oldest_by false run k first h = cc

pub oldest_is : (sectors : List Sector) (first : ℕ) → oldest_sector sectors ≡ Ok first → OldestIs sectors first
oldest_is sectors first h =
    let parts = oldest_by (list_any (λ s. s.erased) sectors) (is_one_run sectors) (oldest_of (starts sectors)) first h in
    record { some = parts.0; run = parts.1; oldest = parts.2 }

pub located : (sectors : List Sector) (first : ℕ) → oldest_sector sectors ≡ Ok first → IsLocated sectors first (filter is_held (turned first (enumerate_from 0 sectors)))
located sectors first h =
    let o = oldest_is sectors first h in
    let f = ring_of sectors o.some o.run in
    let all = ring_log (oldest_of (starts sectors)) sectors f.held f.blank f.ring in
    let same : log_sectors sectors ≡ filter is_held (turned first (enumerate_from 0 sectors)) = ap (λ k. filter is_held (turned k (enumerate_from 0 sectors))) o.oldest in
    record {
      some = o.some;
      run = o.run;
      begins = sym o.oldest;
      blank = f.blank;
      ring = subst (λ (xs : List Numbered). IsRing first sectors xs f.blank) (sym all.0 ∙ same) (subst (λ k. IsRing k sectors f.held f.blank) o.oldest f.ring);
      log = same;
    }

-- The nodes of placed records.
pub nodes_in : (held : List Numbered) → nodes_of (flat_map records_in held) ≡ flat_map (λ s. s.1.reading.nodes) held
nodes_in [] = refl
nodes_in (s ∷ held) =
    map-append (λ (p : Placed). p.node) (records_in s) (flat_map records_in held)
    ∙ ap (λ (xs : List Node). xs ++ nodes_of (flat_map records_in held)) (placed_nodes s.0 0 s.1.reading.nodes)
    ∙ ap (λ (xs : List Node). s.1.reading.nodes ++ xs) (nodes_in held)

-- The last of the sectors.
pub record LastIs (xs : List Numbered) (t : Numbered) : Type 0 where
  pub older : List Numbered
  pub whole : xs ≡ older ++ t ∷ []

last_or_is : (x : Numbered) (xs : List Numbered) (t : Numbered) → last_or (Some x) xs ≡ Some t → LastIs (x ∷ xs) t
last_or_is x [] t h = let same : x ≡ t = cc in record { older = []; whole = ap (λ (s : Numbered). s ∷ []) same }
last_or_is x (y ∷ xs) t h = let more = last_or_is y xs t h in record { older = x ∷ more.older; whole = ap (λ (ys : List Numbered). x ∷ ys) more.whole }

last_parts : (xs : List Numbered) (t : Numbered) → last_or None xs ≡ Some t → LastIs xs t
last_parts [] t h = cc
last_parts (x ∷ xs) t h = last_or_is x xs t h

-- Free bytes are erased.
not_free : (rest : List ℕ) (o : Option Why) → closed_or_bad rest o ≡ Free → ⊥
not_free rest None h = cc
not_free rest (Some why) h = cc

free_erased : (max : ℕ) (rest : List ℕ) → found max rest ≡ Free → is_erased rest ≡ true
free_erased max rest h = by_test (ltb (length rest) 64 || not (eqb (get_or rest 7 0) 0)) (is_erased rest) h
  where
    by_test : (t e : Bool) → cond t (cond e Free Torn) (closed_or_bad rest (broken_rule max rest)) ≡ Free → e ≡ true
    by_test true true h = refl
    by_test true false h = cc
    by_test false e h = absurd (not_free rest (broken_rule max rest) h)

is_free_read : (r : Read) → is_free r ≡ true → r ≡ Free
is_free_read (Closed n len) h = cc
is_free_read Free h = refl
is_free_read Torn h = cc
is_free_read (Bad why) h = cc

-- A sector that ended free holds its nodes and erased bytes.
pub free_holds : (sector : List ℕ) → IsSpelled sector → is_free (reading sector).ending ≡ true → HoldsNodes sector (reading sector).nodes (replicate (length sector - reading_len (reading sector)) 255)
free_holds sector h free =
    let rest = rest_of sector in
    let blank = free_erased (length sector / 4) rest (sym h.ends ∙ is_free_read (reading sector).ending free) in
    let bytes = only 255 rest blank ∙ ap (λ (k : ℕ). replicate k 255) (length-drop (reading_len (reading sector)) sector) in
    subst (λ (xs : List ℕ). HoldsNodes sector (reading sector).nodes xs) bytes h.holds

-- The index.
module _ (count len : ℕ) (image : List ℕ) (list : List Numbered) (first : ℕ) (held : List Numbered) (whole : length image ≡ count * len) (read : AreRead count len image list) (is : IsLocated (sectors_in count len image) first held) where
  pub tail_open : (t : Numbered) → last_or None held ≡ Some t → is_free t.1.reading.ending ≡ true → HasTail count len image held t.0 (reading_len t.1.reading) (len - reading_len t.1.reading)
  tail_open t last free =
      let parts = last_parts held t last in
      let order = is.ring.order ∙ ap (λ (xs : List Numbered). xs ++ is.blank) parts.whole ∙ append_assoc parts.older (t ∷ []) is.blank in
      let at = ring_reads first (sectors_in count len image) parts.older is.blank t is.ring.inside order in
      let below : t.0 < count = let e = length-sectors_in count len image in let b = at.0 in omega arith in
      let bytes = sector_bytes len t.0 image in
      let same : t.1 ≡ sector_of bytes = at.1 ∙ get_or-sectors_in count len t.0 image t.1 below in
      let long : length bytes ≡ len = length-sector count len t.0 image whole below in
      let h = free_holds bytes (read.spelled t.0 below) (ap (λ (s : Sector). is_free s.reading.ending) (sym same) ∙ free) in
      let here = subst (λ (r : Reading). HoldsNodes bytes r.nodes (replicate (length bytes - reading_len r) 255)) (ap (λ (s : Sector). s.reading) (sym same)) h in
      record {
        older = parts.older;
        last = t;
        nodes = t.1.reading.nodes;
        end = parts.whole;
        number = refl;
        opened = record { whole = whole; below = below; holds = subst (λ k. HoldsNodes bytes t.1.reading.nodes (replicate (k - reading_len t.1.reading) 255)) long here };
        filled = refl;
      }

  room_by : (o : Option Numbered) → last_or None held ≡ o → (free_of_tail len o ≡ 0) ⊎ HasTail count len image held (number_of_tail o) (used_of_tail o) (free_of_tail len o)
  room_by None last = inl refl
  room_by (Some t) last = ⊎_elim
      (λ (yes : is_free t.1.reading.ending ≡ true).
      let room : free_in len t.1.reading ≡ len - reading_len t.1.reading = ap (λ b. cond b (len - reading_len t.1.reading) 0) yes in
      inr (subst (λ k. HasTail count len image held t.0 (reading_len t.1.reading) k) (sym room) (tail_open t last yes)))
      (λ (no : is_free t.1.reading.ending ≡ false). inl (ap (λ b. cond b (len - reading_len t.1.reading) 0) no))
      (cases_Bool (is_free t.1.reading.ending))

  pub described_is : (sizes : is_geometry count len ≡ true) (many tail used free : ℕ) (records : List RecordRef) → length held ≡ many → tail ≡ number_of_tail (last_or None held) → used ≡ used_of_tail (last_or None held)
      → free ≡ free_of_tail len (last_or None held) → records ≡ map ref_of (flat_map records_in held) → Describes count len image first many tail used free records
  described_is sizes many tail used free records counted number filled exact listed = record {
    sizes = sizes;
    whole = whole;
    held = held;
    blank = is.blank;
    ring = is.ring;
    counted = counted;
    sound = all_sound 0 (sectors_in count len image) read.none;
    room =
        subst (λ k. (free ≡ 0) ⊎ HasTail count len image held k used free) (sym number)
        (subst (λ k. (free ≡ 0) ⊎ HasTail count len image held (number_of_tail (last_or None held)) k free) (sym filled)
        (subst (λ k. (k ≡ 0) ⊎ HasTail count len image held (number_of_tail (last_or None held)) (used_of_tail (last_or None held)) k) (sym exact) (room_by (last_or None held) refl)));
    exact = exact;
    listed = listed;
  }
