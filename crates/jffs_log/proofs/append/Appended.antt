-- What the index of a log owes where a record is appended.
use Rattle.std.proofs.Common.{◌≡◌, ◌≢◌, ◌⊎◌, inl, inr, ℕ, ◌+◌, ◌-◌, ◌*◌, ◌/◌, ◌<◌, ◌≤◌, Bool, true, false, ◌&&◌, ◌||◌, leb, eqb, List, [], ◌∷◌, ◌++◌, length, take, drop, map, flat_map, replicate, get_or, sum_by, refl, sym, ap, subst, ◌∙◌, arith, length-append, None}
use Rattle.std.specs.List.{last_or, AllByRecursion}
use Rattle.std.proofs.Math.Bool.{and-true}
use Rattle.std.proofs.Math.Nat.{mul-le-mul_right}
use Rattle.std.proofs.Math.Seq.{drop-append_seam}
use Rattle.jffs_node.specs.declared.read.Read.TheVariants.{Free}
use Rattle.std.proofs.lemmas.Bool.{and_parts, leb-true, eqb-true}
use Rattle.std.proofs.lemmas.List.Sums.{sum_by-cons, sum_by-append}
use Rattle.std.proofs.lemmas.List.{take-take, drop-take, drop-drop, take-replicate, map-append}
use Rattle.jffs_node.specs.declared.node.Node.{Node}
use Rattle.jffs_node.specs.Record.{spelling, record_len, dsize, is_lawful, is_unmount, fits_rest}
use Rattle.jffs_node.proofs.Found.{length_spelled}
use Rattle.jffs_flash.specs.Image.{window, replaced}
use Rattle.jffs_flash.specs.Sizes.{is_sector_size, is_geometry}
use Rattle.jffs_flash.specs.declared.sizes.TheConstants.{MIN_SECTORS, MAX_SECTORS, VOLUME_MAX}
use Rattle.jffs_log.specs.declared.log_index.RecordRef.{RecordRef}
use Rattle.jffs_log.specs.Image.{Sector, Placed, sector_of, records_in, log_sectors, free_in, free_of_tail, ends_with_unmount, is_free, is_clean, is_clean_tail}
use Rattle.jffs_log.specs.Cleaning.{in_last}
use Rattle.jffs_log.specs.Sector.{spellings}
use Rattle.jffs_log.specs.Volume.{sector_bytes, sectors_in}
use Rattle.jffs_log.specs.Ring.{IsRing, IsAt}
use Rattle.jffs_log.specs.Live.{IsGoodEnding, IsReadable, IsOpenSector, live_log}
use Rattle.jffs_log.specs.Gate.{IsWritten}
use Rattle.jffs_log.specs.LogIndex.{ref_of, HasTail, Describes, placed_at}
use Rattle.jffs_log.proofs.ring.SectorSpellings.{length_spellings, rest_fits, record_long}
use Rattle.jffs_log.proofs.ring.Ring.{Numbered, nodes_by_sector, last_end, ring_log, ring_lengths, at_once, number_in_ring}
use Rattle.jffs_log.proofs.ring.Volume.{length-replaced}
use Rattle.jffs_log.proofs.append.Open.{length-sectors_in, sector_after, sectors_after, room_is, inside, record_short, whole_reads, whole_open, part_sound}
use Rattle.jffs_log.proofs.append.Append.{HasRing, tail_nodes, tail_after, tail_whole, tail_part, next_open, next_after, next_whole, next_part}
use Rattle.jffs_log.proofs.ring.Live.{ring_live, ring_readable, sound_set}

-- the sizes of a volume are small
sector_small : (len : ℕ) → is_sector_size len ≡ true → len ≤ 16384
sector_small len h = by_any (eqb 1024 len) (eqb 2048 len) (eqb 4096 len) (eqb 8192 len) (eqb 16384 len) (eqb-true 1024 len) (eqb-true 2048 len) (eqb-true 4096 len) (eqb-true 8192 len) (eqb-true 16384 len) h
  where
    by_any : (a b c d e : Bool) → (a ≡ true → 1024 ≡ len) → (b ≡ true → 2048 ≡ len) → (c ≡ true → 4096 ≡ len) → (d ≡ true → 8192 ≡ len) → (e ≡ true → 16384 ≡ len) → (a || (b || (c || (d || (e || false))))) ≡ true → len ≤ 16384
    by_any true b c d e p q r s t h = let k = p refl in omega arith
    by_any false true c d e p q r s t h = let k = q refl in omega arith
    by_any false false true d e p q r s t h = let k = r refl in omega arith
    by_any false false false true e p q r s t h = let k = s refl in omega arith
    by_any false false false false true p q r s t h = let k = t refl in omega arith
    by_any false false false false false p q r s t h = cc

pub sizes_small : (count len : ℕ) → is_geometry count len ≡ true → (count ≤ MAX_SECTORS) × (len ≤ 16384)
sizes_small count len h =
    let parts = and_parts (leb MIN_SECTORS count && leb count MAX_SECTORS) (is_sector_size len) h in
    (leb-true count MAX_SECTORS (and_parts (leb MIN_SECTORS count) (leb count MAX_SECTORS) parts.0).1, sector_small len parts.1)

pub image_small : (count len : ℕ) (image : List ℕ) → is_geometry count len ≡ true → length image ≡ count * len → length image ≤ VOLUME_MAX
image_small count len image h whole =
    let small = sizes_small count len h in
    let a = mul-le-mul_right len small.0 in
    omega (arith, small.1, a)

-- what a write of a record needs
module _ (count len : ℕ) (image : List ℕ) (k : ℕ) (nodes : List Node) (free : ℕ) (h : IsOpenSector count len image k nodes free) where
  pub open_inside : (amount : ℕ) → amount ≤ free → k * len + sum_by record_len nodes + amount ≤ length image
  open_inside amount short =
      let r = room_is count len image k nodes free h in
      let i = inside count len image k nodes free h in
      let w = h.whole in
      omega arith

  pub open_erased : (amount : ℕ) → amount ≤ free → window (k * len + sum_by record_len nodes) amount image ≡ replicate amount 255
  open_erased amount short =
      let offset = sum_by record_len nodes in
      let bytes = sector_bytes len k image in
      let r = room_is count len image k nodes free h in
      let front : length (spellings nodes) ≡ offset = length_spellings (length bytes / 4) (length bytes) nodes h.holds.fit in
      let rest : drop offset bytes ≡ replicate free 255 = ap (λ j. drop j bytes) (sym front) ∙ ap (λ (xs : List ℕ). drop (length (spellings nodes)) xs) h.holds.spelled ∙ drop-append_seam (spellings nodes) (replicate free 255) in
      let cut : drop offset bytes ≡ take free (drop (k * len + offset) image) =
      ap (λ j. drop offset (take j (drop (k * len) image))) (sym r) ∙ drop-take offset free (drop (k * len) image) ∙ ap (take free) (drop-drop offset (k * len) image) in
      sym (take-take amount free (drop (k * len + offset) image) short)
      ∙ ap (take amount) (sym cut ∙ rest)
      ∙ take-replicate amount free 255 short

-- Where a record fits the tail, the tail is open.
tail_of : (count len : ℕ) (image : List ℕ) (held : List Numbered) (tail used free : ℕ) (n : Node) → (free ≡ 0) ⊎ HasTail count len image held tail used free → fits_rest n.kind (dsize n) (len / 4) free ≡ true
    → HasTail count len image held tail used free
tail_of count len image held tail used free n (inl none) fits =
    let short = rest_fits n.kind (dsize n) (len / 4) free fits in
    let long = record_long n in
    absurd (omega arith)
tail_of count len image held tail used free n (inr t) fits = t

refs_more : (held more : List Placed) (p : Placed) → more ≡ held ++ p ∷ [] → map ref_of more ≡ map ref_of held ++ ref_of p ∷ []
refs_more held more p e = ap (map ref_of) e ∙ map-append ref_of held (p ∷ [])

sum_more : (nodes : List Node) (n : Node) → sum_by record_len nodes + record_len n ≡ sum_by record_len (nodes ++ n ∷ [])
sum_more nodes n =
    let e = sum_by-append record_len nodes (n ∷ []) in
    let f = sum_by-cons record_len n [] in
    let g : sum_by record_len [] ≡ 0 = refl in
    omega arith

-- the bytes that are free after the records of the last sector
free_at_end : (len : ℕ) (older : List Numbered) (last : Numbered) (nodes : List Node) (free : ℕ) → last.1 ≡ record { erased = false; reading = record { nodes = nodes; ending = Free } } → sum_by record_len nodes + free ≡ len
    → free_of_tail len (last_or None (older ++ last ∷ [])) ≡ free
free_at_end len older last nodes free reads sum =
    ap (free_of_tail len) (last_end None older last) ∙ ap (λ (s : Sector). free_in len s.reading) reads ∙ omega arith

-- whether the last sector ends with an unmount node
unmount_last : (nodes : List Node) (n : Node) → ends_with_unmount (nodes ++ n ∷ []) ≡ is_unmount n.kind
unmount_last [] n = refl
unmount_last (m ∷ []) n = refl
unmount_last (m ∷ k ∷ nodes) n = unmount_last (k ∷ nodes) n

clean_at_end : (older : List Numbered) (last : Numbered) (nodes : List Node) (n : Node) → last.1 ≡ record { erased = false; reading = record { nodes = nodes ++ n ∷ []; ending = Free } }
    → is_clean_tail (last_or None (older ++ last ∷ [])) ≡ is_unmount n.kind
clean_at_end older last nodes n reads =
    ap is_clean_tail (last_end None older last)
    ∙ ap (λ (s : Sector). ends_with_unmount s.reading.nodes && is_free s.reading.ending) reads
    ∙ and-true (ends_with_unmount (nodes ++ n ∷ []))
    ∙ unmount_last nodes n

pub described_readable : (count len : ℕ) (image : List ℕ) (first many tail used free : ℕ) (records : List RecordRef) → Describes count len image first many tail used free records → IsReadable (sectors_in count len image)
described_readable count len image first many tail used free records h = ring_readable first (sectors_in count len image) h.held h.blank h.ring h.sound

pub described_live : (count len : ℕ) (image : List ℕ) (first many tail used free : ℕ) (records : List RecordRef) (h : Describes count len image first many tail used free records) → live_log count len image ≡ flat_map records_in h.held
described_live count len image first many tail used free records h = ring_live first (sectors_in count len image) h.held h.blank h.ring

-- the sectors stay sound
sound_whole : (count len : ℕ) (image : List ℕ) (k : ℕ) (nodes : List Node) (free : ℕ) (o : IsOpenSector count len image k nodes free) (n : Node) (lawful : is_lawful n ≡ true) (fits : fits_rest n.kind (dsize n) (len / 4) free ≡ true)
    → AllByRecursion (λ s. IsGoodEnding s.reading.ending) (sectors_in count len image) → AllByRecursion (λ s. IsGoodEnding s.reading.ending) (sectors_in count len (replaced (k * len + sum_by record_len nodes) (spelling n) image))
sound_whole count len image k nodes free o n lawful fits sound =
    let short = record_short count len image k nodes free o n lawful fits in
    let long = length_spelled n lawful in
    let reads = whole_reads count len image k nodes free o n lawful fits in
    subst (AllByRecursion (λ s. IsGoodEnding s.reading.ending)) (sym (sectors_after count len image k nodes free o (spelling n) (omega arith)))
    (sound_set (sectors_in count len image) k (sector_of (sector_after count len image k nodes free o (spelling n))) sound (subst (λ (s : Sector). IsGoodEnding s.reading.ending) (sym reads) tt))

sound_part : (count len : ℕ) (image : List ℕ) (k : ℕ) (nodes : List Node) (free : ℕ) (o : IsOpenSector count len image k nodes free) (part : List ℕ) → length part ≤ free → 64 ≤ length part → get_or part 7 0 ≢ 0
    → AllByRecursion (λ s. IsGoodEnding s.reading.ending) (sectors_in count len image) → AllByRecursion (λ s. IsGoodEnding s.reading.ending) (sectors_in count len (replaced (k * len + sum_by record_len nodes) part image))
sound_part count len image k nodes free o part short long gate sound =
    subst (AllByRecursion (λ s. IsGoodEnding s.reading.ending)) (sym (sectors_after count len image k nodes free o part short))
    (sound_set (sectors_in count len image) k (sector_of (sector_after count len image k nodes free o part)) sound (part_sound count len image k nodes free o part short long gate))

abbrev pub Appended : (count len : ℕ) (image : List ℕ) (first many left : ℕ) (records : List RecordRef) (n : Node) (by_sector : List (List Node)) (k offset : ℕ) → Type 0
Appended count len image first many left records n by_sector k offset =
    Describes count len (replaced (k * len + offset) (spelling n) image) first many k (offset + record_len n) left (records ++ ref_of (placed_at k offset n) ∷ [])
    × (live_log count len (replaced (k * len + offset) (spelling n) image) ≡ live_log count len image ++ placed_at k offset n ∷ [])
    × (nodes_by_sector (log_sectors (sectors_in count len (replaced (k * len + offset) (spelling n) image))) ≡ by_sector)
    × (is_clean (sectors_in count len (replaced (k * len + offset) (spelling n) image)) ≡ is_unmount n.kind)

-- the nodes of the log by sectors
abbrev pub logged : ℕ → ℕ → List ℕ → List (List Node)
logged count len image = nodes_by_sector (log_sectors (sectors_in count len image))

by_sector_more : (older : List Numbered) (t last : Numbered) (n : Node) → last.1.reading.nodes ≡ t.1.reading.nodes ++ n ∷ [] → nodes_by_sector (older ++ last ∷ []) ≡ in_last n (nodes_by_sector (older ++ t ∷ []))
by_sector_more [] t last n e = ap (λ (ns : List Node). ns ∷ []) e
by_sector_more (x ∷ []) t last n e = ap (λ (ns : List Node). x.1.reading.nodes ∷ ns ∷ []) e
by_sector_more (x ∷ y ∷ older) t last n e = ap (λ (xs : List (List Node)). x.1.reading.nodes ∷ xs) (by_sector_more (y ∷ older) t last n e)

abbrev pub Cut : (count len : ℕ) (image new : List ℕ) (n : Node) (k offset : ℕ) → Type 0
Cut count len image new n k offset =
    IsReadable (sectors_in count len new) × ((live_log count len new ≡ live_log count len image) ⊎ (live_log count len new ≡ live_log count len image ++ placed_at k offset n ∷ []))

-- What a write of a record may rely on.
pub record IsReady (count len : ℕ) (image : List ℕ) (k offset amount : ℕ) : Type 0 where
  pub inside : k * len + offset + amount ≤ length image
  pub erased : window (k * len + offset) amount image ≡ replicate amount 255
  pub short : length image ≤ VOLUME_MAX

-- A record is written into a sector that is open.
module _ (count len : ℕ) (image : List ℕ) (first many tail used free : ℕ) (records : List RecordRef) (h : Describes count len image first many tail used free records)
    (k : ℕ) (nodes : List Node) (left : ℕ) (o : IsOpenSector count len image k nodes left) (n : Node) (lawful : is_lawful n ≡ true) (fits : fits_rest n.kind (dsize n) (len / 4) left ≡ true) where
  short : record_len n ≤ left
  short = record_short count len image k nodes left o n lawful fits

  open_ready : IsReady count len image k (sum_by record_len nodes) (record_len n)
  open_ready = record {
    inside = open_inside count len image k nodes left o (record_len n) short;
    erased = open_erased count len image k nodes left o (record_len n) short;
    short = image_small count len image h.sizes h.whole;
  }

  abbrev last : Numbered
  last = (k, sector_of (sector_after count len image k nodes left o (spelling n)))

  reads : last.1 ≡ record { erased = false; reading = record { nodes = nodes ++ n ∷ []; ending = Free } }
  reads = whole_reads count len image k nodes left o n lawful fits

  -- the whole record stands there, where that sector is the last of the log
  open_appended : (older blank : List Numbered) (more : ℕ) (by_sector : List (List Node)) → IsRing first (sectors_in count len (replaced (k * len + sum_by record_len nodes) (spelling n) image)) (older ++ last ∷ []) blank
      → flat_map records_in (older ++ last ∷ []) ≡ flat_map records_in h.held ++ placed_at k (sum_by record_len nodes) n ∷ [] → length older + 1 ≡ more → nodes_by_sector (older ++ last ∷ []) ≡ by_sector
      → Appended count len image first more (left - record_len n) records n by_sector k (sum_by record_len nodes)
  open_appended older blank more by_sector ring logs counted sectors =
      let enough = short in
      let long = length_spelled n lawful in
      let room = open_ready.inside in
      let one = length-append older (last ∷ []) in (
        record {
          sizes = h.sizes;
          whole = length-replaced (k * len + sum_by record_len nodes) (spelling n) image (omega arith) ∙ h.whole;
          held = older ++ last ∷ [];
          blank = blank;
          ring = ring;
          counted = omega arith;
          sound = sound_whole count len image k nodes left o n lawful fits h.sound;
          room = inr (record {
            older = older;
            last = last;
            nodes = nodes ++ n ∷ [];
            end = refl;
            number = refl;
            opened = whole_open count len image k nodes left o n lawful fits;
            filled = sum_more nodes n;
          });
          exact = sym (free_at_end len older last (nodes ++ n ∷ []) (left - record_len n) reads (
              let sum = sum_more nodes n in
              let r = room_is count len image k nodes left o in
              omega arith));
          listed = ap (λ (xs : List RecordRef). xs ++ ref_of (placed_at k (sum_by record_len nodes) n) ∷ []) h.listed ∙ sym (refs_more (flat_map records_in h.held) _ (placed_at k (sum_by record_len nodes) n) logs);
        },
        ring_live first _ (older ++ last ∷ []) blank ring ∙ logs
            ∙ ap (λ (xs : List Placed). xs ++ placed_at k (sum_by record_len nodes) n ∷ []) (sym (described_live count len image first many tail used free records h)),
        ap nodes_by_sector (ring_log first _ (older ++ last ∷ []) blank ring).0 ∙ sectors,
        ap (λ (xs : List Numbered). is_clean_tail (last_or None xs)) (ring_log first _ (older ++ last ∷ []) blank ring).0 ∙ clean_at_end older last nodes n reads,
      )

  -- what a failed write leaves there: the whole record, or the log as it was
  open_cut : (more : ℕ) (by_sector : List (List Node)) → Appended count len image first more (left - record_len n) records n by_sector k (sum_by record_len nodes)
      → ((part : List ℕ) → length part ≤ left → 64 ≤ length part → get_or part 7 0 ≢ 0 → HasRing first (sectors_in count len (replaced (k * len + sum_by record_len nodes) part image)) (flat_map records_in h.held))
      → (new : List ℕ) → IsWritten (k * len + sum_by record_len nodes) n image new → Cut count len image new n k (sum_by record_len nodes)
  open_cut more by_sector all partly new written = subst (λ (xs : List ℕ). Cut count len image xs n k (sum_by record_len nodes)) (sym written.rest) (by_state written.part written.state)
    where
      by_state : (part : List ℕ) → (part ≡ spelling n) ⊎ ((length part ≡ record_len n) × (get_or part 7 0 ≢ 0)) → Cut count len image (replaced (k * len + sum_by record_len nodes) part image) n k (sum_by record_len nodes)
      by_state part (inl whole) =
          subst (λ (xs : List ℕ). Cut count len image (replaced (k * len + sum_by record_len nodes) xs image) n k (sum_by record_len nodes)) (sym whole)
          (described_readable count len _ first more k (sum_by record_len nodes + record_len n) (left - record_len n) _ all.0, inr all.1)
      by_state part (inr open_gate) =
          let enough = short in
          let least = record_long n in
          let fits_part : length part ≤ left = omega (arith, open_gate.0) in
          let long_part : 64 ≤ length part = omega (arith, open_gate.0) in
          let r = partly part fits_part long_part open_gate.1 in (
            ring_readable first _ r.held r.blank r.ring (sound_part count len image k nodes left o part fits_part long_part open_gate.1 h.sound),
            inl (ring_live first _ r.held r.blank r.ring ∙ r.log_is ∙ sym (described_live count len image first many tail used free records h)),
          )

-- A record is written into the tail.
module _ (count len : ℕ) (image : List ℕ) (first many tail used free : ℕ) (records : List RecordRef) (n : Node) (h : Describes count len image first many tail used free records)
    (lawful : is_lawful n ≡ true) (fits : fits_rest n.kind (dsize n) (len / 4) free ≡ true) where
  t : HasTail count len image h.held tail used free
  t = tail_of count len image h.held tail used free n h.room fits

  tail_ring : IsRing first (sectors_in count len image) (t.older ++ t.last ∷ []) h.blank
  tail_ring = subst (λ (xs : List Numbered). IsRing first (sectors_in count len image) xs h.blank) t.end h.ring

  -- that sector is the tail, and its records take the bytes that are used
  in_tail : (P : ℕ → ℕ → Type 0) → P t.last.0 (sum_by record_len t.nodes) → P tail used
  in_tail P x = subst (P tail) (sym t.filled) (subst (λ j. P j (sum_by record_len t.nodes)) t.number x)

  pub tail_ready : IsReady count len image tail used (record_len n)
  tail_ready = in_tail (λ k u. IsReady count len image k u (record_len n)) (open_ready count len image first many tail used free records h t.last.0 t.nodes free t.opened n lawful fits)

  tail_open : Appended count len image first many (free - record_len n) records n (in_last n (logged count len image)) t.last.0 (sum_by record_len t.nodes)
  tail_open =
      let new = tail_whole first count len image t.older h.blank t.last t.nodes free t.opened tail_ring n lawful fits in
      let last = tail_after first count len image t.older h.blank t.last t.nodes free t.opened tail_ring (spelling n) in
      let held = ap length t.end ∙ length-append t.older (t.last ∷ []) in
      let c = h.counted in
      open_appended count len image first many tail used free records h t.last.0 t.nodes free t.opened n lawful fits t.older h.blank many _ new.0
      (new.1 ∙ ap (λ (xs : List Numbered). flat_map records_in xs ++ placed_at t.last.0 (sum_by record_len t.nodes) n ∷ []) (sym t.end))
      (omega arith)
      (by_sector_more t.older t.last last n (
      ap (λ (s : Sector). s.reading.nodes) (whole_reads count len image t.last.0 t.nodes free t.opened n lawful fits)
      ∙ ap (λ (ns : List Node). ns ++ n ∷ []) (sym (tail_nodes first count len image t.older h.blank t.last t.nodes free t.opened tail_ring)))
      ∙ ap (λ (xs : List Numbered). in_last n (nodes_by_sector xs)) (sym ((ring_log first (sectors_in count len image) h.held h.blank h.ring).0 ∙ t.end)))

  pub tail_appended : Appended count len image first many (free - record_len n) records n (in_last n (logged count len image)) tail used
  tail_appended = in_tail (Appended count len image first many (free - record_len n) records n (in_last n (logged count len image))) tail_open

  pub tail_cut : (new : List ℕ) → IsWritten (tail * len + used) n image new → Cut count len image new n tail used
  tail_cut new = in_tail (λ k u. IsWritten (k * len + u) n image new → Cut count len image new n k u)
      (open_cut count len image first many tail used free records h t.last.0 t.nodes free t.opened n lawful fits many _ tail_open
      (λ part short long gate.
      let left = tail_part first count len image t.older h.blank t.last t.nodes free t.opened tail_ring part short long gate in
      record { held = left.held; blank = left.blank; ring = left.ring; log_is = left.log_is ∙ ap (flat_map records_in) (sym t.end) }) new)

-- The first erased sector, where another one stays erased.
record HasNext (first count len : ℕ) (image : List ℕ) (held : List Numbered) (next : ℕ) : Type 0 where
  sector : Numbered
  others : List Numbered
  ring : IsRing first (sectors_in count len image) held (sector ∷ others)
  some : 1 ≤ length others
  number : sector.0 ≡ next

next_of : (first count len : ℕ) (image : List ℕ) (held blank : List Numbered) (many next : ℕ) → IsRing first (sectors_in count len image) held blank → length held ≡ many → many + 2 ≤ count → IsAt first count many next
    → HasNext first count len image held next
next_of first count len image held [] many next h counted room at =
    let e = ring_lengths first (sectors_in count len image) held [] h in
    let f = length-sectors_in count len image in
    absurd (omega arith)
next_of first count len image held (b ∷ blank) many next h counted room at =
    let e = ring_lengths first (sectors_in count len image) held (b ∷ blank) h in
    let f = length-sectors_in count len image in
    let there = number_in_ring first (sectors_in count len image) held blank b h.inside h.order in
    record {
      sector = b;
      others = blank;
      ring = h;
      some = omega arith;
      number = at_once first count many b.0 next (subst (λ j. IsAt first count j b.0) counted (subst (λ m. IsAt first m (length held) b.0) f there)) at;
    }

-- A record is written into the next sector.
module _ (count len : ℕ) (image : List ℕ) (first many tail used free next : ℕ) (records : List RecordRef) (n : Node) (h : Describes count len image first many tail used free records)
    (room : many + 2 ≤ count) (at : IsAt first count many next) (lawful : is_lawful n ≡ true) (fits : fits_rest n.kind (dsize n) (len / 4) len ≡ true) where
  x : HasNext first count len image h.held next
  x = next_of first count len image h.held h.blank many next h.ring h.counted room at

  opened : IsOpenSector count len image x.sector.0 [] len
  opened = next_open first count len image h.held x.others x.sector h.whole x.ring x.some

  pub next_ready : IsReady count len image next 0 (record_len n)
  next_ready = subst (λ k. IsReady count len image k 0 (record_len n)) x.number (open_ready count len image first many tail used free records h x.sector.0 [] len opened n lawful fits)

  next_opened : Appended count len image first (many + 1) (len - record_len n) records n (logged count len image ++ (n ∷ []) ∷ []) x.sector.0 0
  next_opened =
      let new = next_whole first count len image h.held x.others x.sector h.whole x.ring x.some n lawful fits in
      let last = next_after first count len image h.held x.others x.sector h.whole x.ring x.some (spelling n) in
      open_appended count len image first many tail used free records h x.sector.0 [] len opened n lawful fits h.held x.others (many + 1) _ new.0 new.1
      (ap (λ k. k + 1) h.counted)
      (map-append (λ (s : Numbered). s.1.reading.nodes) h.held (last ∷ [])
      ∙ ap (λ (ns : List Node). nodes_by_sector h.held ++ ns ∷ []) (ap (λ (s : Sector). s.reading.nodes) (whole_reads count len image x.sector.0 [] len opened n lawful fits))
      ∙ ap (λ (xs : List Numbered). nodes_by_sector xs ++ (n ∷ []) ∷ []) (sym (ring_log first (sectors_in count len image) h.held h.blank h.ring).0))

  pub next_appended : Appended count len image first (many + 1) (len - record_len n) records n (logged count len image ++ (n ∷ []) ∷ []) next 0
  next_appended = subst (λ j. Appended count len image first (many + 1) (len - record_len n) records n (logged count len image ++ (n ∷ []) ∷ []) j 0) x.number next_opened

  pub next_cut : (new : List ℕ) → IsWritten (next * len + 0) n image new → Cut count len image new n next 0
  next_cut new = subst (λ k. IsWritten (k * len + 0) n image new → Cut count len image new n k 0) x.number
      (open_cut count len image first many tail used free records h x.sector.0 [] len opened n lawful fits (many + 1) _ next_opened
      (next_part first count len image h.held x.others x.sector h.whole x.ring x.some) new)

pub described_inside : (count len : ℕ) (image : List ℕ) (first many tail used free : ℕ) (records : List RecordRef) → Describes count len image first many tail used free records → (first < count) × (count ≤ MAX_SECTORS)
described_inside count len image first many tail used free records h =
    let f = length-sectors_in count len image in
    let i = h.ring.inside in
    (omega arith, (sizes_small count len h.sizes).0)
