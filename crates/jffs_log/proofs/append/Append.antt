-- What the log of an image is after a record was written, whole or in part.
use Rattle.std.proofs.Common.{◌≡◌, ◌≢◌, ℕ, ◌+◌, ◌*◌, ◌/◌, ◌<◌, ◌≤◌, Bool, true, false, List, [], ◌∷◌, ◌++◌, length, flat_map, replicate, get_or, sum_by, refl, sym, ap, subst, ◌∙◌, arith, append_assoc}
use Rattle.std.specs.List.{enumerate_from}
use Rattle.std.proofs.lemmas.Grind.{flat_map-append}
use Rattle.std.proofs.lemmas.List.{append-nil}
use Rattle.std.proofs.lemmas.List.Sums.{sum_by-cons}
use Rattle.jffs_node.specs.declared.node.Node.{Node}
use Rattle.jffs_node.specs.Record.{spelling, record_len, dsize, is_lawful, fits_rest}
use Rattle.jffs_node.specs.Reading.{Reading, is_erased}
use Rattle.jffs_node.proofs.Found.{length_spelled}
use Rattle.jffs_node.proofs.Each.{each_front}
use Rattle.jffs_node.proofs.Sound.{only}
use Rattle.jffs_log.specs.Image.{Sector, Placed, sector_of, placed_from, records_in, turned}
use Rattle.jffs_log.specs.Volume.{sector_bytes, sectors_in}
use Rattle.jffs_log.specs.Ring.{IsRing}
use Rattle.jffs_log.specs.Live.{IsOpenSector}
use Rattle.jffs_log.proofs.ring.SectorSpellings.{reading_open, erased_open}
use Rattle.jffs_log.proofs.ring.Ring.{Numbered, ring_tail, ring_next, ring_stays, ring_reads}
use Rattle.jffs_log.proofs.append.Open.{length-sectors_in, get_or-sectors_in, sector_after, image_after, sectors_after, sector_long, record_short, whole_reads, part_reads, part_used}

placed_more : (sector at : ℕ) (nodes : List Node) (n : Node) → placed_from sector at (nodes ++ n ∷ []) ≡ placed_from sector at nodes ++ record { sector = sector; offset = at + sum_by record_len nodes; node = n } ∷ []
placed_more sector at [] n = let same : at ≡ at + 0 = omega arith in ap (λ k. record { sector = sector; offset = k; node = n } ∷ []) same
placed_more sector at (m ∷ nodes) n =
    let e = sum_by-cons record_len m nodes in
    let same : at + record_len m + sum_by record_len nodes ≡ at + sum_by record_len (m ∷ nodes) = omega arith in
    ap (λ (xs : List Placed). record { sector = sector; offset = at; node = m } ∷ xs)
    (placed_more sector (at + record_len m) nodes n ∙ ap (λ k. placed_from sector (at + record_len m) nodes ++ record { sector = sector; offset = k; node = n } ∷ []) same)

records_end : (older : List Numbered) (t : Numbered) → flat_map records_in (older ++ t ∷ []) ≡ flat_map records_in older ++ records_in t
records_end older t = flat_map-append records_in older (t ∷ []) ∙ ap (λ (xs : List Placed). flat_map records_in older ++ xs) (append-nil (records_in t))

-- the tail's records with one more
end_more : (older : List Numbered) (k : ℕ) (s t : Sector) (nodes : List Node) (n : Node) → s.reading.nodes ≡ nodes → t.reading.nodes ≡ nodes ++ n ∷ []
    → flat_map records_in (older ++ (k, t) ∷ []) ≡ flat_map records_in (older ++ (k, s) ∷ []) ++ record { sector = k; offset = sum_by record_len nodes; node = n } ∷ []
end_more older k s t nodes n e f =
    let front = flat_map records_in older in
    let zero_first : 0 + sum_by record_len nodes ≡ sum_by record_len nodes = omega arith in
    records_end older (k, t)
    ∙ ap (λ (ns : List Node). front ++ placed_from k 0 ns) f
    ∙ ap (λ (xs : List Placed). front ++ xs) (placed_more k 0 nodes n ∙ ap (λ j. placed_from k 0 nodes ++ record { sector = k; offset = j; node = n } ∷ []) zero_first)
    ∙ sym (append_assoc front (placed_from k 0 nodes) (record { sector = k; offset = sum_by record_len nodes; node = n } ∷ []))
    ∙ ap (λ (ns : List Node). front ++ placed_from k 0 ns ++ record { sector = k; offset = sum_by record_len nodes; node = n } ∷ []) (sym e)
    ∙ ap (λ (xs : List Placed). xs ++ record { sector = k; offset = sum_by record_len nodes; node = n } ∷ []) (sym (records_end older (k, s)))

end_same : (older : List Numbered) (k : ℕ) (s t : Sector) → s.reading.nodes ≡ t.reading.nodes → flat_map records_in (older ++ (k, t) ∷ []) ≡ flat_map records_in (older ++ (k, s) ∷ [])
end_same older k s t e = records_end older (k, t) ∙ ap (λ (ns : List Node). flat_map records_in older ++ placed_from k 0 ns) (sym e) ∙ sym (records_end older (k, s))

-- a sector without records at the end
end_none : (held : List Numbered) (k : ℕ) (t : Sector) → t.reading.nodes ≡ [] → flat_map records_in (held ++ (k, t) ∷ []) ≡ flat_map records_in held
end_none held k t e = records_end held (k, t) ∙ ap (λ (ns : List Node). flat_map records_in held ++ placed_from k 0 ns) e ∙ append-nil (flat_map records_in held)

-- the sectors of a ring that was read from an image
pub ring_sector : (first count len : ℕ) (image : List ℕ) (xs ys : List Numbered) (t : Numbered) → first < length (sectors_in count len image) → turned first (enumerate_from 0 (sectors_in count len image)) ≡ xs ++ t ∷ ys
    → (t.0 < count) × (t.1 ≡ sector_of (sector_bytes len t.0 image))
ring_sector first count len image xs ys t inside order =
    let found = ring_reads first (sectors_in count len image) xs ys t inside order in
    let many = length-sectors_in count len image in
    let below : t.0 < count = omega (arith, found.0) in
    (below, found.1 ∙ get_or-sectors_in count len t.0 image t.1 below)

-- An erased sector is open.
pub blank_open : (first count len : ℕ) (image : List ℕ) (held blank : List Numbered) (b : Numbered) → length image ≡ count * len → IsRing first (sectors_in count len image) held (b ∷ blank)
    → IsOpenSector count len image b.0 [] len
blank_open first count len image held blank b whole h =
    let there = ring_sector first count len image held blank b h.inside h.order in
    let bytes = sector_bytes len b.0 image in
    let erased : is_erased bytes ≡ true = ap (λ (s : Sector). s.erased) (sym there.1) ∙ h.unused.0 in
    let filled = only 255 bytes erased in
    let any : IsOpenSector count len image b.0 [] (length bytes) = record { whole = whole; below = there.0; holds = record { spelled = filled; fit = tt } } in
    subst (IsOpenSector count len image b.0 []) (sector_long count len image b.0 [] (length bytes) any) any

-- The ring has this log.
pub record HasRing (first : ℕ) (sectors : List Sector) (log : List Placed) : Type 0 where
  pub held : List Numbered
  pub blank : List Numbered
  pub ring : IsRing first sectors held blank
  pub log_is : flat_map records_in held ≡ log

-- What is written into the tail.
module _ (first count len : ℕ) (image : List ℕ) (older blank : List Numbered) (t : Numbered) (nodes : List Node) (free : ℕ)
    (h : IsOpenSector count len image t.0 nodes free) (ring : IsRing first (sectors_in count len image) (older ++ t ∷ []) blank) where
  tail_is : t.1 ≡ sector_of (sector_bytes len t.0 image)
  tail_is = (ring_sector first count len image older blank t ring.inside (ring.order ∙ append_assoc older (t ∷ []) blank)).1

  pub tail_nodes : t.1.reading.nodes ≡ nodes
  tail_nodes =
      ap (λ (s : Sector). s.reading.nodes) tail_is
      ∙ ap (λ (r : Reading). r.nodes) (reading_open (sector_bytes len t.0 image) nodes (replicate free 255) h.holds (erased_open free))

  tail_used : is_erased (sector_bytes len t.0 image) ≡ false
  tail_used = ap (λ (s : Sector). s.erased) (sym tail_is) ∙ (each_front (λ s. s.1.erased ≡ false) older (t ∷ []) ring.used).1.0

  abbrev pub tail_after : List ℕ → Numbered
  tail_after part = (t.0, sector_of (sector_after count len image t.0 nodes free h part))

  pub tail_whole : (n : Node) → is_lawful n ≡ true → fits_rest n.kind (dsize n) (len / 4) free ≡ true
      → IsRing first (sectors_in count len (image_after count len image t.0 nodes free h (spelling n))) (older ++ tail_after (spelling n) ∷ []) blank
      × (flat_map records_in (older ++ tail_after (spelling n) ∷ []) ≡ flat_map records_in (older ++ t ∷ []) ++ record { sector = t.0; offset = sum_by record_len nodes; node = n } ∷ [])
  tail_whole n lawful fits =
      let reads = whole_reads count len image t.0 nodes free h n lawful fits in
      let short = record_short count len image t.0 nodes free h n lawful fits in
      let long = length_spelled n lawful in (
        subst (λ ss. IsRing first ss (older ++ tail_after (spelling n) ∷ []) blank) (sym (sectors_after count len image t.0 nodes free h (spelling n) (omega arith)))
            (ring_tail first (sectors_in count len image) older t blank (tail_after (spelling n)).1 ring (ap (λ (s : Sector). s.erased) reads)),
        end_more older t.0 t.1 (tail_after (spelling n)).1 nodes n tail_nodes (ap (λ (s : Sector). s.reading.nodes) reads),
      )

  pub tail_part : (part : List ℕ) → length part ≤ free → 64 ≤ length part → get_or part 7 0 ≢ 0
      → HasRing first (sectors_in count len (image_after count len image t.0 nodes free h part)) (flat_map records_in (older ++ t ∷ []))
  tail_part part short long gate = record {
    held = older ++ tail_after part ∷ [];
    blank = blank;
    ring = subst (λ ss. IsRing first ss (older ++ tail_after part ∷ []) blank) (sym (sectors_after count len image t.0 nodes free h part short))
        (ring_tail first (sectors_in count len image) older t blank (tail_after part).1 ring (part_used count len image t.0 nodes free h part short long gate tail_used));
    log_is = end_same older t.0 t.1 (tail_after part).1 (tail_nodes ∙ sym (ap (λ (r : Reading). r.nodes) (part_reads count len image t.0 nodes free h part short long gate)));
  }

-- What is written into the first erased sector.
module _ (first count len : ℕ) (image : List ℕ) (held blank : List Numbered) (b : Numbered) (whole : length image ≡ count * len)
    (ring : IsRing first (sectors_in count len image) held (b ∷ blank)) (some : 1 ≤ length blank) where
  pub next_open : IsOpenSector count len image b.0 [] len
  next_open = blank_open first count len image held blank b whole ring

  abbrev pub next_after : List ℕ → Numbered
  next_after part = (b.0, sector_of (sector_after count len image b.0 [] len next_open part))

  pub next_whole : (n : Node) → is_lawful n ≡ true → fits_rest n.kind (dsize n) (len / 4) len ≡ true
      → IsRing first (sectors_in count len (image_after count len image b.0 [] len next_open (spelling n))) (held ++ next_after (spelling n) ∷ []) blank
      × (flat_map records_in (held ++ next_after (spelling n) ∷ []) ≡ flat_map records_in held ++ record { sector = b.0; offset = 0; node = n } ∷ [])
  next_whole n lawful fits =
      let reads = whole_reads count len image b.0 [] len next_open n lawful fits in
      let short = record_short count len image b.0 [] len next_open n lawful fits in
      let long = length_spelled n lawful in (
        subst (λ ss. IsRing first ss (held ++ next_after (spelling n) ∷ []) blank) (sym (sectors_after count len image b.0 [] len next_open (spelling n) (omega arith)))
            (ring_next first (sectors_in count len image) held b blank (next_after (spelling n)).1 ring some (ap (λ (s : Sector). s.erased) reads)),
        records_end held (next_after (spelling n)) ∙ ap (λ (s : Sector). flat_map records_in held ++ placed_from b.0 0 s.reading.nodes) reads,
      )

  pub next_part : (part : List ℕ) → length part ≤ len → 64 ≤ length part → get_or part 7 0 ≢ 0
      → HasRing first (sectors_in count len (image_after count len image b.0 [] len next_open part)) (flat_map records_in held)
  next_part part short long gate = by_erased (is_erased (sector_after count len image b.0 [] len next_open part)) refl
    where
      by_erased : (e : Bool) → is_erased (sector_after count len image b.0 [] len next_open part) ≡ e → HasRing first (sectors_in count len (image_after count len image b.0 [] len next_open part)) (flat_map records_in held)
      by_erased true is = record {
        held = held;
        blank = next_after part ∷ blank;
        ring = subst (λ ss. IsRing first ss held (next_after part ∷ blank)) (sym (sectors_after count len image b.0 [] len next_open part short))
            (ring_stays first (sectors_in count len image) held b blank (next_after part).1 ring is);
        log_is = refl;
      }
      by_erased false is = record {
        held = held ++ next_after part ∷ [];
        blank = blank;
        ring = subst (λ ss. IsRing first ss (held ++ next_after part ∷ []) blank) (sym (sectors_after count len image b.0 [] len next_open part short))
            (ring_next first (sectors_in count len image) held b blank (next_after part).1 ring some is);
        log_is = end_none held b.0 (next_after part).1 (ap (λ (r : Reading). r.nodes) (part_reads count len image b.0 [] len next_open part short long gate));
      }
