-- A record is written into the free part of a sector: what the image's sectors are then.
use Rattle.std.proofs.Common.{◌≡◌, ◌≢◌, ℕ, zero, suc, ◌+◌, ◌-◌, ◌*◌, ◌/◌, ◌<◌, ◌≤◌, Bool, true, false, cond, List, [], ◌∷◌, ◌++◌, length, take, drop, replicate, set, get_or, sum_by, sym, ap, subst, ◌∙◌, arith, length-append}
use Rattle.std.proofs.lemmas.List.{length-map, length-replicate, drop-drop, get_or-set_same, get_or_default}
use Rattle.std.proofs.Math.ListN.{get_or-map}
use Rattle.jffs_node.specs.declared.node.Node.{Node}
use Rattle.jffs_node.specs.declared.read.Read.TheVariants.{Free, Torn}
use Rattle.jffs_node.specs.Record.{spelling, record_len, dsize, is_lawful, fits_rest}
use Rattle.jffs_node.specs.Reading.{Reading, is_erased, reading}
use Rattle.jffs_node.proofs.Found.{all_same, length_spelled}
use Rattle.jffs_flash.specs.Image.{replaced}
use Rattle.jffs_log.specs.Image.{Sector, sector_of}
use Rattle.jffs_log.specs.Sector.{spellings, HoldsNodes}
use Rattle.jffs_log.specs.Volume.{split, sector_bytes, sectors_in}
use Rattle.jffs_log.specs.Live.{IsGoodEnding, IsOpenSector}
use Rattle.jffs_log.proofs.ring.SectorSpellings.{length_spellings, rest_fits, reading_open, erased_open, not_erased, whole_written, part_written, part_open}
use Rattle.jffs_log.proofs.ring.Volume.{sector_fits, length-sector, length-split, length-replaced, split_replaced, sectors_replaced}

pub length-sectors_in : (count len : ℕ) (image : List ℕ) → length (sectors_in count len image) ≡ count
length-sectors_in count len image = length-map (split count len image) sector_of ∙ length-split count len image

pub get_or-split : (count len k : ℕ) (image d : List ℕ) → k < count → get_or (split count len image) k d ≡ sector_bytes len k image
get_or-split zero len k image d h = absurd (omega arith)
get_or-split (suc count) len zero image d h = let there : 0 ≡ 0 * len = omega arith in ap (λ j. take len (drop j image)) there
get_or-split (suc count) len (suc k) image d h =
    let there : len + k * len ≡ suc k * len = omega arith in
    get_or-split count len k (drop len image) d (omega arith) ∙ ap (take len) (drop-drop (k * len) len image) ∙ ap (λ j. take len (drop j image)) there

pub get_or-sectors_in : (count len k : ℕ) (image : List ℕ) (d : Sector) → k < count → get_or (sectors_in count len image) k d ≡ sector_of (sector_bytes len k image)
get_or-sectors_in count len k image d h =
    let many = length-sectors_in count len image in
    get_or_default (sectors_in count len image) k d (sector_of []) (omega arith)
    ∙ get_or-map sector_of (split count len image) k []
    ∙ ap sector_of (get_or-split count len k image [] h)

module _ (count len : ℕ) (image : List ℕ) (k : ℕ) (nodes : List Node) (free : ℕ) (h : IsOpenSector count len image k nodes free) where
  abbrev pub offset : ℕ
  offset = sum_by record_len nodes

  abbrev pub sector_after : List ℕ → List ℕ
  sector_after part = replaced offset part (sector_bytes len k image)

  abbrev pub image_after : List ℕ → List ℕ
  image_after part = replaced (k * len + offset) part image

  pub inside : k * len + len ≤ count * len
  inside = sector_fits count len k h.below

  pub sector_long : length (sector_bytes len k image) ≡ len
  sector_long = length-sector count len k image h.whole h.below

  pub room_is : offset + free ≡ len
  room_is =
      let front = length_spellings (length (sector_bytes len k image) / 4) (length (sector_bytes len k image)) nodes h.holds.fit in
      let e : length {A = ℕ} (replicate free 255) ≡ free = length-replicate free 255 in
      let f = ap length h.holds.spelled ∙ length-append (spellings nodes) (replicate free 255) in
      let g = sector_long in
      omega arith

  pub sectors_after : (part : List ℕ) → length part ≤ free → sectors_in count len (image_after part) ≡ set (sectors_in count len image) k (sector_of (sector_after part))
  sectors_after part short = let r = room_is in sectors_replaced count len k offset part image h.below (omega arith) h.whole

  -- a whole record
  module _ (n : Node) (lawful : is_lawful n ≡ true) (fits : fits_rest n.kind (dsize n) (len / 4) free ≡ true) where
    pub record_short : record_len n ≤ free
    record_short = rest_fits n.kind (dsize n) (len / 4) free fits

    pub whole_holds : HoldsNodes (sector_after (spelling n)) (nodes ++ n ∷ []) (replicate (free - record_len n) 255)
    whole_holds = whole_written (sector_bytes len k image) nodes free n h.holds lawful (subst (λ z. fits_rest n.kind (dsize n) (z / 4) free ≡ true) (sym sector_long) fits)

    not_erased_more : (ns : List Node) (rest : List ℕ) → is_erased (spellings (ns ++ n ∷ []) ++ rest) ≡ false
    not_erased_more [] rest = not_erased n [] rest
    not_erased_more (m ∷ ns) rest = not_erased m (ns ++ n ∷ []) rest

    pub whole_reads : sector_of (sector_after (spelling n)) ≡ record { erased = false; reading = record { nodes = nodes ++ n ∷ []; ending = Free } }
    whole_reads =
        let f = free - record_len n in
        let e : is_erased (sector_after (spelling n)) ≡ false = ap is_erased whole_holds.spelled ∙ not_erased_more nodes (replicate f 255) in
        let r : reading (sector_after (spelling n)) ≡ record { nodes = nodes ++ n ∷ []; ending = Free } =
        reading_open (sector_after (spelling n)) (nodes ++ n ∷ []) (replicate f 255) whole_holds (erased_open f)
        ∙ ap (λ b. record { nodes = nodes ++ n ∷ []; ending = cond b Free Torn }) (all_same f 255) in
        λ i. record { erased = e i; reading = r i }

    pub whole_open : IsOpenSector count len (image_after (spelling n)) k (nodes ++ n ∷ []) (free - record_len n)
    whole_open =
        let r = room_is in
        let i = inside in
        let w = h.whole in
        let s = record_short in
        let l = length_spelled n lawful in
        let same : sector_bytes len k (image_after (spelling n)) ≡ sector_after (spelling n) =
        sym (get_or-split count len k (image_after (spelling n)) [] h.below)
        ∙ ap (λ (xs : List (List ℕ)). get_or xs k []) (split_replaced count len k offset (spelling n) image h.below (omega arith) h.whole)
        ∙ get_or-set_same (split count len image) k (sector_after (spelling n)) [] (let m = length-split count len image in let b = h.below in omega arith) in
        record {
          whole = length-replaced (k * len + offset) (spelling n) image (omega arith) ∙ h.whole;
          below = h.below;
          holds = subst (λ (xs : List ℕ). HoldsNodes xs (nodes ++ n ∷ []) (replicate (free - record_len n) 255)) (sym same) whole_holds;
        }

  -- part of a record, whose gate is open
  module _ (part : List ℕ) (short : length part ≤ free) (long : 64 ≤ length part) (gate : get_or part 7 0 ≢ 0) where
    abbrev left : List ℕ
    left = part ++ replicate (free - length part) 255

    pub part_reads : reading (sector_after part) ≡ record { nodes = nodes; ending = cond (is_erased left) Free Torn }
    part_reads = reading_open (sector_after part) nodes left (part_written (sector_bytes len k image) part nodes free h.holds short) (part_open part (free - length part) long gate)

    pub part_sound : IsGoodEnding (reading (sector_after part)).ending
    part_sound = subst (λ (r : Reading). IsGoodEnding r.ending) (sym part_reads) (sound (is_erased left))
      where
        sound : (b : Bool) → IsGoodEnding (cond b Free Torn)
        sound true = tt
        sound false = tt

    pub part_used : is_erased (sector_bytes len k image) ≡ false → is_erased (sector_after part) ≡ false
    part_used used = by_nodes nodes h.holds.spelled (part_written (sector_bytes len k image) part nodes free h.holds short).spelled
      where
        by_nodes : (ns : List Node) → sector_bytes len k image ≡ spellings ns ++ replicate free 255 → sector_after part ≡ spellings ns ++ left → is_erased (sector_after part) ≡ false
        by_nodes [] e f = let a : is_erased (sector_bytes len k image) ≡ true = ap is_erased e ∙ all_same free 255 in cc
        by_nodes (m ∷ ns) e f = ap is_erased f ∙ not_erased m ns left
