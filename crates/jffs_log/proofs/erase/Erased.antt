-- What the index of a log owes where the oldest sector is erased.
use Rattle.std.proofs.Common.{◌≡◌, ◌≢◌, ◌⊎◌, inl, inr, ℕ, ◌+◌, ◌-◌, ◌*◌, ◌<◌, ◌≤◌, true, cond, List, [], ◌∷◌, ◌++◌, length, drop, map, flat_map, replicate, set, get_or, refl, sym, ap, subst, ◌∙◌, arith, append_assoc, length-append, Option, None}
use Rattle.std.specs.List.{last_or, enumerate_from, AllByRecursion}
use Rattle.std.proofs.Math.Seq.{drop-length}
use Rattle.std.proofs.lemmas.List.{append-nil, length-replicate, map-set, map-append, get_or-set_other}
use Rattle.jffs_node.specs.declared.read.Read.TheVariants.{Free, Torn}
use Rattle.jffs_flash.specs.Image.{replaced, erased}
use Rattle.jffs_log.specs.declared.log_index.RecordRef.{RecordRef}
use Rattle.jffs_log.specs.Image.{Sector, Placed, sector_of, placed_from, records_in, turned, log_sectors, free_of_tail}
use Rattle.jffs_log.specs.Sector.{HoldsNodes}
use Rattle.jffs_log.specs.Volume.{split, sector_bytes, sectors_in}
use Rattle.jffs_log.specs.Ring.{IsRing, IsAt, IsNext}
use Rattle.jffs_log.specs.Live.{IsGoodEnding}
use Rattle.jffs_log.specs.LogIndex.{ref_of, HasTail, Describes, placed_at, from_other}
use Rattle.jffs_node.specs.declared.node.Node.{Node}
use Rattle.jffs_node.specs.Record.{record_len}
use Rattle.jffs_node.proofs.Found.{all_same}
use Rattle.std.proofs.lemmas.Bool.{eq-eqb, ne_eqb}
use Rattle.jffs_log.proofs.ring.SectorSpellings.{reading_open, erased_open}
use Rattle.jffs_log.proofs.ring.Ring.{Numbered, ring_log, ring_erase, ring_lengths, number_in_ring, at_once}
use Rattle.jffs_log.proofs.ring.Volume.{sector_fits, length-sector, length-replaced, split_replaced}
use Rattle.jffs_log.proofs.append.Open.{length-sectors_in, get_or-split}
use Rattle.jffs_log.proofs.ring.Live.{sound_set}

-- a sector of erased bytes
pub blank_sector : (len : ℕ) → sector_of (replicate len 255) ≡ record { erased = true; reading = record { nodes = []; ending = Free } }
blank_sector len =
    let holds : HoldsNodes (replicate len 255) [] (replicate len 255) = record { spelled = refl; fit = tt } in
    let r = reading_open (replicate len 255) [] (replicate len 255) holds (erased_open len) ∙ ap (λ b. record { nodes = []; ending = cond b Free Torn }) (all_same len 255) in
    λ i. record { erased = all_same len 255 i; reading = r i }

pub split_erased : (count len k : ℕ) (image : List ℕ) → length image ≡ count * len → k < count → split count len (erased len k image) ≡ set (split count len image) k (replicate len 255)
split_erased count len k image whole below =
    let ones : length {A = ℕ} (replicate len 255) ≡ len = length-replicate len 255 in
    let bytes = sector_bytes len k image in
    let long = length-sector count len k image whole below in
    let at : k * len ≡ k * len + 0 = omega arith in
    let all : 0 + length {A = ℕ} (replicate len 255) ≡ length bytes = omega arith in
    ap (λ (j : ℕ). split count len (replaced j (replicate len 255) image)) at
    ∙ split_replaced count len k 0 (replicate len 255) image below (omega arith) whole
    ∙ ap (λ (j : ℕ). set (split count len image) k (replicate len 255 ++ drop j bytes)) all
    ∙ ap (λ (xs : List ℕ). set (split count len image) k (replicate len 255 ++ xs)) (drop-length bytes)
    ∙ ap (set (split count len image) k) (append-nil (replicate len 255))

length-erased : (count len k : ℕ) (image : List ℕ) → length image ≡ count * len → k < count → length (erased len k image) ≡ count * len
length-erased count len k image whole below =
    let ones : length {A = ℕ} (replicate len 255) ≡ len = length-replicate len 255 in
    let fits = sector_fits count len k below in
    length-replaced (k * len) (replicate len 255) image (omega arith) ∙ whole

-- the other sectors stay
other_bytes : (count len k j : ℕ) (image : List ℕ) → length image ≡ count * len → k < count → j < count → j ≢ k → sector_bytes len j (erased len k image) ≡ sector_bytes len j image
other_bytes count len k j image whole below there other =
    sym (get_or-split count len j (erased len k image) [] there)
    ∙ ap (λ (xs : List (List ℕ)). get_or xs j []) (split_erased count len k image whole below)
    ∙ get_or-set_other (split count len image) k j (replicate len 255) [] other
    ∙ get_or-split count len j image [] there

-- the sectors that stay have the tail
older_part : (older rest : List Numbered) (o last : Numbered) → o ∷ rest ≡ older ++ last ∷ [] → 1 ≤ length rest → (more : List Numbered) × (older ≡ o ∷ more) × (rest ≡ more ++ last ∷ [])
older_part [] rest o last e long = absurd (let f = ap length e in omega arith)
older_part (p ∷ older) rest o last e long = (older, ap (λ (x : Numbered). x ∷ older) (ap (cons_head p) (sym e)), ap (drop 1) e)
  where
    cons_head : Numbered → List Numbered → Numbered
    cons_head d xs = get_or xs 0 d

-- The oldest sector is erased, and another sector stays: its records are gone, and no other.
pub record IsErasedOldest (count len : ℕ) (old new : List ℕ) (first next left tail used free : ℕ) (records : List RecordRef) : Type 0 where
  pub oldest : Numbered
  pub number : oldest.0 ≡ first
  pub sectors : log_sectors (sectors_in count len old) ≡ oldest ∷ log_sectors (sectors_in count len new)
  pub others : List RecordRef
  pub listed : records ≡ map ref_of (records_in oldest) ++ others
  pub forgets : from_other oldest.0 others ≡ others
  pub index : Describes count len new next left tail used free others

-- where one is left, the last is the same without the first
last_longer : (n : Option Numbered) (o : Numbered) (rest : List Numbered) → 1 ≤ length rest → last_or n (o ∷ rest) ≡ last_or n rest
last_longer n o [] h = absurd (omega arith)
last_longer n o (x ∷ rest) h = refl

-- no sector after the first in the ring has its number
elsewhere : (first : ℕ) (sectors : List Sector) (o : Numbered) (between rest blank : List Numbered) → first < length sectors
    → turned first (enumerate_from 0 sectors) ≡ o ∷ (between ++ (rest ++ blank)) → AllByRecursion (λ s. s.0 ≢ first) rest
elsewhere first sectors o between [] blank inside order = tt
elsewhere first sectors o between (t ∷ rest) blank inside order =
    let there = number_in_ring first sectors (o ∷ between) (rest ++ blank) t inside order in (
      λ same. elim there [ inl at ↦ absurd (omega arith) | inr at ↦ absurd (omega arith) ],
      elsewhere first sectors o (between ++ t ∷ []) rest blank inside (order ∙ ap (λ (xs : List Numbered). o ∷ xs) (sym (append_assoc between (t ∷ []) (rest ++ blank)))),
    )

-- the oldest sector is the first of the ring, and no other has its number
pub oldest_alone : (first : ℕ) (sectors : List Sector) (o : Numbered) (rest blank : List Numbered) → IsRing first sectors (o ∷ rest) blank → (o.0 ≡ first) × AllByRecursion (λ s. s.0 ≢ first) rest
oldest_alone first sectors o rest blank ring =
    let there = number_in_ring first sectors [] (rest ++ blank) o ring.inside ring.order in (
      at_once first (length sectors) 0 o.0 first there (inl (omega arith, ring.inside)),
      elsewhere first sectors o [] rest blank ring.inside ring.order,
    )

-- the records of a sector are forgotten
pub placed_go : (k offset : ℕ) (nodes : List Node) (others : List RecordRef) → from_other k (map ref_of (placed_from k offset nodes) ++ others) ≡ from_other k others
placed_go k offset [] others = refl
placed_go k offset (n ∷ nodes) others =
    let later = map ref_of (placed_from k (offset + record_len n) nodes) ++ others in
    ap (λ t. cond t (from_other k later) (ref_of (placed_at k offset n) ∷ later)) (eq-eqb k k refl) ∙ placed_go k (offset + record_len n) nodes others

-- and those of other sectors stay
placed_stay : (k : ℕ) (s : Numbered) (rest : List Placed) (nodes : List Node) → s.0 ≢ k → from_other k (map ref_of rest) ≡ map ref_of rest
    → from_other k (map ref_of (placed_from s.0 0 nodes ++ rest)) ≡ map ref_of (placed_from s.0 0 nodes ++ rest)
placed_stay k s rest [] other later = later
placed_stay k s rest (n ∷ nodes) other later =
    let more = map ref_of (placed_from s.0 (0 + record_len n) nodes ++ rest) in
    ap (λ t. cond t (from_other k more) (ref_of (placed_at s.0 0 n) ∷ more)) (ne_eqb s.0 k other)

other_stays : (k : ℕ) (rest : List Numbered) → AllByRecursion (λ s. s.0 ≢ k) rest → from_other k (map ref_of (flat_map records_in rest)) ≡ map ref_of (flat_map records_in rest)
other_stays k [] h = refl
other_stays k (s ∷ rest) h = placed_stay k s (flat_map records_in rest) s.1.reading.nodes h.0 (other_stays k rest h.1)

pub oldest_erased : (count len : ℕ) (image : List ℕ) (first many tail used free next : ℕ) (records : List RecordRef) → Describes count len image first many tail used free records → 2 ≤ many → IsNext first count next
    → IsErasedOldest count len image (erased len first image) first next (many - 1) tail used free records
oldest_erased count len image first many tail used free next records h several is = by_held h.held refl
  where
    by_held : (held : List Numbered) → h.held ≡ held → IsErasedOldest count len image (erased len first image) first next (many - 1) tail used free records
    by_held [] e = let c = h.counted in let f = ap length e in absurd (omega arith)
    by_held (o ∷ rest) e =
        let sectors = sectors_in count len image in
        let new = erased len first image in
        let many_sectors = length-sectors_in count len image in
        let i = h.ring.inside in
        let c = h.counted in
        let below : first < count = omega arith in
        let long : length (o ∷ rest) ≡ many = ap length (sym e) ∙ c in
        let ring = subst (λ (xs : List Numbered). IsRing first sectors xs h.blank) e h.ring in
        let alone = oldest_alone first sectors o rest h.blank ring in
        let number : o.0 ≡ first = alone.0 in
        let s = sector_of (replicate len 255) in
        let blank = blank_sector len in
        let changed : sectors_in count len new ≡ set sectors first s = ap (map sector_of) (split_erased count len first image h.whole below) ∙ map-set sector_of (split count len image) first (replicate len 255) in
        let turned_ring = ring_erase first next sectors o rest h.blank s ring (subst (λ m. IsNext first m next) (sym many_sectors) is) (ap (λ (x : Sector). x.erased) blank) in
        let ring_new : IsRing next (sectors_in count len new) rest (h.blank ++ (o.0, s) ∷ []) =
        subst (λ ss. IsRing next ss rest (h.blank ++ (o.0, s) ∷ [])) (ap (λ k. set sectors k s) number ∙ sym changed) turned_ring in
        let both : map ref_of (flat_map records_in h.held) ≡ map ref_of (records_in o) ++ map ref_of (flat_map records_in rest) =
        ap (λ (xs : List Numbered). map ref_of (flat_map records_in xs)) e ∙ map-append ref_of (records_in o) (flat_map records_in rest) in
        let sound = subst (AllByRecursion (λ x. IsGoodEnding x.reading.ending)) (sym changed) (sound_set sectors first s h.sound (subst (λ (x : Sector). IsGoodEnding x.reading.ending) (sym blank) tt)) in
        record {
          oldest = o;
          number = number;
          sectors = (ring_log first sectors h.held h.blank h.ring).0 ∙ e ∙ ap (λ (xs : List Numbered). o ∷ xs) (sym (ring_log next (sectors_in count len new) rest (h.blank ++ (o.0, s) ∷ []) ring_new).0);
          others = map ref_of (flat_map records_in rest);
          listed = h.listed ∙ both;
          forgets = other_stays o.0 rest (subst (λ (k : ℕ). AllByRecursion (λ x. x.0 ≢ k) rest) (sym number) alone.1);
          index = record {
            sizes = h.sizes;
            whole = length-erased count len first image h.whole below;
            held = rest;
            blank = h.blank ++ (o.0, s) ∷ [];
            ring = ring_new;
            counted = omega arith;
            sound = sound;
            room = room rest o e long below h.room;
            exact = h.exact ∙ ap (free_of_tail len) (ap (last_or None) e ∙ last_longer None o rest (omega arith));
            listed = refl;
          };
        }
      where
        room : (rest : List Numbered) (o : Numbered) → h.held ≡ o ∷ rest → length (o ∷ rest) ≡ many → first < count → (free ≡ 0) ⊎ HasTail count len image h.held tail used free
            → (free ≡ 0) ⊎ HasTail count len (erased len first image) rest tail used free
        room rest o e long below (inl none) = inl none
        room rest o e long below (inr t) =
            let part = older_part t.older rest o t.last (sym e ∙ t.end) (omega arith) in
            let sectors = sectors_in count len image in
            let many_sectors = length-sectors_in count len image in
            let lengths = ring_lengths first sectors h.held h.blank h.ring in
            let blanks = h.ring.some in
            let c = h.counted in
            let order = subst (λ (xs : List Numbered). IsRing first sectors xs h.blank) t.end h.ring in
            let there = subst (λ m. IsAt first m (length t.older) t.last.0) many_sectors (number_in_ring first sectors t.older h.blank t.last h.ring.inside (order.order ∙ append_assoc t.older (t.last ∷ []) h.blank)) in
            let sum = ap length t.end ∙ length-append t.older (t.last ∷ []) in
            let other : t.last.0 ≢ first = λ same. elim there [ inl at ↦ absurd (omega arith) | inr at ↦ absurd (omega arith) ] in
            let below_last = t.opened.below in
            inr (record {
              older = part.0;
              last = t.last;
              nodes = t.nodes;
              end = part.2;
              number = t.number;
              opened = record {
                whole = length-erased count len first image h.whole below;
                below = t.opened.below;
                holds = subst (λ (xs : List ℕ). HoldsNodes xs t.nodes (replicate free 255)) (sym (other_bytes count len first t.last.0 image h.whole below below_last other)) t.opened.holds;
              };
              filled = t.filled;
            })
