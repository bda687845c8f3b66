-- The oldest sector, which is dead, becomes one without records: the log goes on without it.
use Rattle.std.proofs.Common.{cond, ◌≡◌, ◌≢◌, ◌⊎◌, inl, inr, ℕ, zero, suc, ◌+◌, ◌-◌, ◌*◌, ◌<◌, ◌≤◌, Bool, true, false, ◌&&◌, leb, ltb, eqb, List, [], ◌∷◌, ◌++◌, length, drop, map, filter, flat_map, replicate, set, get_or, refl, sym, ap, subst, ◌∙◌, arith, length-append}
use Rattle.std.specs.List.{AllByRecursion}
use Rattle.std.proofs.Math.Seq.{drop-length}
use Rattle.std.proofs.lemmas.Bool.{cases_Bool, eq-eqb, ne_eqb, le-leb, lt-ltb}
use Rattle.std.proofs.lemmas.List.{append-nil, length-replicate, length-set, map-set, get_or-set_same}
use Rattle.jffs_node.specs.declared.node.Node.{Node}
use Rattle.jffs_node.specs.Record.{record_len}
use Rattle.jffs_flash.specs.Image.{replaced, erased, IsHalfErased}
use Rattle.jffs_inodes.specs.Inodes.{Tree}
use Rattle.jffs_tree.specs.Origin.{tree_of}
use Rattle.jffs_log.specs.Image.{Sector, Placed, sector_of, placed_from, records_in, records_in_first, log_sectors, log_of, starts, oldest_of, erased_count}
use Rattle.jffs_log.specs.Volume.{split, sector_bytes, sectors_in}
use Rattle.jffs_log.specs.Ring.{IsRing, IsNext}
use Rattle.jffs_log.specs.Live.{IsGoodEnding, IsReadable, live_log}
use Rattle.jffs_log.specs.LogIndex.{lives_in, live_in, placed_at}
use Rattle.jffs_log.specs.History.{IsLawfulHistory}
use Rattle.jffs_log.specs.Wear.{sector_after}
use Rattle.jffs_log.specs.Heal.{is_last_erased}
use Rattle.jffs_log.specs.Erasable.{MayErase}
use Rattle.jffs_log.proofs.ring.Ring.{Numbered, ring_log, ring_set, ring_erase, ring_lengths, ring_starts, start_of}
use Rattle.jffs_log.proofs.ring.RingFound.{ring_of}
use Rattle.jffs_log.proofs.ring.Live.{ring_live, ring_readable, sound_set}
use Rattle.jffs_log.proofs.ring.Volume.{length-sector, length-split, split_replaced}
use Rattle.jffs_log.proofs.append.Open.{length-sectors_in, get_or-split}
use Rattle.jffs_log.proofs.erase.Erased.{blank_sector, oldest_alone, split_erased}
use Rattle.jffs_log.proofs.erase.Wear.{next_after}
use Rattle.jffs_log.proofs.scans.MountedLog.{all_counted}
use Rattle.jffs_log.proofs.Histories.{erasing_keeps_history}

-- The oldest sector of such a log, and the others.
pub record Oldest (count len : ℕ) (image : List ℕ) (past : List Node) (k : ℕ) : Type 0 where
  pub sector : Sector
  pub rest : List Numbered
  pub blank : List Numbered
  pub ring : IsRing k (sectors_in count len image) ((k, sector) ∷ rest) blank
  pub some : 1 ≤ length rest
  pub below : k < count
  pub elsewhere : AllByRecursion (λ s. s.0 ≢ k) rest
  pub dead : AllByRecursion (λ p. lives_in (tree_of past) p ≡ false) (placed_from k 0 sector.reading.nodes)

pub oldest : (count len : ℕ) (image : List ℕ) (past : List Node) (k : ℕ) → MayErase count len image past k → Oldest count len image past k
oldest count len image past k h =
    let sectors = sectors_in count len image in
    let f = ring_of sectors h.history.readable.erased h.history.readable.run in
    let log = (ring_log (oldest_of (starts sectors)) sectors f.held f.blank f.ring).0 in
    by_held f.held f.blank (subst (λ j. IsRing j sectors f.held f.blank) (sym h.oldest) f.ring) log
  where
    by_held : (held blank : List Numbered) → IsRing k (sectors_in count len image) held blank → log_sectors (sectors_in count len image) ≡ held → Oldest count len image past k
    by_held [] blank ring log = let several = h.several in let none = ap length log in absurd (omega arith)
    by_held (o ∷ rest) blank ring log =
        let sectors = sectors_in count len image in
        let alone = oldest_alone k sectors o rest blank ring in
        let same : o ≡ (k, o.1) = λ i. (alone.0 i, o.1) in
        let several = h.several in
        let long = ap length log in
        let many = length-sectors_in count len image in
        let inside = ring.inside in
        let P : List Placed → Type 0 = AllByRecursion (λ p. lives_in (tree_of past) p ≡ false) in
        record {
          sector = o.1;
          rest = rest;
          blank = blank;
          ring = subst (λ (x : Numbered). IsRing k sectors (x ∷ rest) blank) same ring;
          some = omega arith;
          below = omega arith;
          elsewhere = alone.1;
          dead = subst (λ (j : ℕ). P (placed_from j 0 o.1.reading.nodes)) alone.0 (subst (λ (xs : List Numbered). P (records_in_first xs)) log h.dead);
        }

-- no record of another sector lives in that one
other_sector : (k j offset : ℕ) (tree : Tree) (nodes : List Node) (later : List Placed) → j ≢ k → live_in k tree (placed_from j offset nodes ++ later) ≡ live_in k tree later
other_sector k j offset tree [] later other = refl
other_sector k j offset tree (n ∷ nodes) later other =
    let p = placed_at j offset n in
    let more = filter (λ (q : Placed). eqb q.sector k && lives_in tree q) (placed_from j (offset + record_len n) nodes ++ later) in
    ap (λ b. length (cond (b && lives_in tree p) (p ∷ more) more)) (ne_eqb j k other) ∙ other_sector k j (offset + record_len n) tree nodes later other

pub none_elsewhere : (k : ℕ) (tree : Tree) (rest : List Numbered) → AllByRecursion (λ s. s.0 ≢ k) rest → live_in k tree (flat_map records_in rest) ≡ 0
none_elsewhere k tree [] h = refl
none_elsewhere k tree (s ∷ rest) h = other_sector k s.0 0 tree s.1.reading.nodes (flat_map records_in rest) h.0 ∙ none_elsewhere k tree rest h.1

-- and none of it where all are dead
dead_sector : (k j offset : ℕ) (tree : Tree) (nodes : List Node) (later : List Placed) → AllByRecursion (λ p. lives_in tree p ≡ false) (placed_from j offset nodes)
    → live_in k tree (placed_from j offset nodes ++ later) ≡ live_in k tree later
dead_sector k j offset tree [] later dead = refl
dead_sector k j offset tree (n ∷ nodes) later dead =
    let p = placed_at j offset n in
    let more = filter (λ (q : Placed). eqb q.sector k && lives_in tree q) (placed_from j (offset + record_len n) nodes ++ later) in
    ap (λ b. length (cond (eqb j k && b) (p ∷ more) more)) dead.0
    ∙ ap (λ b. length (cond b (p ∷ more) more)) (and_false (eqb j k))
    ∙ dead_sector k j (offset + record_len n) tree nodes later dead.1
  where
    and_false : (b : Bool) → (b && false) ≡ false
    and_false true = refl
    and_false false = refl

pub none_dead : (k : ℕ) (tree : Tree) (nodes : List Node) (rest : List Numbered) → AllByRecursion (λ p. lives_in tree p ≡ false) (placed_from k 0 nodes) → AllByRecursion (λ s. s.0 ≢ k) rest
    → live_in k tree (placed_from k 0 nodes ++ flat_map records_in rest) ≡ 0
none_dead k tree nodes rest dead elsewhere = dead_sector k k 0 tree nodes (flat_map records_in rest) dead ∙ none_elsewhere k tree rest elsewhere

-- the other way round
pub all_dead : (k offset : ℕ) (tree : Tree) (nodes : List Node) (later : List Placed) → live_in k tree (placed_from k offset nodes ++ later) ≡ 0 → AllByRecursion (λ p. lives_in tree p ≡ false) (placed_from k offset nodes)
all_dead k offset tree [] later none = tt
all_dead k offset tree (n ∷ nodes) later none =
    let p = placed_at k offset n in
    let more = filter (λ (q : Placed). eqb q.sector k && lives_in tree q) (placed_from k (offset + record_len n) nodes ++ later) in
    let here : length (cond (lives_in tree p) (p ∷ more) more) ≡ 0 = sym (ap (λ b. length (cond (b && lives_in tree p) (p ∷ more) more)) (eq-eqb k k refl)) ∙ none in
    let both = dead_here (lives_in tree p) p more here in
    (both.0, all_dead k (offset + record_len n) tree nodes later both.1)
  where
    dead_here : (b : Bool) (p : Placed) (more : List Placed) → length (cond b (p ∷ more) more) ≡ 0 → (b ≡ false) × (length more ≡ 0)
    dead_here true p more h = absurd (omega arith)
    dead_here false p more h = (refl, h)

module _ (count len : ℕ) (image : List ℕ) (past : List Node) (k : ℕ) (may : MayErase count len image past k) (o : Oldest count len image past k) where
  abbrev sectors : List Sector
  sectors = sectors_in count len image

  -- The ring with another sector in its place, one that isn't erased, and one that is.
  pub ring_other : (s : Sector) → s.erased ≡ false → IsRing k (set sectors k s) ((k, s) ∷ o.rest) o.blank
  ring_other s used = record {
    inside = subst (λ n. k < n) (sym (length-set sectors k s)) o.ring.inside;
    order = ring_set k sectors [] (o.rest ++ o.blank) (k, o.sector) o.ring.inside o.ring.order s;
    used = (used, o.ring.used.1);
    unused = o.ring.unused;
    some = o.ring.some;
  }

  pub ring_without : (s : Sector) → s.erased ≡ true → IsRing (sector_after count k) (set sectors k s) o.rest (o.blank ++ (k, s) ∷ [])
  ring_without s is_erased =
      ring_erase k (sector_after count k) sectors (k, o.sector) o.rest o.blank s o.ring
      (subst (λ n. IsNext k n (sector_after count k)) (sym (length-sectors_in count len image)) (next_after k count o.below)) is_erased

  -- So it holds the same log, with the records of that one.
  pub log_other : (s : Sector) → s.erased ≡ false → log_of (set sectors k s) ≡ placed_from k 0 s.reading.nodes ++ flat_map records_in o.rest
  log_other s used = ring_live k (set sectors k s) ((k, s) ∷ o.rest) o.blank (ring_other s used)

  pub log_old : live_log count len image ≡ placed_from k 0 o.sector.reading.nodes ++ flat_map records_in o.rest
  log_old = ring_live k sectors ((k, o.sector) ∷ o.rest) o.blank o.ring

  -- A sector without records leaves the log without them.
  pub emptied : (s : Sector) → s.reading.nodes ≡ [] → IsGoodEnding s.reading.ending → IsReadable (set sectors k s) × (log_of (set sectors k s) ≡ flat_map records_in o.rest)
  emptied s none good = elim (cases_Bool s.erased) [
    | inl is_erased ↦
        let ring = ring_without s is_erased in
        (ring_readable _ _ _ _ ring (sound_set sectors k s may.history.readable.sound good), ring_live _ _ _ _ ring)
    | inr used ↦ (
      ring_readable _ _ _ _ (ring_other s used) (sound_set sectors k s may.history.readable.sound good),
      log_other s used ∙ ap (λ (nodes : List Node). placed_from k 0 nodes ++ flat_map records_in o.rest) none,
    )
  ]

  -- and its history as it was
  pub history_without : (new : List ℕ) (s : Sector) → sectors_in count len new ≡ set sectors k s → s.reading.nodes ≡ [] → IsGoodEnding s.reading.ending
      → IsLawfulHistory count len new past × (live_log count len new ≡ flat_map records_in o.rest)
  history_without new s changed none good =
      let e = emptied s none good in
      let readable = subst IsReadable (sym changed) e.0 in
      let left : live_log count len new ≡ flat_map records_in o.rest = ap log_of changed ∙ e.1 in
      let gone = log_old ∙ ap (λ (xs : List Placed). placed_from k 0 o.sector.reading.nodes ++ xs) (sym left) in
      (erasing_keeps_history count len image new past (placed_from k 0 o.sector.reading.nodes) may.history readable gone o.dead, left)

  -- Once it is erased.
  pub sectors_erased : sectors_in count len (erased len k image) ≡ set sectors k (sector_of (replicate len 255))
  sectors_erased = ap (map sector_of) (split_erased count len k image may.whole o.below) ∙ map-set sector_of (split count len image) k (replicate len 255)

  pub history_erased : IsLawfulHistory count len (erased len k image) past × (live_log count len (erased len k image) ≡ flat_map records_in o.rest)
  history_erased =
      let blank = blank_sector len in
      history_without (erased len k image) (sector_of (replicate len 255)) sectors_erased (ap (λ (s : Sector). s.reading.nodes) blank)
      (subst (λ (s : Sector). IsGoodEnding s.reading.ending) (sym blank) tt)

  pub last_erased : is_last_erased k (sectors_in count len (erased len k image)) ≡ true
  last_erased =
      let s = sector_of (replicate len 255) in
      let new = set sectors k s in
      let ring = ring_without s (ap (λ (x : Sector). x.erased) (blank_sector len)) in
      let lengths = ring_lengths _ _ _ _ ring in
      let held = ap (λ (xs : List Numbered). length xs) (ring_log _ _ _ _ ring).0 in
      let counted = all_counted new in
      let more = length-append o.blank ((k, s) ∷ []) in
      let one = o.ring.some in
      let some = o.some in
      let many : length new ≡ count = length-set sectors k s ∙ length-sectors_in count len image in
      let begins : oldest_of (starts new) ≡ sector_after (length new) k =
      ap oldest_of (ring_starts _ _ _ _ ring) ∙ first_of o.rest some ∙ ap (λ n. sector_after n k) (sym many) in
      let two : 2 ≤ erased_count new = omega arith in
      let few : erased_count new < length new = omega arith in
      ap (is_last_erased k) sectors_erased
      ∙ (λ i. le-leb 2 (erased_count new) two i && lt-ltb (erased_count new) (length new) few i && eq-eqb (oldest_of (starts new)) (sector_after (length new) k) begins i)
    where
      first_of : (xs : List Numbered) → 1 ≤ length xs → oldest_of (start_of xs (sector_after count k)) ≡ sector_after count k
      first_of [] h = absurd (omega arith)
      first_of (x ∷ xs) h = refl

  -- Half erased.
  part_all : (left : List ℕ) → length left ≡ len → replaced 0 left (sector_bytes len k image) ≡ left
  part_all left long =
      let bytes = sector_bytes len k image in
      let whole = length-sector count len k image may.whole o.below in
      let all : 0 + length left ≡ length bytes = omega arith in
      ap (λ (j : ℕ). left ++ drop j bytes) all ∙ ap (λ (xs : List ℕ). left ++ xs) (drop-length bytes) ∙ append-nil left

  split_half : (left : List ℕ) → length left ≡ len → split count len (replaced (k * len) left image) ≡ set (split count len image) k left
  split_half left long =
      let at : k * len ≡ k * len + 0 = omega arith in
      ap (λ (j : ℕ). split count len (replaced j left image)) at
      ∙ split_replaced count len k 0 left image o.below (omega arith) may.whole
      ∙ ap (λ (xs : List ℕ). set (split count len image) k xs) (part_all left long)

  pub sectors_half : (left : List ℕ) → length left ≡ len → sectors_in count len (replaced (k * len) left image) ≡ set sectors k (sector_of left)
  sectors_half left long = ap (map sector_of) (split_half left long) ∙ map-set sector_of (split count len image) k left

  pub sector_half : (left : List ℕ) → length left ≡ len → sector_bytes len k (replaced (k * len) left image) ≡ left
  sector_half left long =
      let many = length-split count len image in
      let below = o.below in
      let there : k < length (split count len image) = omega arith in
      sym (get_or-split count len k (replaced (k * len) left image) [] o.below)
      ∙ ap (λ (xs : List (List ℕ)). get_or xs k []) (split_half left long)
      ∙ get_or-set_same (split count len image) k left [] there
