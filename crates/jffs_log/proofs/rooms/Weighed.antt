-- The weight of the records of an index, and how many there are.
use Rattle.std.proofs.Common.{◌≡◌, ℕ, zero, suc, ◌+◌, ◌*◌, ◌/◌, ◌^◌, ◌<◌, ◌≤◌, Bool, true, false, cond, ◌&&◌, eqb, List, [], ◌∷◌, length, take, drop, map, filter, flat_map, sum_by, refl, sym, ap, subst, ◌∙◌, arith, length-append}
use Rattle.std.specs.List.{sum, enumerate_from, AllByRecursion}
use Rattle.std.proofs.Math.Nat.{mul-le-mul_right}
use Rattle.std.proofs.lemmas.List.{length-take, length-map}
use Rattle.std.proofs.lemmas.List.Sums.{sum-map, sum_by-cons}
use Rattle.jffs_flash.specs.declared.sizes.TheConstants.{MAX_SECTORS}
use Rattle.jffs_node.specs.declared.node.Node.{Node}
use Rattle.jffs_node.specs.declared.read.Read.{Read}
use Rattle.jffs_node.specs.declared.read.Read.TheVariants.{Closed, Free, Torn, Bad}
use Rattle.jffs_node.specs.Record.{record_len}
use Rattle.jffs_node.specs.Reading.{found, reading_of}
use Rattle.jffs_node.proofs.Each.{each_front}
use Rattle.jffs_inodes.specs.Inodes.{Tree}
use Rattle.jffs_tree.specs.Look.{holds_version}
use Rattle.jffs_log.specs.declared.log_index.RecordRef.{RecordRef}
use Rattle.jffs_log.specs.Image.{Sector, Placed, placed_from, records_in}
use Rattle.jffs_log.specs.Volume.{sectors_in}
use Rattle.jffs_log.specs.Live.{live_log}
use Rattle.jffs_log.specs.LogIndex.{ref_of, Describes, lives_in, weight_in, live_in}
use Rattle.jffs_log.proofs.ring.Ring.{Numbered, ring_lengths}
use Rattle.jffs_log.proofs.append.Open.{length-sectors_in}
use Rattle.jffs_log.proofs.append.Appended.{described_live, sizes_small}
use Rattle.jffs_log.proofs.scans.MountedLog.{after_found, each_turned, each_numbered}

abbrev ref_lives : Tree → RecordRef → Bool
ref_lives tree k = holds_version tree k.inode k.version

weight_by : (tree : Tree) (log : List Placed) → sum_by (λ (k : RecordRef). k.length) (filter (ref_lives tree) (map ref_of log)) ≡ weight_in tree log
weight_by tree [] = refl
weight_by tree (p ∷ log) =
    let rest = filter (ref_lives tree) (map ref_of log) in
    let others = filter (lives_in tree) log in
    let later = weight_by tree log in
    elim (lives_in tree p) as (λ t. sum_by (λ (k : RecordRef). k.length) (cond t (ref_of p ∷ rest) rest) ≡ sum_by (λ (q : Placed). record_len q.node) (cond t (p ∷ others) others)) [
      | true ↦ sum_by-cons (λ (k : RecordRef). k.length) (ref_of p) rest ∙ ap (λ s. record_len p.node + s) later ∙ sym (sum_by-cons (λ (q : Placed). record_len q.node) p others)
      | false ↦ later
    ]

count_by : (sector : ℕ) (tree : Tree) (log : List Placed) → length (filter (λ (k : RecordRef). eqb k.sector sector && ref_lives tree k) (map ref_of log)) ≡ live_in sector tree log
count_by sector tree [] = refl
count_by sector tree (p ∷ log) =
    let rest = filter (λ (k : RecordRef). eqb k.sector sector && ref_lives tree k) (map ref_of log) in
    let others = filter (λ (q : Placed). eqb q.sector sector && lives_in tree q) log in
    let later = count_by sector tree log in
    elim (eqb p.sector sector && lives_in tree p) as (λ t. length (cond t (ref_of p ∷ rest) rest) ≡ length (cond t (p ∷ others) others)) [
      | true ↦ ap (λ n. suc n) later
      | false ↦ later
    ]

-- A sector has few records.
few_found : (more record_max : ℕ) (rest : List ℕ) (f : Read) → ((r : List ℕ) → length (reading_of more record_max r).nodes ≤ more)
    → length (after_found more record_max rest f).nodes ≤ suc more
few_found more record_max rest (Closed n len) later = let l = later (drop len rest) in omega arith
few_found more record_max rest Free later = omega arith
few_found more record_max rest Torn later = omega arith
few_found more record_max rest (Bad why) later = omega arith

few : (more record_max : ℕ) (rest : List ℕ) → length (reading_of more record_max rest).nodes ≤ more
few zero record_max rest = omega arith
few (suc more) record_max rest = few_found more record_max rest (found record_max rest) (few more record_max)

abbrev IsFew : ℕ → Sector → Type 0
IsFew most s = length s.reading.nodes ≤ most

all_few : (count len : ℕ) (image : List ℕ) → AllByRecursion (IsFew (len / 64)) (sectors_in count len image)
all_few zero len image = tt
all_few (suc count) len image =
    let bytes = take len image in
    let here = few (length bytes / 64) (length bytes / 4) bytes in
    let short : length bytes ≤ len = let e = length-take len image in omega arith in
    (omega arith, all_few count len (drop len image))

placed_count : (sector offset : ℕ) (nodes : List Node) → length (placed_from sector offset nodes) ≡ length nodes
placed_count sector offset [] = refl
placed_count sector offset (n ∷ nodes) = ap (λ k. suc k) (placed_count sector (offset + record_len n) nodes)

few_records : (most : ℕ) (held : List Numbered) → AllByRecursion (λ s. IsFew most s.1) held → length (flat_map records_in held) ≤ length held * most
few_records most [] h = omega arith
few_records most (s ∷ held) h =
    let later = few_records most held h.1 in
    let here = h.0 in
    let e = placed_count s.0 0 s.1.reading.nodes in
    let sum = length-append (records_in s) (flat_map records_in held) in
    omega arith

module _ (count len : ℕ) (image : List ℕ) (first many tail used free : ℕ) (records : List RecordRef) (h : Describes count len image first many tail used free records) where
  held_few : AllByRecursion (λ s. IsFew (len / 64) s.1) h.held
  held_few =
      let P : Numbered → Type 0 = λ s. IsFew (len / 64) s.1 in
      let n = enumerate_from 0 (sectors_in count len image) in
      let all : AllByRecursion P n = each_numbered (IsFew (len / 64)) 0 (sectors_in count len image) (all_few count len image) in
      (each_front P h.held h.blank (subst (AllByRecursion P) h.ring.order (each_turned P first n all))).0

  pub records_few : length records < 2 ^ 32
  records_few =
      let sizes = sizes_small count len h.sizes in
      let few_held = few_records (len / 64) h.held held_few in
      let lengths = ring_lengths first (sectors_in count len image) h.held h.blank h.ring in
      let sectors = length-sectors_in count len image in
      let short : length h.held ≤ MAX_SECTORS = let s = sizes.0 in omega arith in
      let bound = mul-le-mul_right (len / 64) short in
      let long = ap (λ (xs : List RecordRef). length xs) h.listed ∙ length-map (flat_map records_in h.held) ref_of in
      let small = sizes.1 in
      omega arith

  pub refs_weight : (tree : Tree) → sum (map (λ (k : RecordRef). k.length) (filter (λ (k : RecordRef). holds_version tree k.inode k.version) records)) ≡ weight_in tree (live_log count len image)
  refs_weight tree =
      sum-map (λ (k : RecordRef). k.length) (filter (ref_lives tree) records)
      ∙ ap (λ (ks : List RecordRef). sum_by (λ (k : RecordRef). k.length) (filter (ref_lives tree) ks)) (h.listed ∙ ap (map ref_of) (sym (described_live count len image first many tail used free records h)))
      ∙ weight_by tree (live_log count len image)

  pub refs_count : (sector : ℕ) (tree : Tree) → length (filter (λ (k : RecordRef). eqb k.sector sector && holds_version tree k.inode k.version) records) ≡ live_in sector tree (live_log count len image)
  refs_count sector tree =
      ap (λ (ks : List RecordRef). length (filter (λ (k : RecordRef). eqb k.sector sector && ref_lives tree k) ks)) (h.listed ∙ ap (map ref_of) (sym (described_live count len image first many tail used free records h)))
      ∙ count_by sector tree (live_log count len image)
