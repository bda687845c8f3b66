-- The answer of a scan, and the cause of a refusal.
use Rattle.std.proofs.Common.{◌≡◌, ◌⊎◌, inl, inr, ℕ, ◌-◌, ◌/◌, ◌<◌, Bool, true, false, cond, not, List, [], ◌∷◌, ◌++◌, length, map, filter, flat_map, reverse, get_or, Some, None, Result, Ok, Err, refl, sym, ap, subst, ◌∙◌, arith}
use Rattle.std.specs.List.{list_any, last_or, AllByRecursion}
use Rattle.std.proofs.lemmas.List.FromFn.{length-enumerate_from}
use Rattle.jffs_node.specs.declared.node.Node.{Node}
use Rattle.jffs_flash.specs.Device.{Device as FlashDevice}
use Rattle.jffs_flash.specs.Sizes.{is_geometry}
use Rattle.jffs_tree.specs.declared.wish.Limits.{Limits}
use Rattle.jffs_inodes.specs.Inodes.{Tree}
use Rattle.jffs_tree.specs.Origin.{tree_of}
use Rattle.jffs_tree.specs.Check.{makes_tree}
use Rattle.jffs_log.specs.declared.log_index.LogIndex.{LogIndex}
use Rattle.jffs_log.specs.declared.scanning.ScanWhy.{ScanWhy}
use Rattle.jffs_log.specs.declared.scanning.ScanWhy.TheVariants.{Geometry, Device, BadRecord, NoErased, Scattered, BadOrder, BadTree, Memory}
use Rattle.jffs_log.specs.Image.{records_in, starts, oldest_of, is_one_run, turned, log_of, nodes_of, past_of, is_clean_tail, is_clean}
use Rattle.jffs_log.specs.Volume.{split, sectors_in}
use Rattle.jffs_log.specs.Scan.{Scanned, first_bad, versions_rise, or_refuse, unless, scan_sectors, scan}
use Rattle.jffs_log.specs.ScanRead.{oldest_sector, AreRead, IsReadFault}
use Rattle.jffs_log.specs.declared.shown.Shown.{Shown}
use Rattle.jffs_log.specs.Shown.{shown_device}
use Rattle.jffs_log.specs.Room.{following, greatest_inode, limits as limits_after}
use Rattle.jffs_log.specs.ScanFound.{last_version, nodes_held, scan_of, IsCause, IsFound, IsUnfound}
use Rattle.jffs_log.proofs.ring.Ring.{Numbered, sectors_of, sectors_numbered, ring_lengths}
use Rattle.jffs_log.proofs.ring.Volume.{length-split}
use Rattle.jffs_log.proofs.ring.Live.{geometry_passed, bad_passed, rest_of_causes, answer_on, scan_reads}
use Rattle.jffs_log.proofs.scans.ScanNumbers.{greatest_first, version_first}
use Rattle.jffs_log.proofs.scans.MountHistory.{IsLawful, log_lawful}
use Rattle.jffs_log.proofs.scans.ScanSectors.{all_sound, all_split}
use Rattle.jffs_log.proofs.scans.ScanIndex.{IsLocated, is_held, located, nodes_in}
use Rattle.jffs_log.proofs.append.Open.{length-sectors_in}

abbrev pub answer : ℕ → ℕ → List ℕ → Result Scanned ScanWhy
answer count len image = scan len (split count len image)

-- the sectors that were read, without their numbers
pub plain : (count len : ℕ) (image : List ℕ) (list : List Numbered) → AreRead count len image list → map (λ s. s.1) list ≡ sectors_in count len image
plain count len image list read = ap sectors_of read.read ∙ sym (sectors_numbered 0 (sectors_in count len image))

-- Refusals, in their order.
geometry_cause : (count len : ℕ) (image : List ℕ) → is_geometry count len ≡ false → answer count len image ≡ Err Geometry
geometry_cause count len image h =
    ap (λ k. cond (is_geometry k len) (scan_sectors (sectors_in count len image)) (Err Geometry)) (length-split count len image)
    ∙ ap (λ t. cond t (scan_sectors (sectors_in count len image)) (Err Geometry)) h

pub geometry_refused : (count len : ℕ) (image : List ℕ) (before after : ℕ) → is_geometry count len ≡ false → after ≡ before → IsCause Geometry before after (answer count len image)
geometry_refused count len image before after h same = (geometry_cause count len image h, same)

bad_cause : (count len : ℕ) (image : List ℕ) (why : ScanWhy) → is_geometry count len ≡ true → first_bad 0 (sectors_in count len image) ≡ Some why → answer count len image ≡ Err why
bad_cause count len image why sizes bad = geometry_passed count len image sizes ∙ ap (λ o. or_refuse o (rest_of_causes (sectors_in count len image))) bad

pub read_refused : (why : ScanWhy) (count len : ℕ) (image : List ℕ) (before after : ℕ) → is_geometry count len ≡ true → IsReadFault why before after (first_bad 0 (sectors_in count len image)) → IsCause why before after (answer count len image)
read_refused Device count len image before after sizes h = h
read_refused Memory count len image before after sizes h = h
read_refused Geometry count len image before after sizes h = (bad_cause count len image Geometry sizes h.0, h.1)
read_refused (BadRecord sector offset bad) count len image before after sizes h = (bad_cause count len image (BadRecord sector offset bad) sizes h.0, h.1)
read_refused NoErased count len image before after sizes h = (bad_cause count len image NoErased sizes h.0, h.1)
read_refused Scattered count len image before after sizes h = (bad_cause count len image Scattered sizes h.0, h.1)
read_refused BadOrder count len image before after sizes h = (bad_cause count len image BadOrder sizes h.0, h.1)
read_refused BadTree count len image before after sizes h = (bad_cause count len image BadTree sizes h.0, h.1)

oldest_cause : (some run : Bool) (k : ℕ) (why : ScanWhy) (later found : Result Scanned ScanWhy) (before after : ℕ)
    → ◌≡◌ {A = Result ℕ ScanWhy} (cond (not some) (Err NoErased) (cond (not run) (Err Scattered) (Ok k))) (Err why)
    → found ≡ cond (not some) (Err NoErased) (cond (not run) (Err Scattered) later) → after ≡ before → IsCause why before after found
oldest_cause true true k why later found before after h is same = cc
oldest_cause true false k why later found before after h is same = let e : Scattered ≡ why = cc in subst (λ w. IsCause w before after found) e (is, same)
oldest_cause false run k why later found before after h is same = let e : NoErased ≡ why = cc in subst (λ w. IsCause w before after found) e (is, same)

pub oldest_refused : (why : ScanWhy) (count len : ℕ) (image : List ℕ) (list : List Numbered) (before after : ℕ) → is_geometry count len ≡ true → AreRead count len image list
    → oldest_sector (map (λ s. s.1) list) ≡ Err why → after ≡ before → IsCause why before after (answer count len image)
oldest_refused why count len image list before after sizes read h same =
    let sectors = sectors_in count len image in
    oldest_cause (list_any (λ s. s.erased) sectors) (is_one_run sectors) (oldest_of (starts sectors)) why (answer_on sectors) (answer count len image) before after
    (sym (ap oldest_sector (plain count len image list read)) ∙ h)
    (bad_passed count len image sizes read.none)
    same

-- What a scan has found of the sectors.
pub record IsAll (count len : ℕ) (image : List ℕ) (first : ℕ) (held : List Numbered) : Type 0 where
  pub sizes : is_geometry count len ≡ true
  pub list : List Numbered
  pub read : AreRead count len image list
  pub log : IsLocated (sectors_in count len image) first held

abbrev pub checks : List Node → List (Bool × ScanWhy)
checks nodes = (not (versions_rise nodes), BadOrder) ∷ (not (makes_tree (reverse nodes)), BadTree) ∷ []

module _ (count len : ℕ) (image : List ℕ) (first : ℕ) (held : List Numbered) (all : IsAll count len image first held) where
  abbrev nodes : List Node
  nodes = nodes_held held

  pub log_nodes : nodes_of (log_of (sectors_in count len image)) ≡ nodes
  log_nodes = ap (λ (xs : List Numbered). nodes_of (flat_map records_in xs)) all.log.log ∙ nodes_in held

  pub held_lawful : AllByRecursion IsLawful nodes
  held_lawful =
      subst (AllByRecursion IsLawful) log_nodes
      (log_lawful count len image (all_split (λ (xs : List ℕ). (i : ℕ) → get_or xs i 0 < 256) count len image (λ k below. let spelled = all.read.spelled k below in spelled.bytes)))

  answer_is : answer count len image ≡ answer_on (sectors_in count len image)
  answer_is = scan_reads count len image all.sizes (record { sound = all_sound 0 (sectors_in count len image) all.read.none; erased = all.log.some; run = all.log.run })

  by_nodes : (scanned : Scanned) → unless (checks (nodes_of (log_of (sectors_in count len image)))) scanned ≡ unless (checks nodes) scanned
  by_nodes scanned = ap (λ (xs : List Node). unless (checks xs) scanned) log_nodes

  abbrev pub scanned : Scanned
  scanned = record { log = log_of (sectors_in count len image); tree = tree_of (past_of (log_of (sectors_in count len image))); clean = is_clean (sectors_in count len image) }

  pub order_refused : (why : ScanWhy) (before after : ℕ) → (why ≡ BadOrder) × (versions_rise nodes ≡ false) → after ≡ before → IsCause why before after (answer count len image)
  order_refused why before after h same =
      let e : answer count len image ≡ Err BadOrder =
      answer_is ∙ by_nodes scanned ∙ ap (λ t. cond (not t) (Err BadOrder) (cond (not (makes_tree (reverse nodes))) (Err BadTree) (Ok scanned))) h.1 in
      subst (λ w. IsCause w before after (answer count len image)) (sym h.0) (e, same)

  pub tree_refused : (why : ScanWhy) (before after : ℕ) → versions_rise nodes ≡ true → (why ≡ Memory) ⊎ ((why ≡ BadTree) × (makes_tree (reverse nodes) ≡ false)) → after ≡ before → IsCause why before after (answer count len image)
  tree_refused why before after rise (inl h) same = subst (λ w. IsCause w before after (answer count len image)) (sym h) same
  tree_refused why before after rise (inr h) same =
      let e : answer count len image ≡ Err BadTree =
      answer_is
      ∙ by_nodes scanned
      ∙ ap (λ t. cond (not t) (Err BadOrder) (cond (not (makes_tree (reverse nodes))) (Err BadTree) (Ok scanned))) rise
      ∙ ap (λ t. cond (not t) (Err BadTree) (Ok scanned)) h.1 in
      subst (λ w. IsCause w before after (answer count len image)) (sym h.0) (e, same)

  pub scan_is : (tree : Tree) (clean : Bool) → versions_rise nodes ≡ true → makes_tree (reverse nodes) ≡ true → tree ≡ tree_of (reverse nodes) → clean ≡ is_clean_tail (last_or None held)
      → answer count len image ≡ Ok (record { log = log_of (sectors_in count len image); tree = tree; clean = clean })
  scan_is tree clean rise lawful made ends =
      let same_tree : tree_of (past_of (log_of (sectors_in count len image))) ≡ tree = ap (λ (xs : List Node). tree_of (reverse xs)) log_nodes ∙ sym made in
      let same_clean : is_clean (sectors_in count len image) ≡ clean = ap (λ (xs : List Numbered). is_clean_tail (last_or None xs)) all.log.log ∙ sym ends in
      answer_is
      ∙ by_nodes scanned
      ∙ ap (λ t. cond (not t) (Err BadOrder) (cond (not (makes_tree (reverse nodes))) (Err BadTree) (Ok scanned))) rise
      ∙ ap (λ t. cond (not t) (Err BadTree) (Ok scanned)) lawful
      ∙ (λ i. Ok (record { log = log_of (sectors_in count len image); tree = same_tree i; clean = same_clean i }))

-- The sizes are those of the device.
pub cause_at : (why : ScanWhy) (before after count many len size : ℕ) (image : List ℕ) → count ≡ many → len ≡ size → IsCause why before after (answer count len image) → IsCause why before after (answer many size image)
cause_at why before after count many len size image same_count same_len h = subst (λ k. IsCause why before after (answer many k image)) same_len (subst (λ k. IsCause why before after (answer k len image)) same_count h)

-- No call has failed.
pub unmoved : (shown : Shown) (why : ScanWhy) (device after : FlashDevice) → after ≡ device → IsCause why device.faults device.faults (scan_of (shown_device shown device)) → IsUnfound shown device why after
unmoved shown why device after same cause = subst (λ (d : FlashDevice). IsUnfound shown device why d) (sym same) (record { cause = cause; rest = refl })

pub found_at : (count many len size : ℕ) (image : List ℕ) (index : LogIndex) (tree : Tree) (clean : Bool) (limits : Limits) → count ≡ many → len ≡ size → IsFound count len image index tree clean limits → IsFound many size image index tree clean limits
found_at count many len size image index tree clean limits same_count same_len h =
    subst (λ k. IsFound many k image index tree clean limits) same_len (subst (λ k. IsFound k len image index tree clean limits) same_count h)

-- where the log begins, and what of it is kept
pub located_in : (count len : ℕ) (image : List ℕ) (list : List Numbered) (first : ℕ) (held : List Numbered) → AreRead count len image list → Ok first ≡ oldest_sector (map (λ s. s.1) list)
    → held ≡ filter is_held (turned first list) → IsLocated (sectors_in count len image) first held
located_in count len image list first held read oldest is =
    subst (λ (xs : List Numbered). IsLocated (sectors_in count len image) first xs) (sym (is ∙ ap (λ (xs : List Numbered). filter is_held (turned first xs)) read.read))
    (located (sectors_in count len image) first (sym (oldest ∙ ap oldest_sector (plain count len image list read))))

pub described_in : (count len : ℕ) (image : List ℕ) (list : List Numbered) (first : ℕ) → AreRead count len image list → Ok first ≡ oldest_sector (map (λ s. s.1) list)
    → (rest : List Numbered) × (turned first list ≡ filter is_held (turned first list) ++ rest)
described_in count len image list first read oldest =
    let l = located_in count len image list first (filter is_held (turned first list)) read oldest refl in
    (l.blank, ap (turned first) read.read ∙ l.ring.order)

-- the first sector and the sectors of the log are below their number
pub first_below : (count len : ℕ) (image : List ℕ) (list : List Numbered) (first : ℕ) → AreRead count len image list → Ok first ≡ oldest_sector (map (λ s. s.1) list) → (first < count) × (length list ≡ count)
first_below count len image list first read oldest =
    let l = located_in count len image list first (filter is_held (turned first list)) read oldest refl in
    let inside = l.ring.inside in
    let many = length-sectors_in count len image in
    let e = ap length read.read ∙ length-enumerate_from 0 (sectors_in count len image) in
    (omega arith, omega arith)

pub held_below : (count len : ℕ) (image : List ℕ) (first : ℕ) (held : List Numbered) → IsLocated (sectors_in count len image) first held → length held < count
held_below count len image first held l =
    let e = ring_lengths first (sectors_in count len image) held l.blank l.ring in
    let some = l.ring.some in
    let many = length-sectors_in count len image in
    omega arith

-- the numbers that come next
pub limits_are : (len : ℕ) (nodes : List Node) (limits : Limits) (inode version : ℕ) → limits.data_max ≡ len / 4 - 64 → limits.next_inode ≡ following inode → limits.next_version ≡ following version
    → inode ≡ greatest_inode nodes → version ≡ last_version nodes → limits ≡ limits_after len (reverse nodes)
limits_are len nodes limits inode version data_max next_inode next_version inodes versions =
    λ i. record { data_max = data_max i; next_inode = (next_inode ∙ ap following (inodes ∙ greatest_first nodes)) i; next_version = (next_version ∙ ap following versions ∙ version_first nodes) i }
