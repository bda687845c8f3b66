-- A mounted image is a session with a lawful log.
use Rattle.std.proofs.Common.{◌≡◌, ℕ, zero, suc, ◌+◌, ◌-◌, ◌/◌, ◌≤◌, ◌<◌, Bool, true, false, cond, not, ◌&&◌, leb, ltb, List, [], ◌∷◌, ◌++◌, length, map, filter, flat_map, take, drop, reverse, get_or, inl, inr, ⊎_elim, Option, Some, None, Result, Ok, Err, refl, sym, ap, subst, ◌∙◌, arith}
use Rattle.std.specs.List.{AllByRecursion, list_any, list_all, last_or, enumerate_from}
use Rattle.std.proofs.lemmas.Bool.{le-leb, ltb-true, lt-ltb, and_parts, and_from, not-false}
use Rattle.std.proofs.lemmas.List.{length-drop, length-append, length-map, get_or-drop, reverse-append, take-append-drop}
use Rattle.std.proofs.lemmas.List.Elements.{filter-append}
use Rattle.std.proofs.lemmas.List.Folds.{list_all-append}
use Rattle.std.proofs.lemmas.List.Filters.{length-filter_both}
use Rattle.jffs_node.specs.declared.node.Node.{Node}
use Rattle.jffs_node.specs.declared.read.Read.{Read}
use Rattle.jffs_node.specs.declared.read.Read.TheVariants.{Closed, Free, Torn, Bad}
use Rattle.jffs_node.specs.Record.{record_len, dsize, is_lawful, fits_rest}
use Rattle.jffs_node.specs.Reading.{Reading, found, reading_of, reading_len, after_record}
use Rattle.jffs_tree.specs.Origin.{tree_of}
use Rattle.jffs_tree.specs.Check.{each_fits, check, makes_tree}
use Rattle.jffs_log.specs.declared.scanning.ScanWhy.{ScanWhy}
use Rattle.jffs_log.specs.declared.scanning.ScanWhy.TheVariants as why
use Rattle.jffs_log.specs.Image.{Sector, Placed, sector_of, placed_from, records_in, turned, starts, oldest_of, is_one_run, log_sectors, log_of, nodes_of, past_of, erased_count, is_free, is_clean, free_of_tail}
use Rattle.jffs_node.proofs.Sound.{found_are_records}
use Rattle.jffs_node.proofs.Each.{each_append, each_front}
use Rattle.jffs_node.proofs.Lawfulness.{as_long}
use Rattle.jffs_node.proofs.Rules.{fits_rest_parts}
pub use Rattle.jffs_node.proofs.Rules.{ok_same}
use Rattle.jffs_log.specs.Cleaning.{used, stands_from, last_fits, keeps_length, versions_fall, is_history}
use Rattle.jffs_log.specs.Scan.{Scanned, versions_rise, first_bad, or_refuse, unless, scan_sectors, scan}
use Rattle.jffs_flash.specs.Sizes.{is_geometry}
use Rattle.jffs_log.specs.RoomLaws.{Among, MountsAreSound}
use Rattle.jffs_log.proofs.ring.Sectors.{used-cons, all_among}
use Rattle.jffs_log.proofs.append.Puts.{map_all}

-- A lawful node keeps the length, unless it is a file's.
pub lawful_keeps : (n : Node) → is_lawful n ≡ true → keeps_length n ≡ true
lawful_keeps n h = as_long n h

-- What a sector reads as stands in it.
abbrev pub Bytes : List ℕ → Type 0
Bytes rest = (i : ℕ) → get_or rest i 0 < 256

abbrev Stands : ℕ → ℕ → List Node → Type 0
Stands z offset nodes = (stands_from z offset nodes ≡ true) × (list_all keeps_length nodes ≡ true)

abbrev pub after_found : ℕ → ℕ → List ℕ → Read → Reading
after_found more record_max rest r = elim r [
  | Closed n len ↦ after_record (Closed n len) (reading_of more record_max (drop len rest))
  | Free ↦ record { nodes = []; ending = Free }
  | Torn ↦ record { nodes = []; ending = Torn }
  | Bad reason ↦ record { nodes = []; ending = Bad reason }
]

pub dropped_bytes : (k : ℕ) (rest : List ℕ) → Bytes rest → Bytes (drop k rest)
dropped_bytes k rest h i = let e = get_or-drop k rest i 0 in let l = h (k + i) in omega arith

reading_stands : (more z offset : ℕ) (rest : List ℕ) → Bytes rest → offset + length rest ≡ z → Stands z offset (reading_of more (z / 4) rest).nodes
reading_stands zero z offset rest b l = (refl, refl)
reading_stands (suc more) z offset rest b l = elim (found (z / 4) rest) as (λ r. found (z / 4) rest ≡ r → Stands z offset (after_found more (z / 4) rest r).nodes) [
  | Closed n len ↦ λ is.
      let known = found_are_records rest (z / 4) n len b is in
      let parts = fits_rest_parts n.kind (dsize n) (z / 4) (length rest) known.0.placed in
      let fits = parts.1 in
      let same : len ≡ record_len n = known.1 in
      let d = length-drop len rest in
      let at : length rest ≡ z - offset = omega arith in
      let later = reading_stands more z (offset + record_len n) (drop len rest) (dropped_bytes len rest b) (omega arith) in (
        and_from (fits_rest n.kind (dsize n) (z / 4) (z - offset)) (stands_from z (offset + record_len n) (reading_of more (z / 4) (drop len rest)).nodes)
            (subst (λ k. fits_rest n.kind (dsize n) (z / 4) k ≡ true) at known.0.placed) later.0,
        and_from (keeps_length n) (list_all keeps_length (reading_of more (z / 4) (drop len rest)).nodes) (lawful_keeps n known.0.lawful) later.1,
      )
  | Free ↦ λ is. (refl, refl)
  | Torn ↦ λ is. (refl, refl)
  | Bad reason ↦ λ is. (refl, refl)
] refl

-- Versions that rise fall when they are read backwards.
all_append : (p : Node → Bool) (xs ys : List Node) → list_all p xs ≡ true → list_all p ys ≡ true → list_all p (xs ++ ys) ≡ true
all_append p xs ys h k = list_all-append p xs ys ∙ and_from (list_all p xs) (list_all p ys) h k

pub reversed : (n : Node) (nodes : List Node) → reverse (n ∷ nodes) ≡ reverse nodes ++ n ∷ []
reversed n nodes = reverse-append (n ∷ []) nodes

pub all_reversed : (p : Node → Bool) (nodes : List Node) → list_all p nodes ≡ true → list_all p (reverse nodes) ≡ true
all_reversed p [] h = refl
all_reversed p (n ∷ nodes) h =
    let a = and_parts (p n) (list_all p nodes) h in
    ap (list_all p) (reversed n nodes) ∙ all_append p (reverse nodes) (n ∷ []) (all_reversed p nodes a.1) (and_from (p n) true a.0 refl)

falls_at_end : (xs : List Node) (n : Node) → versions_fall xs ≡ true → list_all (λ m. ltb n.version m.version) xs ≡ true → versions_fall (xs ++ n ∷ []) ≡ true
falls_at_end [] n h k = refl
falls_at_end (x ∷ xs) n h k =
    let a = and_parts (list_all (λ m. ltb m.version x.version) xs) (versions_fall xs) h in
    let b = and_parts (ltb n.version x.version) (list_all (λ m. ltb n.version m.version) xs) k in
    and_from (list_all (λ m. ltb m.version x.version) (xs ++ n ∷ [])) (versions_fall (xs ++ n ∷ []))
    (all_append (λ m. ltb m.version x.version) xs (n ∷ []) a.0 (and_from (ltb n.version x.version) true b.0 refl))
    (falls_at_end xs n a.1 b.1)

above : (v w : ℕ) (nodes : List Node) → v ≤ w → list_all (λ m. ltb w m.version) nodes ≡ true → list_all (λ m. ltb v m.version) nodes ≡ true
above v w [] l h = refl
above v w (n ∷ nodes) l h =
    let a = and_parts (ltb w n.version) (list_all (λ m. ltb w m.version) nodes) h in
    let b = ltb-true w n.version a.0 in
    and_from (ltb v n.version) (list_all (λ m. ltb v m.version) nodes) (lt-ltb v n.version (omega arith)) (above v w nodes l a.1)

rising : (n : Node) (nodes : List Node) → versions_rise (n ∷ nodes) ≡ true → (list_all (λ m. ltb n.version m.version) nodes ≡ true) × (versions_rise nodes ≡ true)
rising n [] h = (refl, refl)
rising n (m ∷ nodes) h =
    let a = and_parts (ltb n.version m.version) (versions_rise (m ∷ nodes)) h in
    let b = ltb-true n.version m.version a.0 in
    (and_from (ltb n.version m.version) (list_all (λ k. ltb n.version k.version) nodes) a.0 (above n.version m.version nodes (omega arith) (rising m nodes a.1).0), a.1)

pub falls_backwards : (nodes : List Node) → versions_rise nodes ≡ true → versions_fall (reverse nodes) ≡ true
falls_backwards [] h = refl
falls_backwards (n ∷ nodes) h =
    let a = rising n nodes h in
    ap versions_fall (reversed n nodes) ∙ falls_at_end (reverse nodes) n (falls_backwards nodes a.1) (all_reversed (λ m. ltb n.version m.version) nodes a.0)

-- Lists of which something holds throughout.
module _ {A : Type 0} (P : A → Type 0) where
  pub each_turned : (k : ℕ) (xs : List A) → AllByRecursion P xs → AllByRecursion P (turned k xs)
  each_turned k xs h =
      let parts = each_front P (take k xs) (drop k xs) (subst (AllByRecursion P) (sym (take-append-drop k xs)) h) in
      each_append P (drop k xs) (take k xs) parts.1 parts.0

  pub each_filtered : (p : A → Bool) (xs : List A) → AllByRecursion P xs → AllByRecursion P (filter p xs)
  each_filtered p [] h = tt
  each_filtered p (x ∷ xs) h =
      let later = each_filtered p xs h.1 in
      elim (p x) as (λ t. AllByRecursion P (cond t (x ∷ filter p xs) (filter p xs))) [ true ↦ (h.0, later) | false ↦ later ]

pub each_numbered : (P : Sector → Type 0) (k : ℕ) (sectors : List Sector) → AllByRecursion P sectors → AllByRecursion (λ (s : ℕ × Sector). P s.1) (enumerate_from k sectors)
each_numbered P k [] h = tt
each_numbered P k (s ∷ sectors) h = (h.0, each_numbered P (k + 1) sectors h.1)

abbrev nodes_in : (ℕ × Sector) → List Node
nodes_in s = s.1.reading.nodes

each_mapped : (P : List Node → Type 0) (sectors : List (ℕ × Sector)) → AllByRecursion (λ s. P (nodes_in s)) sectors → AllByRecursion P (map nodes_in sectors)
each_mapped P [] h = tt
each_mapped P (s ∷ sectors) h = (h.0, each_mapped P sectors h.1)

-- The sectors of an image stand.
sectors_stand : (z : ℕ) (image : List (List ℕ)) → AllByRecursion (λ bytes. (length bytes ≡ z) × Bytes bytes) image → AllByRecursion (λ s. Stands z 0 s.reading.nodes) (map sector_of image)
sectors_stand z [] h = tt
sectors_stand z (bytes ∷ image) h =
    let len = h.0.0 in
    (subst (λ k. Stands z 0 (reading_of (length bytes / 64) (k / 4) bytes).nodes) (sym len) (reading_stands (length bytes / 64) z 0 bytes h.0.1 (omega arith)), sectors_stand z image h.1)

log_stands : (z : ℕ) (sectors : List Sector) → AllByRecursion (λ s. Stands z 0 s.reading.nodes) sectors → AllByRecursion (λ s. Stands z 0 (nodes_in s)) (log_sectors sectors)
log_stands z sectors h =
    each_filtered (λ s. Stands z 0 (nodes_in s)) (λ s. not s.1.erased) (turned (oldest_of (starts sectors)) (enumerate_from 0 sectors))
    (each_turned (λ s. Stands z 0 (nodes_in s)) (oldest_of (starts sectors)) (enumerate_from 0 sectors) (each_numbered (λ s. Stands z 0 s.reading.nodes) 0 sectors h))

stands_used : (z offset : ℕ) (nodes : List Node) → offset ≤ z → stands_from z offset nodes ≡ true → offset + used nodes ≤ z
stands_used z offset [] low h = omega arith
stands_used z offset (n ∷ nodes) low h =
    let a = and_parts (fits_rest n.kind (dsize n) (z / 4) (z - offset)) (stands_from z (offset + record_len n) nodes) h in
    let b = (fits_rest_parts n.kind (dsize n) (z / 4) (z - offset) a.0).1 in
    let c = used-cons n nodes in
    let later = stands_used z (offset + record_len n) nodes (omega arith) a.1 in
    omega arith

tail_fits : (z : ℕ) (sectors : List (ℕ × Sector)) → AllByRecursion (λ s. Stands z 0 (nodes_in s)) sectors → last_fits z (free_of_tail z (last_or None sectors)) (map nodes_in sectors) ≡ true
tail_fits z [] h = refl
tail_fits z (s ∷ []) h =
    let fits = stands_used z 0 (nodes_in s) (omega arith) h.0.0 in
    elim (is_free s.1.reading.ending) as (λ t. leb (used (nodes_in s) + cond t (z - reading_len s.1.reading) 0) z ≡ true) [
      | true ↦ le-leb (used (nodes_in s) + (z - used (nodes_in s))) z (omega arith)
      | false ↦ le-leb (used (nodes_in s) + 0) z (omega arith)
    ]
tail_fits z (s ∷ t ∷ sectors) h = tail_fits z (t ∷ sectors) h.1

-- All sectors are counted.
numbered_count : (p : Sector → Bool) (k : ℕ) (sectors : List Sector) → length (filter (λ (s : ℕ × Sector). p s.1) (enumerate_from k sectors)) ≡ length (filter p sectors)
numbered_count p k [] = refl
numbered_count p k (s ∷ sectors) =
    let later = numbered_count p (k + 1) sectors in
    elim (p s) as (λ t. length (cond t ((k, s) ∷ filter (λ (r : ℕ × Sector). p r.1) (enumerate_from (k + 1) sectors)) (filter (λ (r : ℕ × Sector). p r.1) (enumerate_from (k + 1) sectors))) ≡ length (cond t (s ∷ filter p sectors) (filter p sectors))) [
      | true ↦ ap (λ m. suc m) later
      | false ↦ later
    ]

turned_count : {A : Type 0} (p : A → Bool) (k : ℕ) (xs : List A) → length (filter p (turned k xs)) ≡ length (filter p xs)
turned_count p k xs =
    let a = ap (λ ys. length ys) (filter-append p (drop k xs) (take k xs)) in
    let b = length-append (filter p (drop k xs)) (filter p (take k xs)) in
    let c = ap (λ ys. length ys) (filter-append p (take k xs) (drop k xs)) in
    let d = length-append (filter p (take k xs)) (filter p (drop k xs)) in
    let e = ap (λ ys. length (filter p ys)) (take-append-drop k xs) in
    omega arith

pub all_counted : (sectors : List Sector) → length (log_sectors sectors) + erased_count sectors ≡ length sectors
all_counted sectors =
    let a = turned_count (λ (s : ℕ × Sector). not s.1.erased) (oldest_of (starts sectors)) (enumerate_from 0 sectors) in
    let b = numbered_count (λ s. not s.erased) 0 sectors in
    let c = length-filter_both (λ (s : Sector). s.erased) (λ (s : Sector). not s.erased) (λ s. refl) sectors in
    omega arith

-- The log as one list.
pub nodes_mapped : (xs ys : List Placed) → nodes_of (xs ++ ys) ≡ nodes_of xs ++ nodes_of ys
nodes_mapped [] ys = refl
nodes_mapped (x ∷ xs) ys = let later = nodes_mapped xs ys in λ j. x.node ∷ later j

pub placed_nodes : (sector offset : ℕ) (nodes : List Node) → nodes_of (placed_from sector offset nodes) ≡ nodes
placed_nodes sector offset [] = refl
placed_nodes sector offset (n ∷ nodes) = let later = placed_nodes sector (offset + record_len n) nodes in λ j. n ∷ later j

pub log_nodes : (sectors : List (ℕ × Sector)) → nodes_of (flat_map records_in sectors) ≡ flat_map (λ nodes. nodes) (map nodes_in sectors)
log_nodes [] = refl
log_nodes (s ∷ sectors) =
    let later = log_nodes sectors in
    nodes_mapped (records_in s) (flat_map records_in sectors) ∙ (λ j. placed_nodes s.0 0 s.1.reading.nodes j ++ later j)

pub among_left : (n : Node) (xs ys : List Node) → Among n xs → Among n (xs ++ ys)
among_left n [] ys a = absurd a
among_left n (x ∷ xs) ys a = ⊎_elim (λ here. inl here) (λ there. inr (among_left n xs ys there)) a

among_right : (n : Node) (xs ys : List Node) → Among n ys → Among n (xs ++ ys)
among_right n [] ys a = a
among_right n (x ∷ xs) ys a = inr (among_right n xs ys a)

pub among_reversed : (n : Node) (xs : List Node) → Among n xs → Among n (reverse xs)
among_reversed n [] a = absurd a
among_reversed n (x ∷ xs) a = subst (Among n) (sym (reversed x xs)) (⊎_elim
    (λ here. among_right n (reverse xs) (x ∷ []) (inl here))
    (λ there. among_left n (reverse xs) (x ∷ []) (among_reversed n xs there))
    a)

pub each_known : (past : List Node) (sectors : List (List Node)) → ((n : Node) → Among n (flat_map (λ nodes. nodes) sectors) → Among n past) → AllByRecursion (λ nodes. AllByRecursion (λ n. Among n past) nodes) sectors
each_known past [] h = tt
each_known past (s ∷ sectors) h = (
  all_among (λ n. Among n past) s (λ n a. h n (among_left n s (flat_map (λ nodes. nodes) sectors) a)),
  each_known past sectors (λ n a. h n (among_right n s (flat_map (λ nodes. nodes) sectors) a)),
)

flat_keeps : (sectors : List (List Node)) → AllByRecursion (λ nodes. list_all keeps_length nodes ≡ true) sectors → list_all keeps_length (flat_map (λ nodes. nodes) sectors) ≡ true
flat_keeps [] h = refl
flat_keeps (s ∷ sectors) h = all_append keeps_length s (flat_map (λ nodes. nodes) sectors) h.0 (flat_keeps sectors h.1)

-- What a scan that refuses nothing has seen.
passed : (test : Bool) (why : ScanWhy) (causes : List (Bool × ScanWhy)) (s t : Scanned) → unless ((test, why) ∷ causes) s ≡ Ok t → (test ≡ false) × (unless causes s ≡ Ok t)
passed true why causes s t h = cc
passed false why causes s t h = (refl, h)

none_bad : (o : Option ScanWhy) (r : Result Scanned ScanWhy) (t : Scanned) → or_refuse o r ≡ Ok t → (o ≡ None) × (r ≡ Ok t)
none_bad (Some why) r t h = cc
none_bad None r t h = (refl, h)

geometry : (g : Bool) (r : Result Scanned ScanWhy) (t : Scanned) → cond g r (Err why.Geometry) ≡ Ok t → (g ≡ true) × (r ≡ Ok t)
geometry true r t h = (refl, h)
geometry false r t h = cc

pub record IsScan (z : ℕ) (image : List (List ℕ)) (scanned : Scanned) : Type 0 where
  pub sizes : is_geometry (length image) z ≡ true
  pub none : first_bad 0 (map sector_of image) ≡ None
  pub erased : list_any (λ s. s.erased) (map sector_of image) ≡ true
  pub run : is_one_run (map sector_of image) ≡ true
  pub rise : versions_rise (nodes_of (log_of (map sector_of image))) ≡ true
  pub tree : makes_tree (past_of (log_of (map sector_of image))) ≡ true
  pub log : log_of (map sector_of image) ≡ scanned.log
  pub made : tree_of (past_of (log_of (map sector_of image))) ≡ scanned.tree

pub scan_parts : (z : ℕ) (image : List (List ℕ)) (scanned : Scanned) → scan z image ≡ Ok scanned → IsScan z image scanned
scan_parts z image scanned h =
    let sectors = map sector_of image in
    let result : Scanned = record { log = log_of sectors; tree = tree_of (past_of (log_of sectors)); clean = is_clean sectors } in
    let third : List (Bool × ScanWhy) = (not (makes_tree (past_of (log_of sectors))), why.BadTree) ∷ [] in
    let second : List (Bool × ScanWhy) = (not (versions_rise (nodes_of (log_of sectors))), why.BadOrder) ∷ third in
    let first : List (Bool × ScanWhy) = (not (is_one_run sectors), why.Scattered) ∷ second in
    let all : List (Bool × ScanWhy) = (not (list_any (λ s. s.erased) sectors), why.NoErased) ∷ first in
    let g = geometry (is_geometry (length image) z) (scan_sectors sectors) scanned h in
    let a = none_bad (first_bad 0 sectors) (unless all result) scanned g.1 in
    let b = passed (not (list_any (λ s. s.erased) sectors)) why.NoErased first result scanned a.1 in
    let c = passed (not (is_one_run sectors)) why.Scattered second result scanned b.1 in
    let d = passed (not (versions_rise (nodes_of (log_of sectors)))) why.BadOrder third result scanned c.1 in
    let e = passed (not (makes_tree (past_of (log_of sectors)))) why.BadTree [] result scanned d.1 in
    record {
      sizes = g.0;
      none = a.0;
      erased = not-false (list_any (λ s. s.erased) sectors) b.0;
      run = not-false (is_one_run sectors) c.0;
      rise = not-false (versions_rise (nodes_of (log_of sectors))) d.0;
      tree = not-false (makes_tree (past_of (log_of sectors))) e.0;
      log = ap (λ (s : Scanned). s.log) (ok_same result scanned e.1);
      made = ap (λ (s : Scanned). s.tree) (ok_same result scanned e.1);
    }

pub mounts_are_sound : MountsAreSound
mounts_are_sound z image scanned bytes is =
    let sectors = map sector_of image in
    let held = log_sectors sectors in
    let stand = log_stands z sectors (sectors_stand z image bytes) in
    let s = scan_parts z image scanned is in
    let nodes = log_nodes held in
    let same : reverse (nodes_of (log_of sectors)) ≡ past_of scanned.log = ap past_of s.log in
    let fits = (and_parts (each_fits (past_of (log_of sectors))) (check (tree_of (past_of (log_of sectors)))) s.tree).0 in
    let keeps : list_all keeps_length (nodes_of (log_of sectors)) ≡ true = ap (list_all keeps_length) nodes
    ∙ flat_keeps (map nodes_in held) (each_mapped (λ n. list_all keeps_length n ≡ true) held (map_all (λ x. Stands z 0 (nodes_in x)) (λ x. list_all keeps_length (nodes_in x) ≡ true) (λ x h. h.1) held stand)) in
    let history : is_history (past_of (log_of sectors)) ≡ true =
    and_from (each_fits (past_of (log_of sectors)) && versions_fall (past_of (log_of sectors))) (list_all keeps_length (past_of (log_of sectors)))
    (and_from (each_fits (past_of (log_of sectors))) (versions_fall (past_of (log_of sectors))) fits (falls_backwards (nodes_of (log_of sectors)) s.rise))
    (all_reversed keeps_length (nodes_of (log_of sectors)) keeps) in
    record {
      history = ap is_history (sym same) ∙ history;
      known = each_known (past_of scanned.log) (map nodes_in held) (λ n a. subst (Among n) same (among_reversed n (nodes_of (log_of sectors)) (subst (Among n) (sym nodes) a)));
      stands = each_mapped (λ n. stands_from z 0 n ≡ true) held (map_all (λ x. Stands z 0 (nodes_in x)) (λ x. stands_from z 0 (nodes_in x) ≡ true) (λ x h. h.0) held stand);
      tail = tail_fits z held stand;
      counted = let a = all_counted sectors in let b = length-map held nodes_in in let c = length-map image sector_of in omega arith;
    }
