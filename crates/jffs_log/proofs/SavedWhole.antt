-- A volume that a scan takes is salvaged whole.
use Rattle.std.proofs.Common.{◌≡◌, ℕ, zero, suc, ◌≤◌, ◌<◌, true, false, cond, not, ltb, List, [], ◌∷◌, ◌++◌, length, take, drop, map, filter, flat_map, reverse, sum_by, Ok, refl, sym, ap, subst, ◌∙◌, ⊎_elim, append_assoc, arith}
use Rattle.std.specs.List.{enumerate_from, fold, AllByRecursion}
use Rattle.std.specs.List.Sorted.{IsPermutation, IsNonDecreasingBy}
use Rattle.std.proofs.lemmas.Bool.{cases_Bool, and_parts, ltb-true, ltb-false, le-ltb}
use Rattle.std.proofs.lemmas.Grind.{flat_map-append}
use Rattle.std.proofs.lemmas.List.{append-nil, reverse-append, take-append-drop}
use Rattle.std.proofs.lemmas.List.Elements.{All-from_recursion, recursion_from_All}
use Rattle.std.proofs.lemmas.List.Sorted.{All-permutation, IsPermutation-append_comm, IsPermutation-sym, sum_by-IsPermutation}
use Rattle.std.proofs.lemmas.List.Sums.{sum_by-cons}
use Rattle.jffs_node.specs.declared.node.Node.{Node}
use Rattle.jffs_node.specs.Reading.{reading}
use Rattle.jffs_node.proofs.Sound.{only}
use Rattle.jffs_tree.specs.Origin.{tree_of}
use Rattle.jffs_tree.specs.Check.{each_fits, check}
use Rattle.jffs_tree.specs.After.{can_apply}
use Rattle.jffs_log.specs.declared.salvaging.Salvaged.{Salvaged}
use Rattle.jffs_log.specs.Image.{Sector, Placed, sector_of, placed_from, records_in, turned, starts, oldest_of, log_of, nodes_of, past_of}
use Rattle.jffs_log.specs.Salvage.{readable_in, version_at, saved_of, Sifted, sift, sifted, IsSalvaged, IsWhole}
use Rattle.jffs_log.specs.Scan.{Scanned, versions_rise, scan}
use Rattle.jffs_tree.specs.Check.{keeps_form}
use Rattle.jffs_log.specs.Volume.{split, sectors_in}
use Rattle.jffs_log.proofs.append.Puts.{map_all}
use Rattle.jffs_log.proofs.erase.Erased.{blank_sector}
use Rattle.jffs_log.proofs.Histories.{histories_are_scanned}
use Rattle.jffs_log.proofs.ring.Ring.{Numbered}
use Rattle.jffs_log.proofs.scans.MountHistory.{IsLawful, log_lawful, mounts_are_histories}
use Rattle.jffs_log.proofs.scans.MountedLog.{Bytes, dropped_bytes, each_numbered, each_turned, nodes_mapped, ok_same, reversed, scan_parts}
use Rattle.jffs_log.proofs.scans.ScanFold.{next_fits, older_fit}

-- Erased sectors have no records, so those of all sectors are those of the log.
abbrev IsEmptyIfErased : Sector → Type 0
IsEmptyIfErased s = s.erased ≡ true → s.reading.nodes ≡ []

erased_empty : (image : List (List ℕ)) → AllByRecursion IsEmptyIfErased (map sector_of image)
erased_empty [] = tt
erased_empty (bytes ∷ image) = (
  λ erased. ap (λ (xs : List ℕ). (reading xs).nodes) (only 255 bytes erased) ∙ ap (λ (s : Sector). s.reading.nodes) (blank_sector (length bytes)),
  erased_empty image,
)

abbrev used_of : List Numbered → List Numbered
used_of sectors = filter (λ s. not s.1.erased) sectors

records_used : (sectors : List Numbered) → AllByRecursion (λ s. IsEmptyIfErased s.1) sectors → flat_map records_in (used_of sectors) ≡ flat_map records_in sectors
records_used [] h = refl
records_used (s ∷ sectors) h =
    let later = records_used sectors h.1 in
    elim s.1.erased as (λ e. s.1.erased ≡ e → flat_map records_in (cond (not e) (s ∷ used_of sectors) (used_of sectors)) ≡ records_in s ++ flat_map records_in sectors) [
      | true ↦ λ is. later ∙ sym (ap (λ (nodes : List Node). placed_from s.0 0 nodes ++ flat_map records_in sectors) (h.0 is))
      | false ↦ λ is. ap (λ (ps : List Placed). records_in s ++ ps) later
    ] refl

log_is_readable : (image : List (List ℕ)) → IsPermutation (readable_in (map sector_of image)) (log_of (map sector_of image))
log_is_readable image =
    let sectors = map sector_of image in
    let k = oldest_of (starts sectors) in
    let all = enumerate_from 0 sectors in
    let empty = each_turned (λ s. IsEmptyIfErased s.1) k all (each_numbered IsEmptyIfErased 0 sectors (erased_empty image)) in
    let log : log_of sectors ≡ flat_map records_in (drop k all) ++ flat_map records_in (take k all) =
    records_used (turned k all) empty ∙ flat_map-append records_in (drop k all) (take k all) in
    let readable : readable_in sectors ≡ flat_map records_in (take k all) ++ flat_map records_in (drop k all) =
    ap (λ (xs : List Numbered). flat_map records_in xs) (sym (take-append-drop k all)) ∙ flat_map-append records_in (take k all) (drop k all) in
    subst (λ (ps : List Placed). IsPermutation ps (log_of sectors)) (sym readable)
    (subst (λ (ps : List Placed). IsPermutation (flat_map records_in (take k all) ++ flat_map records_in (drop k all)) ps) (sym log)
    (IsPermutation-append_comm (flat_map records_in (take k all)) (flat_map records_in (drop k all))))

-- Records whose versions rise have one order.
abbrev Above : ℕ → List Placed → Type 0
Above v ps = AllByRecursion (λ q. v ≤ version_at q) ps

abbrev Rises : List Placed → Type 0
Rises [] = Unit {0}
Rises (p ∷ ps) = Above (version_at p) ps × Rises ps

rises : (ps : List Placed) → IsNonDecreasingBy version_at ps → Rises ps
rises [] up = tt
rises (p ∷ ps) up = (
  recursion_from_All (λ q. version_at p ≤ version_at q) ps (λ k d below. up 0 (suc k) d (omega arith) (omega arith)),
  rises ps (λ i j d order below. up (suc i) (suc j) d (omega arith) (omega arith)),
)

abbrev Past : ℕ → List Placed → Type 0
Past v ps = AllByRecursion (λ q. v < version_at q) ps

abbrev Climbs : List Placed → Type 0
Climbs [] = Unit {0}
Climbs (p ∷ ps) = Past (version_at p) ps × Climbs ps

climbs : (ps : List Placed) → versions_rise (nodes_of ps) ≡ true → Climbs ps
climbs [] h = tt
climbs (p ∷ []) h = (tt, tt)
climbs (p ∷ q ∷ ps) h =
    let a = and_parts (ltb (version_at p) (version_at q)) (versions_rise (nodes_of (q ∷ ps))) h in
    let less = ltb-true (version_at p) (version_at q) a.0 in
    let later = climbs (q ∷ ps) a.1 in
    ((less, map_all (λ r. version_at q < version_at r) (λ r. version_at p < version_at r) (λ r further. omega arith) ps later.0), later)

climbs_rises : (ps : List Placed) → Climbs ps → Rises ps
climbs_rises [] h = tt
climbs_rises (p ∷ ps) h = (map_all (λ q. version_at p < version_at q) (λ q. version_at p ≤ version_at q) (λ q less. omega arith) ps h.0, climbs_rises ps h.1)

-- of these records the one with its version is it
abbrev IsOnly : List Placed → Placed → Type 0
IsOnly ps p = AllByRecursion (λ q. version_at p ≡ version_at q → p ≡ q) ps

both : (P Q : Placed → Type 0) (ps : List Placed) → AllByRecursion P ps → AllByRecursion Q ps → AllByRecursion (λ p. P p × Q p) ps
both P Q [] h k = tt
both P Q (p ∷ ps) h k = ((h.0, k.0), both P Q ps h.1 k.1)

climbs_only : (ps : List Placed) → Climbs ps → AllByRecursion (IsOnly ps) ps
climbs_only [] h = tt
climbs_only (p ∷ ps) h = (
  (λ same. refl, map_all (λ q. version_at p < version_at q) (λ q. version_at p ≡ version_at q → p ≡ q) (λ q less same. absurd (omega arith)) ps h.0),
  both (λ q. version_at q ≡ version_at p → q ≡ p) (IsOnly ps) ps
      (map_all (λ q. version_at p < version_at q) (λ q. version_at q ≡ version_at p → q ≡ p) (λ q less same. absurd (omega arith)) ps h.0)
      (climbs_only ps h.1),
)

-- how many records are before one says that it is first
abbrev before_it : Placed → Placed → ℕ
before_it p q = cond (ltb (version_at q) (version_at p)) 1 0

none_before : (p : Placed) (ps : List Placed) → Above (version_at p) ps → sum_by (before_it p) ps ≡ 0
none_before p [] up = refl
none_before p (q ∷ ps) up =
    let here : before_it p q ≡ 0 = ap (λ t. cond t 1 0) (le-ltb (version_at q) (version_at p) up.0) in
    let rest = none_before p ps up.1 in
    let all = sum_by-cons (before_it p) q ps in
    omega arith

not_before : (p q : Placed) (ps : List Placed) → sum_by (before_it p) (q ∷ ps) ≡ 0 → version_at p ≤ version_at q
not_before p q ps none = ⊎_elim
    (λ yes. let here : before_it p q ≡ 1 = ap (λ t. cond t 1 0) yes in let all = sum_by-cons (before_it p) q ps in absurd (omega arith))
    (λ no. ltb-false (version_at q) (version_at p) no)
    (cases_Bool (ltb (version_at q) (version_at p)))

one_order : (xs ys : List Placed) → Rises xs → Rises ys → ((f : Placed → ℕ) → sum_by f xs ≡ sum_by f ys) → AllByRecursion (IsOnly ys) xs → xs ≡ ys
one_order [] [] up down same only = refl
one_order [] (y ∷ ys) up down same only = let no = same (λ z. 1) in let all = sum_by-cons (λ z. 1) y ys in let none : sum_by {X = Placed} (λ z. 1) [] ≡ 0 = refl in absurd (omega arith)
one_order (x ∷ xs) [] up down same only = let no = same (λ z. 1) in let all = sum_by-cons (λ z. 1) x xs in let none : sum_by {X = Placed} (λ z. 1) [] ≡ 0 = refl in absurd (omega arith)
one_order (x ∷ xs) (y ∷ ys) up down same only =
    let low = not_before y x xs (same (before_it y) ∙ none_before y (y ∷ ys) (omega arith, down.0)) in
    let high = not_before x y ys (sym (same (before_it x)) ∙ none_before x (x ∷ xs) (omega arith, up.0)) in
    let first = only.0.0 (omega arith) in
    let rest = one_order xs ys up.1 down.1
    (λ f. let all = same f in let here = ap f first in let left = sum_by-cons f x xs in let right = sum_by-cons f y ys in omega arith)
    (map_all (IsOnly (y ∷ ys)) (IsOnly ys) (λ p h. h.1) xs only.1) in
    λ i. first i ∷ rest i

ordered_is : (found ordered log : List Placed) → IsPermutation found ordered → IsNonDecreasingBy version_at ordered → IsPermutation found log → versions_rise (nodes_of log) ≡ true → ordered ≡ log
ordered_is found ordered log same up moved climb =
    let high = climbs log climb in
    let found_only = All-permutation (IsOnly log) log found (IsPermutation-sym found log moved) (All-from_recursion (IsOnly log) log (climbs_only log high)) in
    let only = recursion_from_All (IsOnly log) ordered (All-permutation (IsOnly log) found ordered same found_only) in
    one_order ordered log (rises ordered up) (climbs_rises log high) (λ f. sum_by-IsPermutation f found ordered same ∙ sym (sum_by-IsPermutation f found log moved)) only

-- Records that make a log are all taken.
abbrev taken_all : List Placed → Sifted
taken_all ps = record { taken = ps; left_out = [] }

next_past : (taken ps : List Placed) (p : Placed) → past_of (taken ++ p ∷ ps) ≡ reverse (nodes_of ps) ++ p.node ∷ past_of taken
next_past taken ps p =
    ap (λ (nodes : List Node). reverse nodes) (nodes_mapped taken (p ∷ ps))
    ∙ reverse-append (nodes_of taken) (p.node ∷ nodes_of ps)
    ∙ ap (λ (nodes : List Node). nodes ++ past_of taken) (reversed p.node (nodes_of ps))
    ∙ append_assoc (reverse (nodes_of ps)) (p.node ∷ []) (past_of taken)

all_taken : (taken ps : List Placed) → each_fits (past_of (taken ++ ps)) ≡ true → AllByRecursion IsLawful (nodes_of ps) → fold sift (taken_all taken) ps ≡ taken_all (taken ++ ps)
all_taken taken [] fits lawful = ap (λ (xs : List Placed). taken_all xs) (sym (append-nil taken))
all_taken taken (p ∷ ps) fits lawful =
    let past = past_of taken in
    let here = older_fit (reverse (nodes_of ps)) (p.node ∷ past) (ap each_fits (sym (next_past taken ps p)) ∙ fits) in
    let allowed = (and_parts (keeps_form past p.node) (can_apply (tree_of past) p.node) (next_fits past p.node lawful.0 here)).1 in
    let step : sift (taken_all taken) p ≡ taken_all (taken ++ p ∷ []) = ap (λ t. cond t (taken_all (taken ++ p ∷ [])) (record { taken = taken; left_out = p ∷ [] })) allowed in
    let more = append_assoc taken (p ∷ []) ps in
    ap (λ (s : Sifted). fold sift s ps) step
    ∙ all_taken (taken ++ p ∷ []) ps (ap (λ (xs : List Placed). each_fits (past_of xs)) more ∙ fits) lawful.1
    ∙ ap (λ (xs : List Placed). taken_all xs) more

-- The bytes of an image are bytes in each sector.
taken_bytes : (k : ℕ) (rest : List ℕ) → Bytes rest → Bytes (take k rest)
taken_bytes zero rest b i = omega arith
taken_bytes (suc k) [] b i = b i
taken_bytes (suc k) (x ∷ rest) b zero = b 0
taken_bytes (suc k) (x ∷ rest) b (suc i) = taken_bytes k rest (λ j. b (suc j)) i

pub split_bytes : (count len : ℕ) (image : List ℕ) → Bytes image → AllByRecursion Bytes (split count len image)
split_bytes zero len image b = tt
split_bytes (suc more) len image b = (taken_bytes len image b, split_bytes more len (drop len image) (dropped_bytes len image b))

pub saved_whole : (count len : ℕ) (image : List ℕ) (made : Salvaged) (scanned : Scanned) → Bytes image → IsSalvaged count len image made → scan len (split count len image) ≡ Ok scanned → IsWhole scanned made
saved_whole count len image made scanned b h is =
    let bytes = split_bytes count len image b in
    let s = scan_parts len (split count len image) scanned is in
    let log = log_of (sectors_in count len image) in
    let fits = (and_parts (each_fits (past_of log)) (check (tree_of (past_of log))) s.tree).0 in
    let order = ordered_is (readable_in (sectors_in count len image)) h.ordered log h.in_order.same h.in_order.rise (log_is_readable (split count len image)) s.rise in
    let all : sifted h.ordered ≡ taken_all scanned.log =
    ap sifted order ∙ all_taken [] log fits (log_lawful count len image bytes) ∙ ap (λ (ps : List Placed). taken_all ps) s.log in
    let tree = ap (λ (t : Scanned). t.tree) (ok_same _ scanned (sym (histories_are_scanned count len image (past_of scanned.log) (mounts_are_histories count len image scanned bytes is)) ∙ is)) in
    record {
      tree = h.records.tree ∙ ap (λ (x : Sifted). tree_of (past_of x.taken)) all ∙ tree;
      taken = h.records.taken ∙ ap (λ (x : Sifted). map saved_of x.taken) all;
      left_out = h.records.left_out ∙ ap (λ (x : Sifted). map saved_of x.left_out) all;
    }
