-- What one question about the versions of the oldest sector shows.
use Rattle.std.proofs.Common.{◌≡◌, ◌≢◌, ◌↔◌, ℕ, ◌+◌, ◌<◌, ◌≤◌, Bool, true, false, not, ◌&&◌, eqb, leb, ltb, Option, Some, None, IfSome, IfNone, List, [], ◌∷◌, ◌++◌, map, flat_map, refl, sym, ap, subst, ◌∙◌}
use Rattle.std.specs.Option.{option_map_or}
use Rattle.std.specs.List.{list_all, AllByRecursion, Contains}
use Rattle.std.proofs.lemmas.Bool.{and_parts, and_from, and_left, and_right, eq-eqb, ne_eqb, leb-true, ltb-true}
use Rattle.std.proofs.lemmas.List.{map-append}
use Rattle.std.proofs.lemmas.List.Folds.{list_all-append}
use Rattle.std.proofs.lemmas.List.Sums.{AllPass-from_list_all}
use Rattle.std.proofs.lemmas.List.Elements.{All-contains}
use Rattle.jffs_node.specs.declared.node.Node.{Node}
use Rattle.jffs_node.specs.Record.{record_len}
use Rattle.jffs_inodes.specs.Inodes.{Tree}
use Rattle.jffs_tree.specs.Look.{holds_version}
use Rattle.jffs_log.specs.declared.log_index.RecordRef.{RecordRef}
use Rattle.jffs_log.specs.Image.{Sector, Placed, placed_from, records_in, records_in_first, log_sectors}
use Rattle.jffs_log.specs.Volume.{sectors_in}
use Rattle.jffs_log.specs.Ring.{IsRing}
use Rattle.jffs_log.specs.LogIndex.{ref_of, Describes, lives_in, placed_at}
use Rattle.jffs_log.proofs.ring.Ring.{Numbered, ring_log}
use Rattle.jffs_log.proofs.erase.Erased.{oldest_alone}

-- not one that lives in the sector
abbrev is_quiet : ℕ → Tree → RecordRef → Bool
is_quiet sector tree k = not (eqb k.sector sector && holds_version tree k.inode k.version)

dead_quiet : (sector : ℕ) (tree : Tree) (log : List Placed) → AllByRecursion (λ p. lives_in tree p ≡ false) log → list_all (is_quiet sector tree) (map ref_of log) ≡ true
dead_quiet sector tree [] h = refl
dead_quiet sector tree (p ∷ log) h =
    and_from (is_quiet sector tree (ref_of p)) (list_all (is_quiet sector tree) (map ref_of log)) (ap not (and_right (eqb p.sector sector) (lives_in tree p) h.0)) (dead_quiet sector tree log h.1)

other_quiet : (sector : ℕ) (tree : Tree) (k offset : ℕ) (nodes : List Node) → k ≢ sector → list_all (is_quiet sector tree) (map ref_of (placed_from k offset nodes)) ≡ true
other_quiet sector tree k offset [] other = refl
other_quiet sector tree k offset (n ∷ nodes) other =
    let p = placed_at k offset n in
    and_from (is_quiet sector tree (ref_of p)) (list_all (is_quiet sector tree) (map ref_of (placed_from k (offset + record_len n) nodes)))
    (ap not (and_left (eqb k sector) (lives_in tree p) (ne_eqb k sector other))) (other_quiet sector tree k (offset + record_len n) nodes other)

both_quiet : (sector : ℕ) (tree : Tree) (front rest : List Placed) → list_all (is_quiet sector tree) (map ref_of front) ≡ true → list_all (is_quiet sector tree) (map ref_of rest) ≡ true
    → list_all (is_quiet sector tree) (map ref_of (front ++ rest)) ≡ true
both_quiet sector tree front rest a b =
    ap (list_all (is_quiet sector tree)) (map-append ref_of front rest)
    ∙ list_all-append (is_quiet sector tree) (map ref_of front) (map ref_of rest)
    ∙ and_from (list_all (is_quiet sector tree) (map ref_of front)) (list_all (is_quiet sector tree) (map ref_of rest)) a b

others_quiet : (sector : ℕ) (tree : Tree) (rest : List Numbered) → AllByRecursion (λ s. s.0 ≢ sector) rest → list_all (is_quiet sector tree) (map ref_of (flat_map records_in rest)) ≡ true
others_quiet sector tree [] h = refl
others_quiet sector tree (s ∷ rest) h = both_quiet sector tree (records_in s) (flat_map records_in rest) (other_quiet sector tree s.0 0 s.1.reading.nodes h.0) (others_quiet sector tree rest h.1)

held_quiet : (first : ℕ) (sectors : List Sector) (tree : Tree) (held blank : List Numbered) → IsRing first sectors held blank → AllByRecursion (λ p. lives_in tree p ≡ false) (records_in_first held)
    → list_all (is_quiet first tree) (map ref_of (flat_map records_in held)) ≡ true
held_quiet first sectors tree [] blank ring dead = refl
held_quiet first sectors tree (o ∷ rest) blank ring dead =
    both_quiet first tree (records_in o) (flat_map records_in rest) (dead_quiet first tree (records_in o) dead)
    (others_quiet first tree rest (oldest_alone first sectors o rest blank ring).1)

-- Where a record of that sector lives, its records aren't all dead.
pub not_dead : (count len : ℕ) (image : List ℕ) (first many tail used free : ℕ) (records : List RecordRef) (tree : Tree) (k : RecordRef) → Describes count len image first many tail used free records
    → Contains records k → k.sector ≡ first → holds_version tree k.inode k.version ≡ true
    → (false ≡ true) ↔ AllByRecursion (λ p. lives_in tree p ≡ false) (records_in_first (log_sectors (sectors_in count len image)))
not_dead count len image first many tail used free records tree k h among there lives = (λ no. cc, λ dead. shown (quiet dead))
  where
    quiet : AllByRecursion (λ p. lives_in tree p ≡ false) (records_in_first (log_sectors (sectors_in count len image))) → is_quiet first tree k ≡ true
    quiet dead =
        let sectors = sectors_in count len image in
        let oldest = subst (λ (xs : List Numbered). AllByRecursion (λ p. lives_in tree p ≡ false) (records_in_first xs)) (ring_log first sectors h.held h.blank h.ring).0 dead in
        let all : list_all (is_quiet first tree) records ≡ true = ap (list_all (is_quiet first tree)) h.listed ∙ held_quiet first sectors tree h.held h.blank h.ring oldest in
        All-contains (λ (r : RecordRef). is_quiet first tree r ≡ true) records k (AllPass-from_list_all (is_quiet first tree) records all) among

    shown : is_quiet first tree k ≡ true → false ≡ true
    shown silent =
        let loud : (eqb k.sector first && holds_version tree k.inode k.version) ≡ true = and_from (eqb k.sector first) (holds_version tree k.inode k.version) (eq-eqb k.sector first there) lives in
        sym (ap not loud) ∙ silent

-- No version from the first on lives before the next live one.
pub dead_before : (first : ℕ) (next : Option (ℕ × ℕ)) (tree : Tree) → IfSome next (λ p. (w i : ℕ) → first ≤ w → w < p.0 → holds_version tree i w ≡ false)
    → IfNone next ((v i : ℕ) → first ≤ v → holds_version tree i v ≡ false)
    → (v i : ℕ) → first ≤ v → option_map_or (λ p. ltb v p.0) next true ≡ true → holds_version tree i v ≡ false
dead_before first None tree least none v i low before = none v i low
dead_before first (Some p) tree least none v i low before = least v i low (ltb-true v p.0 before)

-- Records with such versions are dead.
pub none_before : (first : ℕ) (next : Option (ℕ × ℕ)) (tree : Tree) (records : List RecordRef)
    → ((v i : ℕ) → first ≤ v → option_map_or (λ p. ltb v p.0) next true ≡ true → holds_version tree i v ≡ false)
    → list_all (λ (k : RecordRef). leb first k.version && option_map_or (λ p. ltb k.version p.0) next true) records ≡ true
    → list_all (λ (k : RecordRef). not (holds_version tree k.inode k.version)) records ≡ true
none_before first next tree [] none within = refl
none_before first next tree (k ∷ records) none within =
    let before : ℕ → Bool = λ v. option_map_or (λ p. ltb v p.0) next true in
    let parts = and_parts (leb first k.version && before k.version) (list_all (λ (r : RecordRef). leb first r.version && before r.version) records) within in
    let ends = and_parts (leb first k.version) (before k.version) parts.0 in
    and_from (not (holds_version tree k.inode k.version)) (list_all (λ (r : RecordRef). not (holds_version tree r.inode r.version)) records)
    (ap not (none k.version k.inode (leb-true first k.version ends.0) ends.1)) (none_before first next tree records none parts.1)
