-- The records of an index that stand in its oldest sector.
use Rattle.std.proofs.Common.{◌≡◌, ◌≢◌, ◌↔◌, ℕ, ◌+◌, Bool, true, false, cond, not, eqb, List, [], ◌∷◌, ◌++◌, map, flat_map, refl, sym, ap, subst, ◌∙◌}
use Rattle.std.specs.List.{list_all, take_while, AllByRecursion}
use Rattle.std.proofs.lemmas.Bool.{and_parts, and_from, eq-eqb, ne_eqb, not-true}
use Rattle.std.proofs.lemmas.List.{map-append, append-nil}
use Rattle.std.proofs.lemmas.List.Sums.{take_while-cons}
use Rattle.jffs_node.specs.declared.node.Node.{Node}
use Rattle.jffs_node.specs.Record.{record_len}
use Rattle.jffs_inodes.specs.Inodes.{Tree}
use Rattle.jffs_tree.specs.Look.{holds_version}
use Rattle.jffs_log.specs.declared.log_index.RecordRef.{RecordRef}
use Rattle.jffs_log.specs.Image.{Placed, placed_from, records_in, records_in_first, log_sectors}
use Rattle.jffs_log.specs.Volume.{sectors_in}
use Rattle.jffs_log.specs.Ring.{IsRing}
use Rattle.jffs_log.specs.LogIndex.{ref_of, Describes, lives_in, placed_at}
use Rattle.jffs_log.proofs.ring.Ring.{Numbered, ring_log}
use Rattle.jffs_log.proofs.erase.Erased.{oldest_alone}

abbrev in_sector : ℕ → RecordRef → Bool
in_sector k r = eqb r.sector k

abbrev is_dead : Tree → RecordRef → Bool
is_dead tree k = not (holds_version tree k.inode k.version)

placed_taken : (k offset : ℕ) (nodes : List Node) (others : List RecordRef) → take_while (in_sector k) (map ref_of (placed_from k offset nodes) ++ others) ≡ map ref_of (placed_from k offset nodes) ++ take_while (in_sector k) others
placed_taken k offset [] others = refl
placed_taken k offset (n ∷ nodes) others =
    let r = ref_of (placed_at k offset n) in
    let later = map ref_of (placed_from k (offset + record_len n) nodes) ++ others in
    take_while-cons (in_sector k) r later
    ∙ ap (λ t. cond t (r ∷ take_while (in_sector k) later) []) (eq-eqb k k refl)
    ∙ ap (λ (xs : List RecordRef). r ∷ xs) (placed_taken k (offset + record_len n) nodes others)

placed_left : (k : ℕ) (s : Numbered) (rest : List Placed) (nodes : List Node) → s.0 ≢ k → take_while (in_sector k) (map ref_of rest) ≡ [] → take_while (in_sector k) (map ref_of (placed_from s.0 0 nodes ++ rest)) ≡ []
placed_left k s rest [] other later = later
placed_left k s rest (n ∷ nodes) other later =
    let r = ref_of (placed_at s.0 0 n) in
    let more = map ref_of (placed_from s.0 (0 + record_len n) nodes ++ rest) in
    take_while-cons (in_sector k) r more ∙ ap (λ t. cond t (r ∷ take_while (in_sector k) more) []) (ne_eqb s.0 k other)

others_left : (k : ℕ) (rest : List Numbered) → AllByRecursion (λ s. s.0 ≢ k) rest → take_while (in_sector k) (map ref_of (flat_map records_in rest)) ≡ []
others_left k [] h = refl
others_left k (s ∷ rest) h = placed_left k s (flat_map records_in rest) s.1.reading.nodes h.0 (others_left k rest h.1)

pub oldest_taken : (first : ℕ) (sectors : _) (held blank : List Numbered) → IsRing first sectors held blank → take_while (in_sector first) (map ref_of (flat_map records_in held)) ≡ map ref_of (records_in_first held)
oldest_taken first sectors [] blank ring = refl
oldest_taken first sectors (o ∷ rest) blank ring =
    let alone = oldest_alone first sectors o rest blank ring in
    let others = map ref_of (flat_map records_in rest) in
    subst (λ k. take_while (in_sector k) (map ref_of (flat_map records_in (o ∷ rest))) ≡ map ref_of (records_in o)) alone.0
    (ap (take_while (in_sector o.0)) (map-append ref_of (records_in o) (flat_map records_in rest))
    ∙ placed_taken o.0 0 o.1.reading.nodes others
    ∙ ap (λ (xs : List RecordRef). map ref_of (records_in o) ++ xs) (others_left o.0 rest (subst (λ (k : ℕ). AllByRecursion (λ s. s.0 ≢ k) rest) (sym alone.0) alone.1))
    ∙ append-nil (map ref_of (records_in o)))

-- none lives
all_dead : (tree : Tree) (log : List Placed) → list_all (is_dead tree) (map ref_of log) ≡ true → AllByRecursion (λ p. lives_in tree p ≡ false) log
all_dead tree [] h = tt
all_dead tree (p ∷ log) h =
    let parts = and_parts (not (lives_in tree p)) (list_all (is_dead tree) (map ref_of log)) h in
    (not-true (lives_in tree p) parts.0, all_dead tree log parts.1)

dead_all : (tree : Tree) (log : List Placed) → AllByRecursion (λ p. lives_in tree p ≡ false) log → list_all (is_dead tree) (map ref_of log) ≡ true
dead_all tree [] h = refl
dead_all tree (p ∷ log) h = and_from (not (lives_in tree p)) (list_all (is_dead tree) (map ref_of log)) (ap not h.0) (dead_all tree log h.1)

pub dead_exactly : (count len : ℕ) (image : List ℕ) (first many tail used free : ℕ) (records : List RecordRef) (tree : Tree) (answer : Bool) → Describes count len image first many tail used free records
    → answer ≡ list_all (λ (k : RecordRef). not (holds_version tree k.inode k.version)) (take_while (λ (k : RecordRef). eqb k.sector first) records)
    → (answer ≡ true) ↔ AllByRecursion (λ p. lives_in tree p ≡ false) (records_in_first (log_sectors (sectors_in count len image)))
dead_exactly count len image first many tail used free records tree answer h is =
    let oldest = records_in_first (log_sectors (sectors_in count len image)) in
    let taken : take_while (in_sector first) records ≡ map ref_of oldest =
    ap (take_while (in_sector first)) h.listed
    ∙ oldest_taken first (sectors_in count len image) h.held h.blank h.ring
    ∙ ap (λ (xs : List Numbered). map ref_of (records_in_first xs)) (sym (ring_log first (sectors_in count len image) h.held h.blank h.ring).0) in
    let same : answer ≡ list_all (is_dead tree) (map ref_of oldest) = is ∙ ap (list_all (is_dead tree)) taken in
    (λ yes. all_dead tree oldest (sym same ∙ yes), λ dead. same ∙ dead_all tree oldest dead)
