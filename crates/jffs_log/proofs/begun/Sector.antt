-- What a sector reads as by its first record's gate and magic.
use Rattle.std.proofs.Common.{◌≡◌, ◌≢◌, inl, inr, ℕ, zero, suc, ◌+◌, ◌/◌, ◌<◌, ◌≤◌, Bool, true, false, cond, not, ◌&&◌, ◌||◌, ltb, eqb, List, [], ◌∷◌, ◌++◌, length, take, set, get_or, Option, Some, None, refl, sym, ap, subst, ◌∙◌, arith}
use Rattle.std.specs.Prelude.{bytes_eq}
use Rattle.std.specs.List.{list_all, AllByRecursion}
use Rattle.std.proofs.lemmas.Bool.{and_parts, cases_Bool, eq-eqb, le-ltb}
use Rattle.jffs_node.specs.declared.node.Node.{Node}
use Rattle.jffs_node.specs.declared.read.Read.{Read}
use Rattle.jffs_node.specs.declared.read.Read.TheVariants.{Free, Torn, Bad}
use Rattle.jffs_node.specs.declared.read.Why.{Why}
use Rattle.jffs_node.specs.declared.read.Why.TheVariants.{Magic}
use Rattle.jffs_node.specs.Record.{magic}
use Rattle.jffs_node.specs.Reading.{Reading, reading, reading_len, is_erased, found, broken_rule, closed_or_bad, rules, first_broken}
use Rattle.jffs_log.specs.declared.scanning.ScanWhy.{ScanWhy}
use Rattle.jffs_log.specs.declared.scanning.ScanWhy.TheVariants.{BadRecord}
use Rattle.jffs_log.specs.Image.{Sector, sector_of}
use Rattle.jffs_log.specs.Sector.{HoldsNodes}
use Rattle.jffs_log.specs.Live.{IsGoodEnding}
use Rattle.jffs_log.specs.Scan.{first_bad, bad_record}
use Rattle.jffs_log.proofs.ring.Live.{none_bad}
use Rattle.jffs_log.proofs.ring.SectorSpellings.{IsEnd, reading_open, reading_holds}

-- Its gate is open: it holds no record, and that is lawful.
pub open_reading : (bytes : List ℕ) → get_or bytes 7 0 ≢ 0 → reading bytes ≡ record { nodes = []; ending = cond (is_erased bytes) Free Torn }
open_reading bytes open_gate = reading_open bytes [] bytes (record { spelled = refl; fit = tt }) (inr open_gate)

pub open_good : (bytes : List ℕ) → get_or bytes 7 0 ≢ 0 → (reading bytes).nodes ≡ [] × IsGoodEnding (reading bytes).ending
open_good bytes open_gate =
    let r = open_reading bytes open_gate in
    (ap (λ (x : Reading). x.nodes) r, subst (λ (x : Reading). IsGoodEnding x.ending) (sym r) (either (is_erased bytes)))
  where
    either : (b : Bool) → IsGoodEnding (cond b Free Torn)
    either true = tt
    either false = tt

-- Its gate is closed: it isn't erased.
all_at : (p : ℕ → Bool) (xs : List ℕ) (i d : ℕ) → list_all p xs ≡ true → i < length xs → p (get_or xs i d) ≡ true
all_at p [] i d h inside = absurd (omega arith)
all_at p (x ∷ xs) zero d h inside = (and_parts (p x) (list_all p xs) h).0
all_at p (x ∷ xs) (suc i) d h inside = all_at p xs i d (and_parts (p x) (list_all p xs) h).1 (omega arith)

pub not_blank : (bytes : List ℕ) → 64 ≤ length bytes → get_or bytes 7 0 ≡ 0 → is_erased bytes ≡ false
not_blank bytes long closed = elim (cases_Bool (is_erased bytes)) [
  | inl blank ↦ let e = sym (ap (λ (b : ℕ). eqb b 255) closed) ∙ all_at (λ b. eqb b 255) bytes 7 0 blank (omega arith) in cc
  | inr used ↦ used
]

-- And where its magic is wrong that is a bad record.
wrong_first : (holds : Bool) (later : Option Why) → holds ≡ false → cond holds later (Some Magic) ≡ Some Magic
wrong_first true later h = cc
wrong_first false later h = refl

bad_magic : (max : ℕ) (bytes : List ℕ) → 64 ≤ length bytes → get_or bytes 7 0 ≡ 0 → bytes_eq (take 4 bytes) magic ≡ false → found max bytes ≡ Bad Magic
bad_magic max bytes long closed wrong =
    ap (λ t. cond (t || not (eqb (get_or bytes 7 0) 0)) (cond (is_erased bytes) Free Torn) (closed_or_bad bytes (broken_rule max bytes))) (le-ltb (length bytes) 64 long)
    ∙ ap (λ t. cond (not t) (cond (is_erased bytes) Free Torn) (closed_or_bad bytes (broken_rule max bytes))) (eq-eqb (get_or bytes 7 0) 0 closed)
    ∙ ap (closed_or_bad bytes) (wrong_first (bytes_eq (take 4 bytes) magic) _ wrong)

pub bad_reading : (bytes : List ℕ) → 64 ≤ length bytes → get_or bytes 7 0 ≡ 0 → bytes_eq (take 4 bytes) magic ≡ false → reading bytes ≡ record { nodes = []; ending = Bad Magic }
bad_reading bytes long closed wrong =
    let e = bad_magic (length bytes / 4) bytes long closed wrong in
    reading_holds bytes [] bytes (record { spelled = refl; fit = tt }) (subst IsEnd (sym e) tt) ∙ ap (λ r. record { nodes = []; ending = r }) e

-- So in a sector that reads well, whose first record is closed, the magic is right.
pub right_magic : (bytes : List ℕ) → 64 ≤ length bytes → get_or bytes 7 0 ≡ 0 → IsGoodEnding (reading bytes).ending → bytes_eq (take 4 bytes) magic ≡ true
right_magic bytes long closed good = elim (cases_Bool (bytes_eq (take 4 bytes) magic)) [
  | inl right ↦ right
  | inr wrong ↦ absurd (subst (λ (x : Reading). IsGoodEnding x.ending) (bad_reading bytes long closed wrong) good)
]

-- The first bad record is there where all other sectors read well.
pub bad_set : (a k : ℕ) (sectors : List Sector) (s : Sector) → AllByRecursion (λ x. IsGoodEnding x.reading.ending) sectors → k < length sectors
    → s.reading ≡ record { nodes = []; ending = Bad Magic } → first_bad a (set sectors k s) ≡ Some (BadRecord (a + k) 0 Magic)
bad_set a k [] s h inside is = absurd (omega arith)
bad_set a zero (x ∷ sectors) s h inside is =
    let same : a ≡ a + 0 = omega arith in
    ap (λ (r : Reading). bad_record a (reading_len r) r.ending (first_bad (a + 1) sectors)) is ∙ ap (λ (j : ℕ). Some (BadRecord j 0 Magic)) same
bad_set a (suc k) (x ∷ sectors) s h inside is =
    let same : a + 1 + k ≡ a + suc k = omega arith in
    none_bad a (reading_len x.reading) x.reading.ending (first_bad (a + 1) (set sectors k s)) h.0
    ∙ bad_set (a + 1) k sectors s h.1 (omega arith) is
    ∙ ap (λ (j : ℕ). Some (BadRecord j 0 Magic)) same
