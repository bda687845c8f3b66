-- The records of a sector are found one after another.
use Rattle.std.proofs.Common.{◌≡◌, ℕ, ◌+◌, ◌-◌, ◌/◌, ◌≤◌, ◌<◌, true, List, [], ◌∷◌, ◌++◌, length, drop, get_or, sum_by, refl, sym, ap, subst, ◌∙◌, arith, append_assoc, length-drop}
use Rattle.std.specs.List.{AllByRecursion}
use Rattle.std.proofs.lemmas.List.{drop-drop, append-nil}
use Rattle.std.proofs.lemmas.Grind.{flat_map-append}
use Rattle.std.proofs.lemmas.List.Sums.{sum_by_push}
use Rattle.jffs_node.specs.declared.node.Node.{Node}
use Rattle.jffs_node.specs.declared.read.Read.{Read}
use Rattle.jffs_node.specs.declared.read.Read.TheVariants.{Closed, Free, Torn, Bad}
use Rattle.jffs_node.specs.Record.{spelling, record_len, dsize, is_lawful, fits_rest, BeginsWith}
use Rattle.jffs_node.specs.Reading.{Reading, found, reading, reading_len}
use Rattle.jffs_log.specs.Sector.{spellings, FitSector, HoldsNodes}
use Rattle.jffs_log.specs.ScanRead.{IsSpelled, rest_of}
use Rattle.jffs_log.proofs.ring.SectorSpellings.{record_long, rest_fits, fit_more, reading_holds, IsEnd}

pub all_lawful : (max len : ℕ) (nodes : List Node) → FitSector max len nodes → AllByRecursion (λ n. is_lawful n ≡ true) nodes
all_lawful max len [] h = tt
all_lawful max len (n ∷ nodes) h = (h.0, all_lawful max (len - record_len n) nodes h.2)

-- one record more
pub record OneMore (sector : List ℕ) (nodes : List Node) (used len : ℕ) (n : Node) : Type 0 where
  pub holds : HoldsNodes sector (nodes ++ n ∷ []) (drop (used + len) sector)
  pub filled : used + len ≡ sum_by record_len (nodes ++ n ∷ [])
  pub inside : used + len ≤ length sector
  pub long : 64 ≤ len

-- what stands there is the rest of the sector
in_rest : (max len : ℕ) (n : Node) (sector rest : List ℕ) (used : ℕ) → rest ≡ drop used sector → BeginsWith rest max n (drop len rest) → BeginsWith (drop used sector) max n (drop len (drop used sector))
in_rest max len n sector rest used is h = subst (λ (xs : List ℕ). BeginsWith xs max n (drop len xs)) is h

pub record_found : (sector : List ℕ) (nodes : List Node) (used len : ℕ) (n : Node) (xs : List ℕ) → xs ≡ drop used sector → HoldsNodes sector nodes (drop used sector) → used ≡ sum_by record_len nodes → used ≤ length sector
    → BeginsWith xs (length sector / 4) n (drop len xs) → len ≡ record_len n → OneMore sector nodes used len n
record_found sector nodes used len n xs there h filled inside begun is =
    let begins = in_rest (length sector / 4) len n sector xs used there begun in
    let z = length sector in
    let rest = length-drop used sector in
    let fits = rest_fits n.kind (dsize n) (z / 4) (length (drop used sector)) begins.placed in
    let long = record_long n in
    let left : length (drop used sector) ≡ z - sum_by record_len nodes = rest ∙ ap (λ k. z - k) filled in
    let joined : spellings (nodes ++ n ∷ []) ≡ spellings nodes ++ spelling n = flat_map-append spelling nodes (n ∷ []) ∙ ap (λ (xs : List ℕ). spellings nodes ++ xs) (append-nil (spelling n)) in
    record {
      holds = record {
        spelled =
            h.spelled
            ∙ ap (λ (xs : List ℕ). spellings nodes ++ xs) begins.spelled
            ∙ ap (λ (xs : List ℕ). spellings nodes ++ (spelling n ++ xs)) (drop-drop len used sector)
            ∙ sym (append_assoc (spellings nodes) (spelling n) (drop (used + len) sector))
            ∙ ap (λ (xs : List ℕ). xs ++ drop (used + len) sector) (sym joined);
        fit = fit_more (z / 4) z nodes n h.fit begins.lawful (subst (λ k. fits_rest n.kind (dsize n) (z / 4) k ≡ true) left begins.placed);
      };
      filled = ap (λ k. k + len) filled ∙ ap (λ k. sum_by record_len nodes + k) is ∙ sym (sum_by_push record_len nodes n);
      inside = omega arith;
      long = omega arith;
    }

ends : (r : Read) → ((n : Node) (len : ℕ) → r ≡ Closed n len → ⊥) → IsEnd r
ends (Closed n len) open_end = open_end n len refl
ends Free open_end = tt
ends Torn open_end = tt
ends (Bad why) open_end = tt

-- no further record
pub end_found : (sector : List ℕ) (nodes : List Node) (used : ℕ) (r : Read) (xs : List ℕ) → xs ≡ drop used sector → HoldsNodes sector nodes (drop used sector) → r ≡ found (length sector / 4) xs
    → ((n : Node) (len : ℕ) → r ≡ Closed n len → ⊥) → reading sector ≡ record { nodes = nodes; ending = r }
end_found sector nodes used r xs there h is open_end =
    let same : r ≡ found (length sector / 4) (drop used sector) = is ∙ ap (found (length sector / 4)) there in
    reading_holds sector nodes (drop used sector) h (subst IsEnd same (ends r open_end)) ∙ ap (λ e. record { nodes = nodes; ending = e }) (sym same)

pub spelled_found : (sector : List ℕ) (nodes : List Node) (used : ℕ) (r : Read) (xs : List ℕ) → xs ≡ drop used sector → HoldsNodes sector nodes (drop used sector) → used ≡ sum_by record_len nodes
    → r ≡ found (length sector / 4) xs → reading sector ≡ record { nodes = nodes; ending = r } → ((i : ℕ) → get_or sector i 0 < 256) → IsSpelled sector
spelled_found sector nodes used r xs there h filled ending is bytes =
    let at : drop used sector ≡ rest_of sector = ap (λ k. drop k sector) (filled ∙ ap (λ (a : Reading). reading_len a) (sym is)) in
    record {
      holds = subst (λ (a : Reading). HoldsNodes sector a.nodes (rest_of sector)) (sym is) (subst (λ (ys : List ℕ). HoldsNodes sector nodes ys) at h);
      ends = ap (λ (a : Reading). a.ending) is ∙ ending ∙ ap (found (length sector / 4)) (there ∙ at);
      bytes = bytes;
    }
