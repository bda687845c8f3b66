-- What a sector reads as that holds records and a rest.
use Rattle.std.proofs.Common.{◌≡◌, ◌≢◌, ◌⊎◌, inl, inr, ℕ, zero, suc, ◌+◌, ◌-◌, ◌*◌, ◌/◌, ◌<◌, ◌≤◌, Bool, true, false, cond, not, ◌||◌, ltb, eqb, List, [], ◌∷◌, ◌++◌, length, drop, replicate, get_or, sum_by, refl, sym, ap, subst, ◌∙◌, arith, append_assoc, length-append}
use Rattle.std.proofs.lemmas.List.{get_or-replicate, length-replicate, drop-replicate, get_or_append_left, append-nil}
use Rattle.std.proofs.lemmas.Grind.{flat_map-append}
use Rattle.std.proofs.Math.Seq.{drop-append_seam, take-append_seam, drop-append-add}
use Rattle.std.proofs.lemmas.List.Sums.{sum_by-cons}
use Rattle.std.proofs.lemmas.Bool.{ne_eqb, lt-ltb, cases_lt}
use Rattle.jffs_node.specs.declared.node.Node.{Node}
use Rattle.jffs_node.specs.declared.read.Read.{Read}
use Rattle.jffs_node.specs.declared.read.Read.TheVariants.{Closed, Free, Torn, Bad}
use Rattle.jffs_node.specs.Record.{spelling, record_len, dsize, is_lawful, fits_rest, len_of_data}
use Rattle.jffs_node.specs.Reading.{Reading, found, is_erased, after_record, reading_of, reading, broken_rule, closed_or_bad}
use Rattle.jffs_node.proofs.Found.{records_are_found, length_spelled}
use Rattle.jffs_node.proofs.Rules.{fits_rest_parts}
use Rattle.jffs_flash.specs.Image.{replaced}
use Rattle.jffs_log.specs.Sector.{spellings, FitSector, HoldsNodes}

-- no record, so a reading ends here
abbrev pub IsEnd : Read → Type 0
IsEnd (Closed n len) = ⊥
IsEnd Free = Unit {0}
IsEnd Torn = Unit {0}
IsEnd (Bad why) = Unit {0}

abbrev next_of : ℕ → ℕ → List ℕ → Read → Reading
next_of more max rest (Closed n len) = after_record (Closed n len) (reading_of more max (drop len rest))
next_of more max rest Free = record { nodes = []; ending = Free }
next_of more max rest Torn = record { nodes = []; ending = Torn }
next_of more max rest (Bad why) = record { nodes = []; ending = Bad why }

reads_next : (more max : ℕ) (rest : List ℕ) → reading_of (suc more) max rest ≡ next_of more max rest (found max rest)
reads_next more max rest = elim (found max rest) as (λ r. elim r as (λ _. Reading) [
  | Closed n len ↦ after_record (Closed n len) (reading_of more max (drop len rest))
  | Free ↦ record { nodes = []; ending = Free }
  | Torn ↦ record { nodes = []; ending = Torn }
  | Bad why ↦ record { nodes = []; ending = Bad why }
] ≡ next_of more max rest r) [ Closed n len ↦ refl | Free ↦ refl | Torn ↦ refl | Bad why ↦ refl ]

end_reads : (more max : ℕ) (rest : List ℕ) (r : Read) → IsEnd r → next_of more max rest r ≡ record { nodes = []; ending = r }
end_reads more max rest (Closed n len) h = absurd h
end_reads more max rest Free h = refl
end_reads more max rest Torn h = refl
end_reads more max rest (Bad why) h = refl

-- the length of what is placed
pub record_long : (n : Node) → 64 ≤ record_len n
record_long n = omega arith

pub rest_fits : (k : _) (amount max len : ℕ) → fits_rest k amount max len ≡ true → len_of_data amount ≤ len
rest_fits k amount max len h = (fits_rest_parts k amount max len h).1

pub length_spellings : (max len : ℕ) (nodes : List Node) → FitSector max len nodes → length (spellings nodes) ≡ sum_by record_len nodes
length_spellings max len [] h = refl
length_spellings max len (n ∷ nodes) h =
    let one = length_spelled n h.0 in
    let more = length_spellings max (len - record_len n) nodes h.2 in
    let e = length-append (spelling n) (spellings nodes) in
    e ∙ ap (λ k. k + length (spellings nodes)) one ∙ ap (λ k. record_len n + k) more ∙ sym (sum_by-cons record_len n nodes)

-- records are at least 64 bytes long
pub records_count : (nodes : List Node) → 64 * length nodes ≤ sum_by record_len nodes
records_count [] = omega arith
records_count (n ∷ nodes) = let more = records_count nodes in let one = record_long n in let e = sum_by-cons record_len n nodes in omega arith

reading_spelled : (more max : ℕ) (nodes : List Node) (rest : List ℕ) → length nodes ≤ more → FitSector max (length (spellings nodes ++ rest)) nodes → IsEnd (found max rest)
    → reading_of more max (spellings nodes ++ rest) ≡ record { nodes = nodes; ending = found max rest }
reading_spelled zero max [] rest few h end = refl
reading_spelled zero max (n ∷ nodes) rest few h end = absurd (omega arith)
reading_spelled (suc more) max [] rest few h end = reads_next more max rest ∙ end_reads more max rest (found max rest) end
reading_spelled (suc more) max (n ∷ nodes) rest few h end =
    let after = spellings nodes ++ rest in
    let joined = append_assoc (spelling n) (spellings nodes) rest in
    let long = length_spelled n h.0 in
    let e = length-append (spelling n) after in
    let begins = records_are_found (spelling n ++ after) max n after (record { spelled = refl; lawful = h.0; placed = subst (λ (xs : List ℕ). fits_rest n.kind (dsize n) max (length xs) ≡ true) joined h.1 }) in
    let left : length (spellings (n ∷ nodes) ++ rest) - record_len n ≡ length after = omega (arith, ap length joined) in
    let dropped : drop (record_len n) (spelling n ++ after) ≡ after = ap (λ k. drop k (spelling n ++ after)) (sym long) ∙ drop-append_seam (spelling n) after in
    let later = reading_spelled more max nodes rest (omega arith) (subst (λ k. FitSector max k nodes) left h.2) end in
    ap (λ (xs : List ℕ). reading_of (suc more) max xs) joined
    ∙ reads_next more max (spelling n ++ after)
    ∙ ap (next_of more max (spelling n ++ after)) begins
    ∙ ap (λ (xs : List ℕ). after_record (Closed n (record_len n)) (reading_of more max xs)) dropped
    ∙ ap (after_record (Closed n (record_len n))) later

-- A sector reads as the nodes that it holds, with what is found in the rest.
pub reading_holds : (sector : List ℕ) (nodes : List Node) (rest : List ℕ) → HoldsNodes sector nodes rest → IsEnd (found (length sector / 4) rest)
    → reading sector ≡ record { nodes = nodes; ending = found (length sector / 4) rest }
reading_holds sector nodes rest h end =
    let z = length sector in
    let long = length_spellings (z / 4) z nodes h.fit in
    let whole = ap length h.spelled ∙ length-append (spellings nodes) rest in
    let many = records_count nodes in
    ap (λ (xs : List ℕ). reading_of (z / 64) (z / 4) xs) h.spelled
    ∙ reading_spelled (z / 64) (z / 4) nodes rest (omega arith) (subst (λ k. FitSector (z / 4) k nodes) (ap length h.spelled) h.fit) end

-- One more node at the end.
pub fit_more : (max len : ℕ) (nodes : List Node) (n : Node) → FitSector max len nodes → is_lawful n ≡ true → fits_rest n.kind (dsize n) max (len - sum_by record_len nodes) ≡ true
    → FitSector max len (nodes ++ n ∷ [])
fit_more max len [] n h lawful room =
    let all : len - 0 ≡ len = omega arith in
    (lawful, subst (λ k. fits_rest n.kind (dsize n) max k ≡ true) all room, tt)
fit_more max len (m ∷ nodes) n h lawful room =
    let e = sum_by-cons record_len m nodes in
    let same : len - sum_by record_len (m ∷ nodes) ≡ len - record_len m - sum_by record_len nodes = omega arith in
    (h.0, h.1, fit_more max (len - record_len m) nodes n h.2 lawful (subst (λ k. fits_rest n.kind (dsize n) max k ≡ true) same room))

-- Where a gate is open, or too few bytes are left, no record is found.
abbrev pub IsOpen : List ℕ → Type 0
IsOpen rest = (length rest < 64) ⊎ (get_or rest 7 0 ≢ 0)

pub open_found : (max : ℕ) (rest : List ℕ) → IsOpen rest → found max rest ≡ cond (is_erased rest) Free Torn
open_found max rest (inl few) =
    ap (λ t. cond (t || not (eqb (get_or rest 7 0) 0)) (cond (is_erased rest) Free Torn) (closed_or_bad rest (broken_rule max rest))) (lt-ltb (length rest) 64 few)
open_found max rest (inr open_gate) =
    ap (λ t. cond (ltb (length rest) 64 || not t) (cond (is_erased rest) Free Torn) (closed_or_bad rest (broken_rule max rest))) (ne_eqb (get_or rest 7 0) 0 open_gate)
    ∙ by_or (ltb (length rest) 64)
  where
    by_or : (b : Bool) → cond (b || true) (cond (is_erased rest) Free Torn) (closed_or_bad rest (broken_rule max rest)) ≡ cond (is_erased rest) Free Torn
    by_or true = refl
    by_or false = refl

free_or_torn_ends : (b : Bool) → IsEnd (cond b Free Torn)
free_or_torn_ends true = tt
free_or_torn_ends false = tt

pub reading_open : (sector : List ℕ) (nodes : List Node) (rest : List ℕ) → HoldsNodes sector nodes rest → IsOpen rest
    → reading sector ≡ record { nodes = nodes; ending = cond (is_erased rest) Free Torn }
reading_open sector nodes rest h o =
    let e = open_found (length sector / 4) rest o in
    reading_holds sector nodes rest h (subst IsEnd (sym e) (free_or_torn_ends (is_erased rest))) ∙ ap (λ r. record { nodes = nodes; ending = r }) e

-- erased flash
pub erased_open : (k : ℕ) → IsOpen (replicate k 255)
erased_open k =
    let long : length {A = ℕ} (replicate k 255) ≡ k = length-replicate k 255 in
    elim (cases_lt k 64) [
      | inl few ↦ inl (omega arith)
      | inr many ↦ inr (let e : get_or {A = ℕ} (replicate k 255) 7 0 ≡ 255 = get_or-replicate k 7 255 0 (omega arith) in λ h. absurd (omega arith))
    ]

pub not_erased : (n : Node) (nodes : List Node) (rest : List ℕ) → is_erased (spellings (n ∷ nodes) ++ rest) ≡ false
not_erased n nodes rest = refl

-- A record is written after the others, whole or in part.
pub written : (sector part : List ℕ) (nodes : List Node) (free : ℕ) → HoldsNodes sector nodes (replicate free 255)
    → replaced (sum_by record_len nodes) part sector ≡ spellings nodes ++ (part ++ replicate (free - length part) 255)
written sector part nodes free h =
    let front = spellings nodes in
    let long : length front ≡ sum_by record_len nodes = length_spellings (length sector / 4) (length sector) nodes h.fit in
    ap (λ k. replaced k part sector) (sym long)
    ∙ ap (λ (xs : List ℕ). replaced (length front) part xs) h.spelled
    ∙ ap (λ (xs : List ℕ). xs ++ part ++ drop (length front + length part) (front ++ replicate free 255)) (take-append_seam front (replicate free 255))
    ∙ ap (λ (xs : List ℕ). front ++ part ++ xs) (drop-append-add front (replicate free 255) (length part) ∙ drop-replicate (length part) free 255)
    ∙ append_assoc front part (replicate (free - length part) 255)

length_written : (sector part : List ℕ) (nodes : List Node) (free : ℕ) → HoldsNodes sector nodes (replicate free 255) → length part ≤ free
    → length (replaced (sum_by record_len nodes) part sector) ≡ length sector
length_written sector part nodes free h short =
    let e = length-append (spellings nodes) (part ++ replicate (free - length part) 255) in
    let f = length-append part (replicate (free - length part) 255) in
    let g : length {A = ℕ} (replicate (free - length part) 255) ≡ free - length part = length-replicate (free - length part) 255 in
    let i : length {A = ℕ} (replicate free 255) ≡ free = length-replicate free 255 in
    let whole = ap length h.spelled ∙ length-append (spellings nodes) (replicate free 255) in
    ap length (written sector part nodes free h) ∙ omega arith

pub whole_written : (sector : List ℕ) (nodes : List Node) (free : ℕ) (n : Node) → HoldsNodes sector nodes (replicate free 255) → is_lawful n ≡ true → fits_rest n.kind (dsize n) (length sector / 4) free ≡ true
    → HoldsNodes (replaced (sum_by record_len nodes) (spelling n) sector) (nodes ++ n ∷ []) (replicate (free - record_len n) 255)
whole_written sector nodes free n h lawful room =
    let z = length sector in
    let long = length_spelled n lawful in
    let fits = rest_fits n.kind (dsize n) (z / 4) free room in
    let front = length_spellings (z / 4) z nodes h.fit in
    let i : length {A = ℕ} (replicate free 255) ≡ free = length-replicate free 255 in
    let whole = ap length h.spelled ∙ length-append (spellings nodes) (replicate free 255) in
    let left : free ≡ z - sum_by record_len nodes = omega arith in
    let same = length_written sector (spelling n) nodes free h (omega arith) in
    let joined : spellings (nodes ++ n ∷ []) ≡ spellings nodes ++ spelling n = flat_map-append spelling nodes (n ∷ []) ∙ ap (λ (xs : List ℕ). spellings nodes ++ xs) (append-nil (spelling n)) in
    record {
      spelled =
          written sector (spelling n) nodes free h
          ∙ ap (λ k. spellings nodes ++ (spelling n ++ replicate (free - k) 255)) long
          ∙ sym (append_assoc (spellings nodes) (spelling n) (replicate (free - record_len n) 255))
          ∙ ap (λ (xs : List ℕ). xs ++ replicate (free - record_len n) 255) (sym joined);
      fit = subst (λ k. FitSector (k / 4) k (nodes ++ n ∷ [])) (sym same)
          (fit_more (z / 4) z nodes n h.fit lawful (subst (λ k. fits_rest n.kind (dsize n) (z / 4) k ≡ true) left room));
    }

pub part_written : (sector part : List ℕ) (nodes : List Node) (free : ℕ) → HoldsNodes sector nodes (replicate free 255) → length part ≤ free
    → HoldsNodes (replaced (sum_by record_len nodes) part sector) nodes (part ++ replicate (free - length part) 255)
part_written sector part nodes free h short = record {
  spelled = written sector part nodes free h;
  fit = subst (λ k. FitSector (k / 4) k nodes) (sym (length_written sector part nodes free h short)) h.fit;
}

-- a part of a record whose gate is open
pub part_open : (part : List ℕ) (free : ℕ) → 64 ≤ length part → get_or part 7 0 ≢ 0 → IsOpen (part ++ replicate free 255)
part_open part free long open_gate = inr (λ e. open_gate (sym (get_or_append_left part (replicate free 255) 0 7 (omega arith)) ∙ e))
