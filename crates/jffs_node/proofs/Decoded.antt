-- What is found at an offset, by its parts.
use Rattle.std.proofs.Common.{◌≡◌, ℕ, ◌^◌, ◌≤◌, ◌<◌, Fits, w8, w32, arith, Bool, true, cond, not, ◌||◌, ltb, eqb, List, length, drop, get_or, Option, Some, None, Ok, Err, refl, sym, ap, subst, ◌∙◌}
use Rattle.jffs_node.specs.declared.read.Why.{Why}
use Rattle.jffs_node.specs.declared.read.Read.{Read}
use Rattle.jffs_node.specs.declared.read.Read.TheVariants.{Closed, Free, Torn, Bad}
use Rattle.jffs_node.specs.declared.header.Head.{Head}
use Rattle.jffs_node.specs.Laws.{IsClosedExactly}
use Rattle.jffs_node.specs.Reading.{rules, broken_rule, byte_at, data_len, data_at, node_at, is_erased, closed_or_bad, found}
use Rattle.std.proofs.lemmas.Bool.{and_parts, not-true}
use Rattle.jffs_node.specs.Record.{numbers_hold, fits_rest, len_of_data, record_len, BeginsWith}
use Rattle.jffs_node.specs.Header.{head_at, head_or_why}
use Rattle.jffs_node.proofs.Found.{records_are_found}
use Rattle.jffs_node.proofs.Sound.{all_hold, found_are_records}
use Rattle.jffs_node.proofs.Rules.{fits_rest_parts, ok_differs, ok_same, err_same}

-- a byte
pub small : (b : ℕ) → Fits w8 b → b < 256
small b h = omega arith

pub below : (a b : ℕ) → a ≤ b → b < 2 ^ 32 → a < 2 ^ 32
below a b h k = omega arith

pub fits_word : (a b : ℕ) → a ≡ b → b < 2 ^ 32 → Fits w32 a
fits_word a b e h = omega arith

-- a head with the data after it is the record's node
pub whole : (rest : List ℕ) (head : Head) (bytes : List ℕ) (len : ℕ) → head ≡ head_at rest → bytes ≡ data_at rest → len ≡ len_of_data head.amount
    → Closed (record head.node { bytes = bytes }) len ≡ Closed (node_at rest) (len_of_data (data_len rest))
whole rest head bytes len e all l =
    let long : len ≡ len_of_data (data_len rest) = l ∙ ap (λ (h : Head). len_of_data h.amount) e in
    λ i. Closed (record (e i).node { bytes = all i }) (long i)

-- a record that breaks no rule is no longer than one may be, and ends where the bytes end or before
pub record_fits : (rest : List ℕ) (record_max : ℕ) → broken_rule record_max rest ≡ None → (len_of_data (data_len rest) ≤ record_max) × (len_of_data (data_len rest) ≤ length rest)
record_fits rest record_max h =
    let hold = all_hold (rules record_max rest) h in
    let size = and_parts (numbers_hold (node_at rest) (data_len rest)) (fits_rest (node_at rest).kind (data_len rest) record_max (length rest)) hold.1.1.1.1.1.1.0 in
    let parts = fits_rest_parts (node_at rest).kind (data_len rest) record_max (length rest) size.1 in
    (parts.0, parts.1)

-- What a head that was read says of the record.
pub head_read : (rest : List ℕ) (o : Option Why) (head : Head) → Ok head ≡ head_or_why rest o → (o ≡ None) × (head ≡ head_at rest)
head_read rest None head h = (refl, ok_same head (head_at rest) h)
head_read rest (Some w) head h = absurd (ok_differs w head h)

pub head_refused : (rest : List ℕ) (o : Option Why) (w : Why) → Err w ≡ head_or_why rest o → o ≡ Some w
head_refused rest None w h = absurd (ok_differs w (head_at rest) (sym h))
head_refused rest (Some v) w h = ap (λ x. Some x) (sym (err_same {A = Head} v w h))

-- What is found, by its parts.

pub found_with : (rest : List ℕ) (record_max : ℕ) (closed : Bool) (o : Option Why) → closed ≡ not (ltb (length rest) 64 || not (eqb (byte_at 7 rest) 0)) → closed ≡ true
    → broken_rule record_max rest ≡ o → closed_or_bad rest o ≡ found record_max rest
found_with rest record_max closed o e h b =
    ap (λ p. closed_or_bad rest p) (sym b)
    ∙ ap (λ t. cond t (cond (is_erased rest) Free Torn) (closed_or_bad rest (broken_rule record_max rest))) (sym (not-true _ (sym e ∙ h)))

pub bad_found : (rest : List ℕ) (record_max : ℕ) (closed : Bool) (w : Why) → closed ≡ not (ltb (length rest) 64 || not (eqb (byte_at 7 rest) 0)) → closed ≡ true
    → Err w ≡ head_or_why rest (broken_rule record_max rest) → Bad w ≡ found record_max rest
bad_found rest record_max closed w e h r = found_with rest record_max closed (Some w) e h (head_refused rest (broken_rule record_max rest) w r)

pub record_found : (rest : List ℕ) (record_max : ℕ) (closed : Bool) (head : Head) → closed ≡ not (ltb (length rest) 64 || not (eqb (byte_at 7 rest) 0)) → closed ≡ true
    → Ok head ≡ head_or_why rest (broken_rule record_max rest) → Closed (node_at rest) (len_of_data (data_len rest)) ≡ found record_max rest
record_found rest record_max closed head e h r = found_with rest record_max closed None e h (head_read rest (broken_rule record_max rest) head r).0

-- Both laws, of what was read.
pub closed_exactly : (rest : List ℕ) (record_max : ℕ) (read : Read) → ((i : ℕ) → get_or rest i 0 < 256) → read ≡ found record_max rest → IsClosedExactly record_max rest read
closed_exactly rest record_max read bytes h n len = (λ e. begins e, λ b. closed b)
  where
    begins : read ≡ Closed n len → BeginsWith rest record_max n (drop len rest) × (len ≡ record_len n)
    begins e =
        let b = found_are_records rest record_max n len bytes (sym h ∙ e) in
        (subst (λ k. BeginsWith rest record_max n (drop k rest)) (sym b.1) b.0, b.1)

    closed : BeginsWith rest record_max n (drop len rest) × (len ≡ record_len n) → read ≡ Closed n len
    closed b = h ∙ records_are_found rest record_max n (drop len rest) b.0 ∙ ap (λ k. Closed n k) (sym b.1)
