-- What is read as a node begins with the record of that node.
use Rattle.std.proofs.Common.{◌≡◌, ℕ, zero, suc, ◌+◌, ◌-◌, ◌%◌, ◌/◌, ◌^◌, ◌<◌, ◌≤◌, Bool, true, false, cond, not, ◌&&◌, ◌||◌, ltb, leb, eqb, List, [], ◌∷◌, ◌++◌, length, take, drop, get_or, replicate, Option, Some, None, is_some, is_none, unwrap_or, refl, sym, ap, subst, ◌∙◌, w16, w32, arith, ⊎_elim, take-append-drop, take-add, drop-cons}
use Rattle.std.specs.Option.{option_map_or}
use Rattle.std.specs.List.{list_all, AllByRecursion}
use Rattle.std.specs.Int.{to_be_bytes, from_be_bytes}
use Rattle.std.proofs.lemmas.Bool.{and_parts, and_from, or_right, or_cases, or_parts, eqb-true, ltb-true, leb-true, ltb-false, lt-ltb, ne_eqb, cases_Bool, cases_lt, not-false, false≢true}
use Rattle.std.proofs.lemmas.Option.{none-some}
use Rattle.std.proofs.lemmas.Nat.{be_bytes_2, be_bytes_4}
use Rattle.std.proofs.lemmas.Slice.Eq.{bytes_eq-Decides}
use Rattle.std.proofs.lemmas.List.{length-take, length-drop, get_or-take, get_or-drop, get_or_past, drop-take, nil_from_length}
use Rattle.jffs_node.specs.declared.node.Node.{Node}
use Rattle.jffs_node.specs.declared.node.Kind.TheVariants.{File, Directory, Unmount}
use Rattle.jffs_node.specs.declared.read.Why.{Why}
use Rattle.jffs_node.specs.declared.read.Read.TheVariants.{Closed, Free, Torn, Bad}
use Rattle.jffs_node.specs.Name.{is_name, padded_name}
use Rattle.jffs_node.specs.Record.{header, spelling, magic, record_len, len_of_data, kind_byte, flags_byte, name_bytes, form_number, dsize, fill_len, is_file, is_unmount, numbers_hold, fits_rest, is_lawful, BeginsWith}
use Rattle.jffs_node.specs.Reading.{number_at, byte_at, form_at, name_field, name_at, data_len, data_at, node_at, first_broken, rules, broken_rule, closed_or_bad, is_erased}
use Rattle.jffs_node.specs.Laws.{FoundAreRecords}
use Rattle.jffs_node.proofs.Fitting.{small_bytes}
use Rattle.jffs_node.proofs.Names.{long_enough}
use Rattle.jffs_node.proofs.Rules.{fits_rest_parts}

pub all_hold : (rules : List (Bool × Why)) → first_broken rules ≡ None → AllByRecursion (λ r. r.0 ≡ true) rules
all_hold [] h = tt
all_hold (rule ∷ rules) h = ⊎_elim
    (λ t. (t, all_hold rules (sym (ap (λ b. cond b (first_broken rules) (Some rule.1)) t) ∙ h)))
    (λ f. absurd (none-some rule.1 (sym h ∙ ap (λ b. cond b (first_broken rules) (Some rule.1)) f)))
    (cases_Bool rule.0)

kind_byte_is : (b : ℕ) → is_some (cond (eqb b 1) (Some File) (cond (eqb b 2) (Some Directory) (cond (eqb b 3) (Some Unmount) None))) ≡ true
    → kind_byte (unwrap_or (cond (eqb b 1) (Some File) (cond (eqb b 2) (Some Directory) (cond (eqb b 3) (Some Unmount) None))) File) ≡ b
kind_byte_is b h = ⊎_elim
    (λ one. ap (λ t. kind_byte (unwrap_or (cond t (Some File) (cond (eqb b 2) (Some Directory) (cond (eqb b 3) (Some Unmount) None))) File)) one ∙ sym (eqb-true b 1 one))
    (λ no_one. ⊎_elim
    (λ two. ap (λ t. kind_byte (unwrap_or (cond t (Some File) (cond (eqb b 2) (Some Directory) (cond (eqb b 3) (Some Unmount) None))) File)) no_one
    ∙ ap (λ t. kind_byte (unwrap_or (cond t (Some Directory) (cond (eqb b 3) (Some Unmount) None)) File)) two ∙ sym (eqb-true b 2 two))
    (λ no_two. ⊎_elim
    (λ three. ap (λ t. kind_byte (unwrap_or (cond t (Some File) (cond (eqb b 2) (Some Directory) (cond (eqb b 3) (Some Unmount) None))) File)) no_one
    ∙ ap (λ t. kind_byte (unwrap_or (cond t (Some Directory) (cond (eqb b 3) (Some Unmount) None)) File)) no_two
    ∙ ap (λ t. kind_byte (unwrap_or (cond t (Some Unmount) None) File)) three ∙ sym (eqb-true b 3 three))
    (λ no_three. absurd (false≢true (sym (ap (λ t. is_some (cond t (Some File) (cond (eqb b 2) (Some Directory) (cond (eqb b 3) (Some Unmount) None)))) no_one
    ∙ ap (λ t. is_some (cond t (Some Directory) (cond (eqb b 3) (Some Unmount) None))) no_two
    ∙ ap (λ t. is_some (cond t (Some Unmount) None)) no_three) ∙ h)))
    (cases_Bool (eqb b 3)))
    (cases_Bool (eqb b 2)))
    (cases_Bool (eqb b 1))

flags_are : (f : ℕ) → f < 3 → cond (eqb (f % 2) 1) 1 0 + cond (eqb (f / 2 % 2) 1) 2 0 ≡ f
flags_are zero h = refl
flags_are (suc zero) h = refl
flags_are (suc (suc zero)) h = refl
flags_are (suc (suc (suc f))) h = absurd (omega arith)

flags_suit : (f : ℕ) (u : Bool) → f < 3 → (not u || eqb f 0) ≡ true
    → (not (eqb (f % 2) 1 && eqb (f / 2 % 2) 1) ≡ true) × ((not u || (not (eqb (f % 2) 1) && not (eqb (f / 2 % 2) 1))) ≡ true)
flags_suit zero u h k = (refl, or_right (not u) true refl)
flags_suit (suc zero) true h k = cc
flags_suit (suc zero) false h k = (refl, refl)
flags_suit (suc (suc zero)) true h k = cc
flags_suit (suc (suc zero)) false h k = (refl, refl)
flags_suit (suc (suc (suc f))) u h k = absurd (omega arith)

-- the bytes of a list, one by one
small_part : (rest : List ℕ) (at k : ℕ) → ((i : ℕ) → get_or rest i 0 < 256) → (i : ℕ) → get_or (take k (drop at rest)) i 0 < 256
small_part rest at k h i = ⊎_elim
    (λ l. let e = get_or-take k (drop at rest) i 0 l in let f = get_or-drop at rest i 0 in let g = h (at + i) in omega arith)
    (λ l. let t = length-take k (drop at rest) in let e : ◌≡◌ {A = ℕ} (get_or (take k (drop at rest)) i 0) 0 = get_or_past (take k (drop at rest)) i 0 (omega arith) in omega arith)
    (cases_lt i k)

part_len : (rest : List ℕ) (at k : ℕ) → at + k ≤ length rest → length (take k (drop at rest)) ≡ k
part_len rest at k h = let t = length-take k (drop at rest) in let d = length-drop at rest in omega arith

four_back : (rest : List ℕ) (at : ℕ) → ((i : ℕ) → get_or rest i 0 < 256) → at + 4 ≤ length rest → take 4 (drop at rest) ≡ to_be_bytes w32 (number_at w32 at rest)
four_back rest at h l = sym (be_bytes_4 (take 4 (drop at rest)) (number_at w32 at rest) (part_len rest at 4 l) (small_part rest at 4 h) refl)

two_back : (rest : List ℕ) (at : ℕ) → ((i : ℕ) → get_or rest i 0 < 256) → at + 2 ≤ length rest → take 2 (drop at rest) ≡ to_be_bytes w16 (number_at w16 at rest)
two_back rest at h l = sym (be_bytes_2 (take 2 (drop at rest)) (number_at w16 at rest) (part_len rest at 2 l) (small_part rest at 2 h) refl)

four_small : (xs : List ℕ) → ((i : ℕ) → get_or xs i 0 < 256) → from_be_bytes w32 xs < 2 ^ 32
four_small xs h = let a = h 0 in let b = h 1 in let c = h 2 in let d = h 3 in omega arith

two_small : (xs : List ℕ) → ((i : ℕ) → get_or xs i 0 < 256) → from_be_bytes w16 xs < 2 ^ 16
two_small xs h = let a = h 0 in let b = h 1 in omega arith

-- a front that is known, and the piece after it
longer_front : (rest front piece : List ℕ) (at k : ℕ) → take at rest ≡ front → take k (drop at rest) ≡ piece → take (at + k) rest ≡ front ++ piece
longer_front rest front piece at k f p = take-add at k rest ∙ (λ i. f i ++ p i)

-- what is all x is copies of x
pub only : (x : ℕ) (xs : List ℕ) → list_all (λ b. eqb b x) xs ≡ true → xs ≡ replicate (length xs) x
only x [] h = refl
only x (y ∷ xs) h =
    let parts = and_parts (eqb y x) (list_all (λ b. eqb b x) xs) h in
    let same = eqb-true y x parts.0 in
    let later = only x xs parts.1 in
    λ i. same i ∷ later i

-- Names.
name_short : (u : Bool) (b : ℕ) (na : List ℕ) → cond u (eqb b 0) (leb b 20 && is_name na) ≡ true → b ≤ 20
name_short true b na h = let e = eqb-true b 0 h in omega arith
name_short false b na h = leb-true b 20 (and_parts (leb b 20) (is_name na) h).0

name_is : (b : ℕ) (na : List ℕ) → length na ≡ b → unwrap_or (cond (eqb b 0) None (Some na)) [] ≡ na
name_is b na h = ⊎_elim
    (λ none. ap (λ t. unwrap_or (cond t None (Some na)) []) none ∙ sym (nil_from_length na (h ∙ eqb-true b 0 none)))
    (λ some. ap (λ t. unwrap_or (cond t None (Some na)) []) some)
    (cases_Bool (eqb b 0))

name_suits : (u : Bool) (b : ℕ) (na : List ℕ) → length na ≡ b → cond u (eqb b 0) (leb b 20 && is_name na) ≡ true
    → option_map_or (λ name. not u && is_name name) (cond (eqb b 0) None (Some na)) u ≡ true
name_suits true b na l h = ap (λ t. option_map_or (λ name. not true && is_name name) (cond t None (Some na)) true) h
name_suits false b na l h =
    let named = (and_parts (leb b 20) (is_name na) h).1 in
    let long = (long_enough na named).0 in
    ap (λ t. option_map_or (λ name. not false && is_name name) (cond t None (Some na)) false) (ne_eqb b 0 (λ e. omega arith)) ∙ named

-- Forms.
form_number_is : (f k : ℕ) (file deleted : Bool) → (eqb f 1 || (eqb f 2 && file && not deleted)) ≡ true → cond (is_some (cond (eqb f 2) (Some k) None)) 2 1 ≡ f
form_number_is f k file deleted h = ⊎_elim
    (λ one. let e = eqb-true f 1 one in ap (λ t. cond (is_some (cond t (Some k) None)) 2 1) (ne_eqb f 2 (λ e2. omega arith)) ∙ sym e)
    (λ two. let t = (and_parts (eqb f 2) file (and_parts (eqb f 2 && file) (not deleted) two).0).0 in
    ap (λ b. cond (is_some (cond b (Some k) None)) 2 1) t ∙ sym (eqb-true f 2 t))
    (or_cases (eqb f 1) (eqb f 2 && file && not deleted) h)

form_suits : (f k : ℕ) (file deleted : Bool) → (eqb f 1 || (eqb f 2 && file && not deleted)) ≡ true → (is_none (cond (eqb f 2) (Some k) None) || (file && not deleted)) ≡ true
form_suits f k file deleted h = ⊎_elim
    (λ one. let e = eqb-true f 1 one in ap (λ t. is_none (cond t (Some k) None) || (file && not deleted)) (ne_eqb f 2 (λ e2. omega arith)))
    (λ two.
    let parts = and_parts (eqb f 2 && file) (not deleted) two in
    or_right (is_none (cond (eqb f 2) (Some k) None)) (file && not deleted) (and_from file (not deleted) (and_parts (eqb f 2) file parts.0).1 parts.1))
    (or_cases (eqb f 1) (eqb f 2 && file && not deleted) h)

size_number_is : (f k : ℕ) → (eqb f 2 || eqb k 0) ≡ true → unwrap_or (cond (eqb f 2) (Some k) None) 0 ≡ k
size_number_is f k h = ⊎_elim
    (λ two. ap (λ t. unwrap_or (cond t (Some k) None) 0) two)
    (λ other. ap (λ t. unwrap_or (cond t (Some k) None) 0) other ∙ sym (eqb-true k 0 (sym (ap (λ t. t || eqb k 0) other) ∙ h)))
    (cases_Bool (eqb f 2))

module _ (rest : List ℕ) (record_max : ℕ) (bytes : (i : ℕ) → get_or rest i 0 < 256) (long : 64 ≤ length rest) (gate : byte_at 7 rest ≡ 0) (hold : AllByRecursion (λ r. r.0 ≡ true) (rules record_max rest)) where
  size_part : (numbers_hold (node_at rest) (data_len rest) ≡ true) × (fits_rest (node_at rest).kind (data_len rest) record_max (length rest) ≡ true)
  size_part = and_parts _ _ hold.1.1.1.1.1.1.0

  fits : len_of_data (data_len rest) ≤ length rest
  fits = (fits_rest_parts (node_at rest).kind (data_len rest) record_max (length rest) size_part.1).1

  dsize_is : dsize (node_at rest) ≡ data_len rest
  dsize_is = part_len rest 64 (data_len rest) (let f = fits in omega arith)

  name_rule : (cond (is_unmount (node_at rest).kind) (eqb (byte_at 6 rest) 0) (leb (byte_at 6 rest) 20 && is_name (name_at rest)) ≡ true) × (list_all (λ b. eqb b 0) (drop (byte_at 6 rest) (name_field rest)) ≡ true)
  name_rule = and_parts _ _ hold.1.1.1.0

  short : byte_at 6 rest ≤ 20
  short = name_short (is_unmount (node_at rest).kind) (byte_at 6 rest) (name_at rest) name_rule.0

  field_len : length (name_field rest) ≡ 20
  field_len = part_len rest 44 20 (omega arith)

  name_len : length (name_at rest) ≡ byte_at 6 rest
  name_len = let t = length-take (byte_at 6 rest) (name_field rest) in let f = field_len in let s = short in omega arith

  named : name_bytes (node_at rest) ≡ name_at rest
  named = name_is (byte_at 6 rest) (name_at rest) name_len

  name_whole : name_field rest ≡ padded_name (name_bytes (node_at rest))
  name_whole =
      let l : length (drop (byte_at 6 rest) (name_field rest)) ≡ 20 - length (name_at rest) = (let d = length-drop (byte_at 6 rest) (name_field rest) in let f = field_len in let n = name_len in omega arith) in
      sym (take-append-drop (byte_at 6 rest) (name_field rest))
      ∙ ap (λ (xs : List ℕ). name_at rest ++ xs) {y = replicate (20 - length (name_at rest)) 0} (only 0 (drop (byte_at 6 rest) (name_field rest)) name_rule.1 ∙ ap (λ k. replicate k 0) l)
      ∙ ap padded_name (sym named)

  flags_rule : (byte_at 5 rest < 3) × ((not (is_unmount (node_at rest).kind) || eqb (byte_at 5 rest) 0) ≡ true)
  flags_rule = let p = and_parts (ltb (byte_at 5 rest) 3) (not (is_unmount (node_at rest).kind) || eqb (byte_at 5 rest) 0) hold.1.1.0 in (ltb-true (byte_at 5 rest) 3 p.0, p.1)

  four_bytes : take 4 (drop 4 rest) ≡ kind_byte (node_at rest).kind ∷ flags_byte (node_at rest) ∷ length (name_bytes (node_at rest)) ∷ 0 ∷ []
  four_bytes =
      let k = kind_byte_is (byte_at 4 rest) hold.1.0 in
      let f = flags_are (byte_at 5 rest) flags_rule.0 in
      let l : length (name_bytes (node_at rest)) ≡ byte_at 6 rest = ap (λ (xs : List ℕ). length xs) named ∙ name_len in
      ap (λ (xs : List ℕ). take 4 xs) (drop-cons rest 4 0 (omega arith))
      ∙ ap (λ (xs : List ℕ). byte_at 4 rest ∷ take 3 xs) (drop-cons rest 5 0 (omega arith))
      ∙ ap (λ (xs : List ℕ). byte_at 4 rest ∷ byte_at 5 rest ∷ take 2 xs) (drop-cons rest 6 0 (omega arith))
      ∙ ap (λ (xs : List ℕ). byte_at 4 rest ∷ byte_at 5 rest ∷ byte_at 6 rest ∷ take 1 xs) (drop-cons rest 7 0 (omega arith))
      ∙ (λ i. sym k i ∷ sym f i ∷ sym l i ∷ gate i ∷ [])

  form_is : form_number (node_at rest) ≡ form_at rest
  form_is = form_number_is (form_at rest) (number_at w32 40 rest) (is_file (node_at rest).kind) (node_at rest).deleted hold.1.1.1.1.0

  size_is : unwrap_or (node_at rest).size 0 ≡ number_at w32 40 rest
  size_is = size_number_is (form_at rest) (number_at w32 40 rest) hold.1.1.1.1.1.0

  front_numbers : take 44 rest ≡ header (node_at rest)
  front_numbers =
      let f4 : take 4 rest ≡ magic = (bytes_eq-Decides (take 4 rest) magic).0 hold.0 in
      let f8 = longer_front rest _ _ 4 4 f4 four_bytes in
      let f12 = longer_front rest _ _ 8 4 f8 (four_back rest 8 bytes (omega arith)) in
      let f16 = longer_front rest _ _ 12 4 f12 (four_back rest 12 bytes (omega arith)) in
      let f20 = longer_front rest _ _ 16 4 f16 (four_back rest 16 bytes (omega arith)) in
      let f24 = longer_front rest _ _ 20 4 f20 (four_back rest 20 bytes (omega arith)) in
      let f28 = longer_front rest _ _ 24 4 f24 (four_back rest 24 bytes (omega arith) ∙ ap (to_be_bytes w32) (sym dsize_is)) in
      let f32 = longer_front rest _ _ 28 4 f28 (four_back rest 28 bytes (omega arith)) in
      let f34 = longer_front rest _ _ 32 2 f32 (two_back rest 32 bytes (omega arith)) in
      let f36 = longer_front rest _ _ 34 2 f34 (two_back rest 34 bytes (omega arith) ∙ ap (to_be_bytes w16) (sym form_is)) in
      let f40 = longer_front rest _ _ 36 4 f36 (four_back rest 36 bytes (omega arith)) in
      longer_front rest _ _ 40 4 f40 (four_back rest 40 bytes (omega arith) ∙ ap (to_be_bytes w32) (sym size_is))

  padding_is : take (fill_len (dsize (node_at rest))) (drop (64 + dsize (node_at rest)) rest) ≡ replicate (fill_len (dsize (node_at rest))) 255
  padding_is =
      let d = dsize_is in
      let f = fits in
      let there : list_all (λ b. eqb b 255) (drop (64 + data_len rest) (take (len_of_data (data_len rest)) rest)) ≡ true = hold.1.1.1.1.1.1.1.0 in
      let same = drop-take (64 + data_len rest) (fill_len (data_len rest)) rest in
      let here : list_all (λ b. eqb b 255) (take (fill_len (data_len rest)) (drop (64 + data_len rest) rest)) ≡ true = subst (λ (xs : List ℕ). list_all (λ b. eqb b 255) xs ≡ true) same there in
      let l = part_len rest (64 + data_len rest) (fill_len (data_len rest)) (omega arith) in
      ap (λ k. take (fill_len k) (drop (64 + k) rest)) d
      ∙ only 255 _ here ∙ ap (λ k. replicate k 255) l ∙ ap (λ k. replicate (fill_len k) 255) (sym d)

  whole_record : take (record_len (node_at rest)) rest ≡ spelling (node_at rest)
  whole_record =
      let f64 = longer_front rest _ _ 44 20 front_numbers name_whole in
      let fd = longer_front rest _ _ 64 (dsize (node_at rest)) f64 (ap (λ k. take k (drop 64 rest)) dsize_is) in
      longer_front rest _ _ (64 + dsize (node_at rest)) (fill_len (dsize (node_at rest))) fd padding_is

  spelled_here : rest ≡ spelling (node_at rest) ++ drop (record_len (node_at rest)) rest
  spelled_here = sym (take-append-drop (record_len (node_at rest)) rest) ∙ ap (λ (xs : List ℕ). xs ++ drop (record_len (node_at rest)) rest) whole_record

  four_fit : (at : ℕ) → ltb (number_at w32 at rest) (2 ^ 32) ≡ true
  four_fit at = lt-ltb (number_at w32 at rest) (2 ^ 32) (four_small (take 4 (drop at rest)) (small_part rest at 4 bytes))

  lawful_here : is_lawful (node_at rest) ≡ true
  lawful_here =
      let flags = flags_suit (byte_at 5 rest) (is_unmount (node_at rest).kind) flags_rule.0 flags_rule.1 in
      let name = name_suits (is_unmount (node_at rest).kind) (byte_at 6 rest) (name_at rest) name_len name_rule.0 in
      let form = form_suits (form_at rest) (number_at w32 40 rest) (is_file (node_at rest).kind) (node_at rest).deleted hold.1.1.1.1.0 in
      let amount = ap (λ k. ltb k (2 ^ 32)) dsize_is ∙ four_fit 24 in
      let size = ap (λ k. ltb k (2 ^ 32)) size_is ∙ four_fit 40 in
      let writer = lt-ltb (number_at w16 32 rest) (2 ^ 16) (two_small (take 2 (drop 32 rest)) (small_part rest 32 2 bytes)) in
      let every = small_bytes (data_at rest) (small_part rest 64 (data_len rest) bytes) in
      and_from _ _
      (and_from _ _
      (and_from _ _ (and_from _ _ (and_from _ _ (and_from _ _ (and_from _ _ (and_from _ _ (and_from _ _ (and_from _ _ (and_from _ _ (four_fit 8) (four_fit 12)) (four_fit 16)) (four_fit 20)) (four_fit 28)) writer) (four_fit 36)) amount) size) every)
      (and_from _ _ (and_from _ _ (and_from _ _ flags.0 flags.1) name) form))
      (ap (λ k. numbers_hold (node_at rest) k) dsize_is ∙ size_part.0)

  begins_here : BeginsWith rest record_max (node_at rest) (drop (record_len (node_at rest)) rest)
  begins_here = record {
    spelled = spelled_here;
    lawful = lawful_here;
    placed = ap (λ k. fits_rest (node_at rest).kind k record_max (length rest)) dsize_is ∙ size_part.1;
  }

no_erased_record : (rest : List ℕ) (n : Node) (len : ℕ) → cond (is_erased rest) Free Torn ≡ Closed n len → ⊥
no_erased_record rest n len h = ⊎_elim
    (λ e. free_closed (sym (ap (λ t. cond t Free Torn) e) ∙ h))
    (λ e. torn_closed (sym (ap (λ t. cond t Free Torn) e) ∙ h))
    (cases_Bool (is_erased rest))
  where
    free_closed : Free ≡ Closed n len → ⊥
    free_closed e = cc

    torn_closed : Torn ≡ Closed n len → ⊥
    torn_closed e = cc

closed_rules : (rest : List ℕ) (o : Option Why) (n : Node) (len : ℕ) → closed_or_bad rest o ≡ Closed n len → (o ≡ None) × (node_at rest ≡ n) × (len_of_data (data_len rest) ≡ len)
closed_rules rest None n len h = (refl, the_node (node_at rest) n _ len h, the_len (node_at rest) n _ len h)
  where
    the_node : (a b : Node) (k l : ℕ) → Closed a k ≡ Closed b l → a ≡ b
    the_node a b k l e = cc

    the_len : (a b : Node) (k l : ℕ) → Closed a k ≡ Closed b l → k ≡ l
    the_len a b k l e = cc
closed_rules rest (Some w) n len h = absurd (bad_closed h)
  where
    bad_closed : Bad w ≡ Closed n len → ⊥
    bad_closed e = cc

pub found_are_records : FoundAreRecords
found_are_records rest record_max n len bytes h = ⊎_elim
    (λ blank. absurd (no_erased_record rest n len (sym (ap (λ t. cond t (cond (is_erased rest) Free Torn) (closed_or_bad rest (broken_rule record_max rest))) blank) ∙ h)))
    (λ written.
    let parts = or_parts (ltb (length rest) 64) (not (eqb (byte_at 7 rest) 0)) written in
    let long = ltb-false (length rest) 64 parts.0 in
    let gate = eqb-true (byte_at 7 rest) 0 (not-false (eqb (byte_at 7 rest) 0) parts.1) in
    let closed = closed_rules rest (broken_rule record_max rest) n len (sym (ap (λ t. cond t (cond (is_erased rest) Free Torn) (closed_or_bad rest (broken_rule record_max rest))) written) ∙ h) in
    let hold = all_hold (rules record_max rest) closed.0 in
    let d = dsize_is rest record_max bytes long gate hold in
    let same_len : record_len n ≡ len = ap record_len (sym closed.1) ∙ ap len_of_data d ∙ closed.2 in
    (subst (λ m. BeginsWith rest record_max m (drop (record_len m) rest)) closed.1 (begins_here rest record_max bytes long gate hold), sym same_len))
    (cases_Bool (ltb (length rest) 64 || not (eqb (byte_at 7 rest) 0)))
