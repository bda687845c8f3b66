-- The pieces of a text between its slashes, and the answer that they make.
use Rattle.std.proofs.Common.{◌≡◌, ℕ, zero, suc, ◌+◌, ◌-◌, ◌<◌, ◌≤◌, Bool, true, false, cond, not, ◌&&◌, eqb, leb, ltb, List, [], ◌∷◌, length, take, drop, get_or, Option, Some, None, refl, sym, ap, ◌∙◌, ⊎_elim, arith, length-drop}
use Rattle.std.specs.List.{list_all, slice_split, position, position_or_len, onto_first}
use Rattle.std.proofs.lemmas.Bool.{cases_Bool, lt-ltb, ltb-true, ltb-false, false_from_ne_true}
use Rattle.std.proofs.lemmas.Option.{none-some, cond_some}
use Rattle.std.proofs.lemmas.List.{take_all, length-take-le}
use Rattle.std.proofs.lemmas.List.Folds.{list_all_more}
use Rattle.std.proofs.lemmas.List.Sums.{position_or_len_is, fails_before_first}
use Rattle.std.proofs.lemmas.List.Splits.{slice_split_first, slice_split-cons_no}
use Rattle.jffs_node.specs.declared.path.PathFault.{PathFault}
use Rattle.jffs_node.specs.declared.path.PathFault.TheVariants.{NameByte}
use Rattle.jffs_node.specs.Name.{is_name_byte}
use Rattle.jffs_node.specs.Path.{length_fault, name_fault, or_else}

-- where a slash was looked for
found_some : (k n e : ℕ) → cond (ltb k n) (Some k) None ≡ Some e → (k < n) × (k ≡ e)
found_some k n e h = let parts = cond_some (ltb k n) k e h in (ltb-true k n parts.0, parts.1)

found_none : (k n : ℕ) → ◌≡◌ {A = Option ℕ} (cond (ltb k n) (Some k) None) None → n ≤ k
found_none k n h = ltb-false k n (false_from_ne_true (ltb k n) (λ t. none-some k (sym h ∙ ap (λ b. cond b (Some k) None) t)))

pub one_piece : (xs : List ℕ) → length xs ≤ position_or_len (λ c. eqb c 47) xs → slice_split (λ c. eqb c 47) xs ≡ xs ∷ []
one_piece [] h = refl
one_piece (x ∷ xs) h = ⊎_elim
    (λ t. let e = ap (λ b. cond (not b) (1 + position_or_len (λ c. eqb c 47) xs) 0) t in absurd (omega arith))
    (λ f.
    let e = ap (λ b. cond (not b) (1 + position_or_len (λ c. eqb c 47) xs) 0) f in
    slice_split-cons_no (λ c. eqb c 47) x xs f ∙ ap (onto_first x) (one_piece xs (omega arith)))
    (cases_Bool (eqb x 47))

pub one_piece_if : (xs : List ℕ) → position (λ c. eqb c 47) xs ≡ None → slice_split (λ c. eqb c 47) xs ≡ xs ∷ []
one_piece_if xs h = one_piece xs (found_none _ (length xs) h)

pub piece_before : (xs : List ℕ) (end : ℕ) → position (λ c. eqb c 47) xs ≡ Some end
    → slice_split (λ c. eqb c 47) xs ≡ take end xs ∷ slice_split (λ c. eqb c 47) (take (length xs - (end + 1)) (drop (end + 1) xs))
piece_before xs end h =
    let f = found_some (position_or_len (λ c. eqb c 47) xs) (length xs) end h in
    let l = length-drop (end + 1) xs in
    slice_split_first (λ c. eqb c 47) xs 0 f.0
    ∙ ap (λ k. take k xs ∷ slice_split (λ c. eqb c 47) (drop (k + 1) xs)) f.1
    ∙ ap (λ ys. take end xs ∷ slice_split (λ c. eqb c 47) ys) (sym (take_all (length xs - (end + 1)) (drop (end + 1) xs) (omega arith)))

-- Where a byte was looked for that no name has: what stands before it are a name's bytes, and where it is a slash, it is
-- the first.
abbrev pub no_name_byte : ℕ → Bool
no_name_byte b = not (is_name_byte b)

is_of_not : (b : Bool) → not b ≡ false → b ≡ true
is_of_not true h = refl
is_of_not false h = cc

before_first : (xs : List ℕ) (k : ℕ) → k ≤ position_or_len no_name_byte xs → k ≤ length xs → list_all is_name_byte (take k xs) ≡ true
before_first xs zero within inside = refl
before_first xs (suc k) within inside =
    let e : suc k ≡ k + 1 = omega arith in
    ap (λ n. list_all is_name_byte (take n xs)) e
    ∙ list_all_more is_name_byte xs k 0 (omega arith)
    ∙ ap (λ b. b && is_name_byte (get_or xs k 0)) (before_first xs k (omega arith) (omega arith))
    ∙ is_of_not (is_name_byte (get_or xs k 0)) (fails_before_first no_name_byte xs k 0 (omega arith))

no_slash : (a b c : Bool) → not (a && b && not c) ≡ false → c ≡ false
no_slash true true true h = cc
no_slash true true false h = refl
no_slash true false c h = cc
no_slash false b c h = cc

first_slash : (xs : List ℕ) (end : ℕ) → end ≤ position_or_len no_name_byte xs → end ≤ length xs
    → (end < length xs → eqb (get_or xs end 0) 47 ≡ true) → position_or_len (λ c. eqb c 47) xs ≡ end
first_slash xs end within inside here =
    position_or_len_is (λ c. eqb c 47) xs end 0 inside
    (λ k l.
    let b = get_or xs k 0 in
    no_slash (leb 33 b) (leb b 126) (eqb b 47) (fails_before_first no_name_byte xs k 0 (omega arith)))
    here

or_none : (o : Option PathFault) → or_else o None ≡ o
or_none None = refl
or_none (Some fault) = refl

fault_of_short : (bytes : List ℕ) → list_all is_name_byte bytes ≡ true → name_fault bytes ≡ length_fault (length bytes)
fault_of_short bytes h = ap (λ b. or_else (length_fault (length bytes)) (cond b None (Some NameByte))) h ∙ or_none (length_fault (length bytes))

-- a text without such a byte
pub whole_name : (xs : List ℕ) → position no_name_byte xs ≡ None
    → (slice_split (λ c. eqb c 47) xs ≡ xs ∷ []) × (name_fault xs ≡ length_fault (length xs))
whole_name xs h =
    let all = found_none _ (length xs) h in
    let first = first_slash xs (length xs) all (omega arith) (λ l. absurd (omega arith)) in (
      one_piece xs (omega arith),
      fault_of_short xs (ap (list_all is_name_byte) (sym (take_all (length xs) xs (omega arith))) ∙ before_first xs (length xs) all (omega arith)),
    )

-- a text with a slash there
pub name_to_slash : (xs : List ℕ) (end : ℕ) → position no_name_byte xs ≡ Some end → get_or xs end 0 ≡ 47
    → (position (λ c. eqb c 47) xs ≡ Some end) × (name_fault (take end xs) ≡ length_fault end)
name_to_slash xs end h slash =
    let found = found_some (position_or_len no_name_byte xs) (length xs) end h in
    let first = first_slash xs end (omega arith) (omega arith) (λ l. ap (λ b. eqb b 47) slash) in
    let all = before_first xs end (omega arith) (omega arith) in (
      ap (λ k. cond (ltb k (length xs)) (Some k) None) first ∙ ap (λ b. cond b (Some end) None) (lt-ltb end (length xs) (omega arith)),
      fault_of_short (take end xs) all ∙ ap length_fault (length-take-le end xs (omega arith)),
    )
