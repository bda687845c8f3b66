-- What begins with the record of a node is read as that node.
use Rattle.std.proofs.Common.{◌≡◌, ℕ, zero, suc, ◌+◌, ◌-◌, ◌%◌, ◌/◌, ◌≤◌, Bool, true, false, cond, not, ◌&&◌, ◌||◌, ltb, leb, eqb, List, [], ◌∷◌, ◌++◌, length, take, drop, replicate, Option, Some, None, is_some, is_none, unwrap_or, refl, ap, subst, ◌∙◌, w32, arith}
use Rattle.std.specs.Option.{option_map_or}
use Rattle.std.specs.List.{list_all, AllByRecursion}
use Rattle.std.proofs.lemmas.Bool.{and_parts, and_from, le-ltb, le-leb, eq-eqb, ne_eqb}
use Rattle.jffs_node.specs.declared.node.Node.{Node}
use Rattle.jffs_node.specs.declared.node.Kind.TheVariants.{File}
use Rattle.jffs_node.specs.declared.read.Why.{Why}
use Rattle.jffs_node.specs.declared.read.Read.TheVariants.{Closed, Free, Torn}
use Rattle.jffs_node.specs.Name.{is_name}
use Rattle.jffs_node.specs.Record.{spelling, record_len, len_of_data, flags_byte, name_bytes, form_number, dsize, fill_len, is_file, is_unmount, suits_kind, fits_fields, numbers_hold, fits_rest, is_lawful}
use Rattle.jffs_node.specs.Reading.{number_at, form_at, name_at, data_len, node_at, flags_hold, name_holds, form_holds, spare_holds, size_holds, padding_holds, first_broken, rules, broken_rule, closed_or_bad, is_erased, found}
use Rattle.jffs_node.specs.Laws.{RecordsAreFound}
use Rattle.jffs_node.proofs.Names.{long_enough}
use Rattle.jffs_node.proofs.Rules.{fits_rest_parts}
use Rattle.jffs_node.proofs.Lawfulness.{FitsFields, fields_of, SuitsRules, rules_of}
use Rattle.jffs_node.proofs.Fields.{inode_field, parent_field, version_field, offset_field, data_field, rsize_field, writer_field, form_field, seq_field, size_field, kind_field, name_found, name_end, data_found, padding_found, length-spelling}

-- Names.
short_name : (u : Bool) (o : Option (List ℕ)) → option_map_or (λ name. not u && is_name name) o u ≡ true → length (unwrap_or o []) ≤ 20
short_name u None h = omega arith
short_name u (Some nb) h = (long_enough nb (and_parts (not u) (is_name nb) h).1).1

name_given : (u : Bool) (o : Option (List ℕ)) (nb : List ℕ) → option_map_or (λ name. not u && is_name name) o u ≡ true → nb ≡ unwrap_or o [] → cond (eqb (length (unwrap_or o [])) 0) None (Some nb) ≡ o
name_given u None nb h is = refl
name_given u (Some name) nb h is =
    let long = long_enough name (and_parts (not u) (is_name name) h).1 in
    ap (λ t. cond t None (Some nb)) (ne_eqb (length name) 0 (λ e. omega arith)) ∙ ap (λ x. Some x) is

name_passes : (u : Bool) (o : Option (List ℕ)) (nb : List ℕ) → option_map_or (λ name. not u && is_name name) o u ≡ true → nb ≡ unwrap_or o []
    → cond u (eqb (length (unwrap_or o [])) 0) (leb (length (unwrap_or o [])) 20 && is_name nb) ≡ true
name_passes true None nb h is = refl
name_passes false None nb h is = cc
name_passes true (Some name) nb h is = cc
name_passes false (Some name) nb h is =
    let long = long_enough name h in and_from _ _ (le-leb (length name) 20 long.1) (ap is_name is ∙ h)

pub all_same : (k x : ℕ) → list_all (λ b. eqb b x) (replicate k x) ≡ true
all_same zero x = refl
all_same (suc k) x = and_from (eqb x x) _ (eq-eqb x x refl) (all_same k x)

-- Flags, form and size.
flags_pass : (d c u : Bool) → not (d && c) ≡ true → (not u || (not d && not c)) ≡ true → (ltb (cond d 1 0 + cond c 2 0) 3 && (not u || eqb (cond d 1 0 + cond c 2 0) 0)) ≡ true
flags_pass true true u h k = cc
flags_pass true false true h k = cc
flags_pass true false false h k = refl
flags_pass false true true h k = cc
flags_pass false true false h k = refl
flags_pass false false true h k = refl
flags_pass false false false h k = refl

deleted_given : (d c : Bool) → eqb ((cond d 1 0 + cond c 2 0) % 2) 1 ≡ d
deleted_given true true = refl
deleted_given true false = refl
deleted_given false true = refl
deleted_given false false = refl

copy_given : (d c : Bool) → eqb ((cond d 1 0 + cond c 2 0) / 2 % 2) 1 ≡ c
copy_given true true = refl
copy_given true false = refl
copy_given false true = refl
copy_given false false = refl

size_given : (o : Option ℕ) (k : ℕ) → k ≡ unwrap_or o 0 → cond (eqb (cond (is_some o) 2 1) 2) (Some k) None ≡ o
size_given None k is = refl
size_given (Some size) k is = ap (λ x. Some x) is

form_passes_nested : (o : Option ℕ) (f d : Bool) → (is_none o || (f && not d)) ≡ true → (eqb (cond (is_some o) 2 1) 1 || (eqb (cond (is_some o) 2 1) 2 && f && not d)) ≡ true
form_passes_nested None f d h = refl
form_passes_nested (Some size) f d h = h

spare_passes : (o : Option ℕ) (k : ℕ) → k ≡ unwrap_or o 0 → (eqb (cond (is_some o) 2 1) 2 || eqb k 0) ≡ true
spare_passes None k is = eq-eqb k 0 is
spare_passes (Some size) k is = refl

pub none_broken : (rules : List (Bool × Why)) → AllByRecursion (λ r. r.0 ≡ true) rules → first_broken rules ≡ None
none_broken [] h = refl
none_broken (rule ∷ rules) h = ap (λ t. cond t (first_broken rules) (Some rule.1)) h.0 ∙ none_broken rules h.1

module _ (n : Node) (after : List ℕ) (lawful : is_lawful n ≡ true) where
  fields : FitsFields n
  fields = fields_of n lawful

  suits : SuitsRules n
  suits = rules_of n lawful

  short : length (name_bytes n) ≤ 20
  short = short_name (is_unmount n.kind) n.name suits.name

  node_found : node_at (spelling n ++ after) ≡ n
  node_found i = record {
    kind = unwrap_or (kind_field n after i) File;
    deleted = deleted_given n.deleted n.copy i;
    copy = copy_given n.deleted n.copy i;
    inode = inode_field n after fields.inode i;
    parent = parent_field n after fields.parent i;
    version = version_field n after fields.version i;
    offset = offset_field n after fields.offset i;
    rsize = rsize_field n after fields.rsize i;
    writer = writer_field n after fields.writer i;
    seq = seq_field n after fields.seq i;
    size = size_found i;
    name = name_given (is_unmount n.kind) n.name (name_at (spelling n ++ after)) suits.name (name_found n after short) i;
    bytes = data_found n after short fields.amount i;
  }
    where
      size_found : cond (eqb (form_at (spelling n ++ after)) 2) (Some (number_at w32 40 (spelling n ++ after))) None ≡ n.size
      size_found =
          ap (λ f. cond (eqb f 2) (Some (number_at w32 40 (spelling n ++ after))) None) (form_field n after)
          ∙ size_given n.size (number_at w32 40 (spelling n ++ after)) (size_field n after fields.size)

  kind_found : (node_at (spelling n ++ after)).kind ≡ n.kind
  kind_found = ap (λ k. unwrap_or k File) (kind_field n after)

  flags_rule : flags_hold (spelling n ++ after) ≡ true
  flags_rule =
      ap (λ k. ltb (flags_byte n) 3 && (not (is_unmount k) || eqb (flags_byte n) 0)) kind_found
      ∙ flags_pass n.deleted n.copy (is_unmount n.kind) suits.flags suits.unmount

  name_rule : name_holds (spelling n ++ after) ≡ true
  name_rule = and_from _ _
      (ap (λ k. cond (is_unmount k) (eqb (length (name_bytes n)) 0) (leb (length (name_bytes n)) 20 && is_name (name_at (spelling n ++ after)))) kind_found
      ∙ name_passes (is_unmount n.kind) n.name (name_at (spelling n ++ after)) suits.name (name_found n after short))
      (ap (λ (xs : List ℕ). list_all (λ b. eqb b 0) xs) (name_end n after short) ∙ all_same (20 - length (name_bytes n)) 0)

  form_rule : form_holds (spelling n ++ after) ≡ true
  form_rule =
      ap (λ f. eqb f 1 || (eqb f 2 && is_file (node_at (spelling n ++ after)).kind && not (node_at (spelling n ++ after)).deleted)) (form_field n after)
      ∙ ap (λ m. eqb (form_number n) 1 || (eqb (form_number n) 2 && is_file m.kind && not m.deleted)) node_found
      ∙ form_passes_nested n.size (is_file n.kind) n.deleted suits.form

  spare_rule : spare_holds (spelling n ++ after) ≡ true
  spare_rule =
      ap (λ f. eqb f 2 || eqb (number_at w32 40 (spelling n ++ after)) 0) (form_field n after)
      ∙ spare_passes n.size (number_at w32 40 (spelling n ++ after)) (size_field n after fields.size)

  size_rule : (record_max : ℕ) → fits_rest n.kind (dsize n) record_max (length (spelling n ++ after)) ≡ true → size_holds record_max (spelling n ++ after) ≡ true
  size_rule record_max room = and_from _ _
      (ap (λ m. numbers_hold m (data_len (spelling n ++ after))) node_found ∙ ap (λ d. numbers_hold n d) (data_field n after fields.amount) ∙ (and_parts (fits_fields n && suits_kind n) (numbers_hold n (dsize n)) lawful).1)
      (ap (λ k. fits_rest k (data_len (spelling n ++ after)) record_max (length (spelling n ++ after))) kind_found
      ∙ ap (λ d. fits_rest n.kind d record_max (length (spelling n ++ after))) (data_field n after fields.amount) ∙ room)

  padding_rule : padding_holds (spelling n ++ after) ≡ true
  padding_rule =
      ap (λ d. list_all (λ b. eqb b 255) (drop (64 + d) (take (len_of_data d) (spelling n ++ after)))) (data_field n after fields.amount)
      ∙ ap (λ (xs : List ℕ). list_all (λ b. eqb b 255) xs) (padding_found n after short)
      ∙ all_same (fill_len (dsize n)) 255

  no_rule_broken : (record_max : ℕ) → fits_rest n.kind (dsize n) record_max (length (spelling n ++ after)) ≡ true → broken_rule record_max (spelling n ++ after) ≡ None
  no_rule_broken record_max room =
      none_broken (rules record_max (spelling n ++ after))
      (refl, (ap is_some (kind_field n after), (flags_rule, (name_rule, (form_rule, (spare_rule, (size_rule record_max room, (padding_rule, tt))))))))

  long_rest : (record_max : ℕ) → fits_rest n.kind (dsize n) record_max (length (spelling n ++ after)) ≡ true → ltb (length (spelling n ++ after)) 64 ≡ false
  long_rest record_max room =
      let rest = length (spelling n ++ after) in
      let fits = (fits_rest_parts n.kind (dsize n) record_max rest room).1 in
      le-ltb rest 64 (omega arith)

  found_closed : (record_max : ℕ) → fits_rest n.kind (dsize n) record_max (length (spelling n ++ after)) ≡ true → found record_max (spelling n ++ after) ≡ Closed n (record_len n)
  found_closed record_max room =
      ap (λ t. cond (t || false) (cond (is_erased (spelling n ++ after)) Free Torn) (closed_or_bad (spelling n ++ after) (broken_rule record_max (spelling n ++ after)))) (long_rest record_max room)
      ∙ ap (λ o. closed_or_bad (spelling n ++ after) o) (no_rule_broken record_max room)
      ∙ ap (λ m. Closed m (len_of_data (data_len (spelling n ++ after)))) node_found
      ∙ ap (λ d. Closed n (len_of_data d)) (data_field n after fields.amount)

pub records_are_found : RecordsAreFound
records_are_found rest record_max n after h =
    let room = subst (λ (xs : List ℕ). fits_rest n.kind (dsize n) record_max (length xs) ≡ true) h.spelled h.placed in
    ap (λ (xs : List ℕ). found record_max xs) h.spelled ∙ found_closed n after h.lawful record_max room

-- The record of a lawful node is as long as the node says.
pub length_spelled : (n : Node) → is_lawful n ≡ true → length (spelling n) ≡ record_len n
length_spelled n lawful = length-spelling n [] (short_name (is_unmount n.kind) n.name (rules_of n lawful).name)
