-- Erasing the oldest nodes keeps the rules of a tree.
use Rattle.std.proofs.Common.{◌≡◌, ℕ, zero, suc, ◌+◌, ◌<◌, ◌≤◌, Bool, true, false, cond, not, ◌&&◌, ◌||◌, leb, eqb, List, [], ◌∷◌, ◌++◌, length, map, ⊎_elim, Option, Some, None, is_some, IsSome, refl, sym, ap, ◌∙◌, arith}
use Rattle.std.specs.List.{list_any, list_all, range_with_len}
use Rattle.std.specs.Ordering.{nat_cmp, eq_by_cmp}
use Rattle.std.specs.Option.{option_map_or}
use Rattle.std.specs.Cmp.{unsigned_tied}
use Rattle.std.proofs.lemmas.Bool.{eqb-true, cases_Bool, cases_eq, and_parts, and_from, or_left, or_right, or_cases, or_parts, or_from, leb-true, le-leb, not_from_false, not-true}
use Rattle.std.proofs.lemmas.Option.{same_Some}
use Rattle.jffs_node.specs.declared.node.Node.{Node}
use Rattle.jffs_node.specs.Record.{is_file, kind_byte, dsize}
use Rattle.jffs_inodes.specs.Held.{Entry, bytes_of, written, Held, bytes_are_written}
use Rattle.jffs_tree.specs.State.{State, at, state_of_past}
use Rattle.jffs_tree.specs.Origin.{state_in, concerns, entry, size_in, origin, newest, held, tree_of, writers_of, version_of, has_size}
use Rattle.jffs_tree.specs.Check.{keeps_kind, keeps_offsets, keeps_form, each_fits, check, parents_are_there, names_differ, is_within}
use Rattle.jffs_tree.specs.Laws.{RulesGiveOrigins, ErasingKeepsRules}
use Rattle.jffs_tree.proofs.states.Pointwise.{at-state}
use Rattle.jffs_node.proofs.Fitting.{or_second}
use Rattle.jffs_tree.proofs.states.Steps.{entry-other, entry-deleted, entry-written}
use Rattle.jffs_tree.proofs.states.Entries.{fits_parts, each_fits_from}
use Rattle.jffs_tree.proofs.states.Erasing.{there_or_not, size-grows, erasing_keeps_tree}

-- What the rules say of each inode.
all_held : (past : List Node) (test : Held → Bool) (s : State) (i : ℕ) (e : Entry) → at s i ≡ Some e → list_all (λ (h : ℕ × Held). test h.1) (map (held past) s) ≡ true → test (held past (i, e)).1 ≡ true
all_held past test [] i e is h = cc
all_held past test (x ∷ s) i e is h =
    let parts = and_parts (test (held past x).1) (list_all (λ (g : ℕ × Held). test g.1) (map (held past) s)) h in
    ⊎_elim
    (λ tied.
    let here : i ≡ x.0 = eqb-true i x.0 (sym (unsigned_tied i x.0) ∙ tied) in
    let same = same_Some x.1 e (sym (ap (λ t. cond t (Some x.1) (at s i)) tied) ∙ is) in
    ap (λ (y : ℕ × Entry). test (held past y).1) (λ j. (here j, sym same j)) ∙ parts.0)
    (λ apart. all_held past test s i e (sym (ap (λ t. cond t (Some x.1) (at s i)) apart) ∙ is) parts.1)
    (cases_Bool (eq_by_cmp nat_cmp i x.0))

all_in_range : (f : ℕ → Option ℕ) (n a p : ℕ) → a ≤ p → p < a + n → list_all is_some (map f (range_with_len a n)) ≡ true → is_some (f p) ≡ true
all_in_range f zero a p low high h = absurd (omega arith)
all_in_range f (suc n) a p low high h =
    let parts = and_parts (is_some (f a)) (list_all is_some (map f (range_with_len (a + 1) n))) h in
    ⊎_elim
    (λ here. ap (λ q. is_some (f q)) (sym here) ∙ parts.0)
    (λ later. all_in_range f n (a + 1) p (omega arith) (omega arith) parts.1)
    (cases_eq a p)

has_version : (o : Option Node) → is_some (version_of o) ≡ true → IsSome o
has_version (Some n) h = refl
has_version None h = cc

checked_bytes : (past : List Node) → check (tree_of past) ≡ true → list_all (λ (h : ℕ × Held). bytes_are_written h.1) (tree_of past) ≡ true
checked_bytes past h =
    let s = state_in (tree_of past) in
    let within = list_all (λ (e : ℕ × Entry). is_within 8 s e.0) s in
    let written_all = list_all (λ (g : ℕ × Held). bytes_are_written g.1) (tree_of past) in
    (and_parts (parents_are_there s && names_differ s) written_all (and_parts ((parents_are_there s && names_differ s) && written_all) within h).0).1

pub rules_give_origins : RulesGiveOrigins
rules_give_origins past h i n p is none l = ⊎_elim
    (λ there.
    let w = all_held past bytes_are_written (state_of_past past) i there.0 (at-state past i ∙ there.1) (checked_bytes past (and_parts (each_fits past) (check (tree_of past)) h).1) in
    let sizeless : has_size (newest past i) ≡ false = ap has_size is ∙ ap (λ o. option_map_or (λ _. true) o false) none in
    let each = or_second (has_size (newest past i)) (list_all is_some (writers_of past i)) w sizeless in
    has_version (origin past i p) (all_in_range (λ q. version_of (origin past i q)) (size_in past i) 0 p (omega arith) (omega arith) each))
    (λ gone. absurd (let e : size_in past i ≡ 0 = ap (λ o. length (bytes_of o)) gone in omega arith))
    (there_or_not (entry past i))

-- Of each node at its turn, with and without the oldest nodes.
module _ (oldest : List Node) where
  -- what is there without them is there with them, of the same kind
  same_kind : (r : List Node) (i : ℕ) (e : Entry) → entry r i ≡ Some e → (f : Entry) × (entry (r ++ oldest) i ≡ Some f) × (f.kind ≡ e.kind)
  same_kind [] i e is = cc
  same_kind (n ∷ r) i e is = ⊎_elim
      (λ c. ⊎_elim
      (λ d. let none = entry-deleted i n r c d in cc)
      (λ d.
      let same : written n (entry r i) ≡ e = (let some = entry-written i n r c d in cc) in
      (written n (entry (r ++ oldest) i), entry-written i n (r ++ oldest) c d, ap (λ x. x.kind) same))
      (cases_Bool n.deleted))
      (λ c.
      let h = same_kind r i e (sym (entry-other i n r c) ∙ is) in
      (h.0, entry-other i n (r ++ oldest) c ∙ h.1, h.2))
      (cases_Bool (concerns i n))

  kind_kept : (r : List Node) (n : Node) → keeps_kind (r ++ oldest) n ≡ true → keeps_kind r n ≡ true
  kind_kept r n h = ⊎_elim
      (λ d. or_left n.deleted _ d)
      (λ k. or_right n.deleted (option_map_or (λ e. eqb (kind_byte e.kind) (kind_byte n.kind)) (entry r n.inode) true) (by_entry (entry r n.inode) refl k))
      (or_cases n.deleted (option_map_or (λ e. eqb (kind_byte e.kind) (kind_byte n.kind)) (entry (r ++ oldest) n.inode) true) h)
    where
      by_entry : (o : Option Entry) → entry r n.inode ≡ o → option_map_or (λ e. eqb (kind_byte e.kind) (kind_byte n.kind)) (entry (r ++ oldest) n.inode) true ≡ true
          → option_map_or (λ e. eqb (kind_byte e.kind) (kind_byte n.kind)) o true ≡ true
      by_entry None is k = refl
      by_entry (Some e) is k =
          let f = same_kind r n.inode e is in
          ap (λ x. eqb (kind_byte x) (kind_byte n.kind)) (sym f.2) ∙ sym (ap (λ o. option_map_or (λ g. eqb (kind_byte g.kind) (kind_byte n.kind)) o true) f.1) ∙ k

  offsets_kept : (r : List Node) (n : Node) → keeps_offsets (r ++ oldest) n ≡ true → keeps_offsets r n ≡ true
  offsets_kept r n h =
      let either = not (is_file n.kind) || eqb (dsize n) n.rsize in
      ⊎_elim
      (λ e. or_left either _ e)
      (λ k.
      let g = size-grows oldest n.inode r in
      let l = leb-true (size_in (r ++ oldest) n.inode) (n.offset + n.rsize) k in
      or_right either _ (le-leb (size_in r n.inode) (n.offset + n.rsize) (omega arith)))
      (or_cases either (leb (size_in (r ++ oldest) n.inode) (n.offset + n.rsize)) h)

  none_sized : (r : List Node) → list_any (λ (m : Node). is_some m.size) (r ++ oldest) ≡ false → list_any (λ (m : Node). is_some m.size) r ≡ false
  none_sized [] h = refl
  none_sized (m ∷ r) h =
      let parts = or_parts (is_some m.size) (list_any (λ (x : Node). is_some x.size) (r ++ oldest)) h in
      or_from (is_some m.size) (list_any (λ (x : Node). is_some x.size) r) parts.0 (none_sized r parts.1)

  form_kept : (r : List Node) (n : Node) → keeps_form (r ++ oldest) n ≡ true → keeps_form r n ≡ true
  form_kept r n h =
      let either = (not (is_file n.kind) || n.deleted) || is_some n.size in
      ⊎_elim
      (λ e. or_left either _ e)
      (λ k. or_right either _ (not_from_false _ (none_sized r (not-true _ k))))
      (or_cases either (not (list_any (λ (m : Node). is_some m.size) (r ++ oldest))) h)

  each_kept : (r : List Node) → each_fits (r ++ oldest) ≡ true → each_fits r ≡ true
  each_kept [] h = refl
  each_kept (n ∷ r) h =
      let parts = fits_parts n (r ++ oldest) h in
      each_fits_from n r (each_kept r parts.0) (kind_kept r n parts.1) (offsets_kept r n parts.2) (form_kept r n parts.3)

pub erasing_keeps_rules : ErasingKeepsRules
erasing_keeps_rules recent oldest dead rules =
    let parts = and_parts (each_fits (recent ++ oldest)) (check (tree_of (recent ++ oldest))) rules in
    let same = erasing_keeps_tree recent oldest dead (rules_give_origins (recent ++ oldest) rules) in
    (same, and_from (each_fits recent) (check (tree_of recent)) (each_kept oldest recent parts.0) (ap check same ∙ parts.1))
