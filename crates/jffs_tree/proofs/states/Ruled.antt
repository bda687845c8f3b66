-- The rules of a tree, inode by inode.
use Rattle.std.proofs.Common.{◌≡◌, ℕ, Bool, true, false, ◌&&◌, IsTrue, List, [], ◌∷◌, length, map, ⊎_elim, Some, is_some, sym, ap, ◌∙◌}
use Rattle.std.specs.List.{AllByRecursion, list_all, range_with_len}
use Rattle.std.proofs.lemmas.Bool.{and_parts, and_from, or_left, or_right, cases_Bool}
use Rattle.std.proofs.lemmas.Option.{none-some, same_Some}
use Rattle.std.proofs.lemmas.List.Folds.{list_all-map}
use Rattle.jffs_node.specs.declared.node.Node.{Node}
use Rattle.jffs_node.specs.declared.node.Kind.TheVariants.{File}
use Rattle.jffs_node.specs.Record.{is_lawful}
use Rattle.jffs_inodes.specs.Held.{Entry, bytes_of, written, Held, bytes_are_written}
use Rattle.jffs_tree.specs.State.{State, state_of_past}
use Rattle.jffs_tree.specs.Origin.{concerns, entry, size_in, origin, newest, held, tree_of, version_of, writers_of, has_size}
use Rattle.jffs_tree.specs.Check.{each_fits, parents_are_there, names_differ, is_within, check}
use Rattle.jffs_tree.specs.Deciding.{IsLawfulPast}
use Rattle.jffs_tree.proofs.states.Pointwise.{at-state, sorted-state}
use Rattle.jffs_tree.proofs.states.Steps.{entry-other, entry-deleted, entry-written, newest-written}
use Rattle.jffs_tree.proofs.trees.Grown.{size_said, held_at, held_same}
use Rattle.jffs_tree.proofs.decisions.Copies.{state_of_tree}
use Rattle.jffs_tree.proofs.states.States.{all_at, all_from}
use Rattle.jffs_tree.proofs.states.Kept.{IsOrderly, orderly, rules_from}
use Rattle.jffs_tree.proofs.states.Entries.{lawful_entry}

-- Each byte of an inode has a last writer, unless its newest node states the size.
abbrev pub HasWriters : List Node → Type 0
HasWriters past = (i : ℕ) (e : Entry) → entry past i ≡ Some e → bytes_are_written (held_at past i e) ≡ true

abbrev checked : State → List Node → Bool
checked s past = parents_are_there s && names_differ s && list_all (λ (h : ℕ × Held). bytes_are_written h.1) (tree_of past) && list_all (λ (e : ℕ × Entry). is_within 8 s e.0) s

same_check : (past : List Node) → check (tree_of past) ≡ checked (state_of_past past) past
same_check past = ap (λ s. checked s past) (state_of_tree past (state_of_past past))

check_parts : (past : List Node) → check (tree_of past) ≡ true → IsOrderly 8 (state_of_past past) × HasWriters past
check_parts past h =
    let s = state_of_past past in
    let within = list_all (λ (e : ℕ × Entry). is_within 8 s e.0) s in
    let writers = list_all (λ (g : ℕ × Held). bytes_are_written g.1) (tree_of past) in
    let a = and_parts ((parents_are_there s && names_differ s) && writers) within (sym (same_check past) ∙ h) in
    let b = and_parts (parents_are_there s && names_differ s) writers a.0 in
    let c = and_parts (parents_are_there s) (names_differ s) b.0 in (
      orderly 8 s c.0 c.1 a.1,
      λ i e is. all_at (λ (x : ℕ × Entry). bytes_are_written (held past x).1) s i e (sym (list_all-map (λ (g : ℕ × Held). bytes_are_written g.1) (held past) s) ∙ b.1) (at-state past i ∙ is),
    )

-- what the rules of a tree say of a lawful list
pub record KeepsRules (past : List Node) : Type 0 where
  pub fits : each_fits past ≡ true
  pub orderly : IsOrderly 8 (state_of_past past)
  pub writers : HasWriters past

pub kept_rules : (past : List Node) → IsLawfulPast past → KeepsRules past
kept_rules past before =
    let parts = and_parts (each_fits past) (check (tree_of past)) before.tree in
    let checked = check_parts past parts.1 in
    record { fits = parts.0; orderly = checked.0; writers = checked.1 }

pub check_from : (past : List Node) → IsOrderly 8 (state_of_past past) → HasWriters past → check (tree_of past) ≡ true
check_from past o w =
    let s = state_of_past past in
    let rules = rules_from 8 s (sorted-state past) o in
    let written_all = list_all-map (λ (g : ℕ × Held). bytes_are_written g.1) (held past) s
    ∙ all_from (λ (x : ℕ × Entry). bytes_are_written (held past x).1) s (sorted-state past) (λ i e is. w i e (sym (at-state past i) ∙ is)) in
    same_check past
    ∙ and_from ((parents_are_there s && names_differ s) && list_all (λ (h : ℕ × Held). bytes_are_written h.1) (tree_of past)) (list_all (λ (e : ℕ × Entry). is_within 8 s e.0) s)
    (and_from (parents_are_there s && names_differ s) (list_all (λ (h : ℕ × Held). bytes_are_written h.1) (tree_of past)) (and_from (parents_are_there s) (names_differ s) rules.0 rules.1) written_all) rules.2

-- A file's node states the size, and a directory has no bytes.
module _ (n : Node) (past : List Node) (lawful : AllByRecursion (λ m. IsTrue (is_lawful m)) (n ∷ past)) (fits : each_fits (n ∷ past) ≡ true)
    (sized : n.kind ≡ File → n.deleted ≡ false → is_some n.size ≡ true) (before : HasWriters past) where
  empty : (i : ℕ) (e : Entry) → entry (n ∷ past) i ≡ Some e → e.bytes ≡ [] → bytes_are_written (held_at (n ∷ past) i e) ≡ true
  empty i e is none =
      let long : size_in (n ∷ past) i ≡ 0 = ap (λ o. length (bytes_of o)) is ∙ ap (λ (x : List ℕ). length x) none in
      or_right (has_size (newest (n ∷ past) i)) (list_all is_some (writers_of (n ∷ past) i))
      (ap (λ k. list_all is_some (map (λ p. version_of (origin (n ∷ past) i p)) (range_with_len 0 k))) long)

  its_file : (i : ℕ) (e : Entry) → concerns i n ≡ true → entry (n ∷ past) i ≡ Some e → e.kind ≡ File → bytes_are_written (held_at (n ∷ past) i e) ≡ true
  its_file i e c is file = ⊎_elim
      (λ d. absurd (none-some e (sym (entry-deleted i n past c d) ∙ is)))
      (λ d.
      let same = same_Some (written n (entry past i)) e (sym (entry-written i n past c d) ∙ is) in
      or_left (has_size (newest (n ∷ past) i)) (list_all is_some (writers_of (n ∷ past) i))
      (ap has_size (newest-written i n past c d) ∙ size_said n.size ∙ sized (ap (λ x. x.kind) same ∙ file) d))
      (cases_Bool n.deleted)

  writers_kept : HasWriters (n ∷ past)
  writers_kept i e is = ⊎_elim
      (λ file. ⊎_elim
      (λ c. its_file i e c is file)
      (λ c. ap bytes_are_written (held_same i n past c e) ∙ before i e (sym (entry-other i n past c) ∙ is))
      (cases_Bool (concerns i n)))
      (λ directory. empty i e is directory.2)
      (lawful_entry (n ∷ past) i e lawful fits is).kind

  -- so an orderly state is all that is left to show
  pub keeps_past : IsOrderly 8 (state_of_past (n ∷ past)) → IsLawfulPast (n ∷ past)
  keeps_past o = record { each = lawful; tree = and_from (each_fits (n ∷ past)) (check (tree_of (n ∷ past))) fits (check_from (n ∷ past) o writers_kept) }
