-- A copy that the decision accepts is true.
use Rattle.std.proofs.Common.{◌≡◌, ℕ, zero, suc, min, unwrap_or, ◌≤◌, ◌+◌, Bool, true, false, cond, not, ◌&&◌, leb, ltb, eqb, T, List, [], ◌∷◌, length, map, take, drop, ⊎_elim, Option, Some, None, is_none, Ok, bytes_eq, refl, sym, ap, subst, ◌∙◌, arith}
use Rattle.std.specs.List.{list_any, find}
use Rattle.std.specs.Ordering.{nat_cmp}
use Rattle.std.proofs.lemmas.Bool.{not-false}
use Rattle.std.specs.FinMap.Entries as entries
use Rattle.std.proofs.lemmas.Bool.{leb-true, le-leb, and_parts, and_from, not_from_false, cases_Bool}
use Rattle.std.proofs.lemmas.List.{length-take, length-drop}
use Rattle.std.proofs.Math.Nat.{min-le_right}
use Rattle.std.proofs.lemmas.Slice.Eq.{bytes_eq-Decides}
use Rattle.std.proofs.lemmas.Option.{same_Some}
use Rattle.jffs_node.specs.declared.node.Node.{Node}
use Rattle.jffs_node.specs.Record.{dsize, is_unmount}
use Rattle.jffs_tree.specs.declared.wish.Cause.{Cause}
use Rattle.jffs_tree.specs.declared.wish.Cause.TheVariants.{DataLong, NotNeeded, Stale, VersionsSpent}
use Rattle.jffs_tree.specs.declared.wish.Limits.{Limits}
use Rattle.jffs_tree.specs.declared.wish.NewNode.{NewNode}
use Rattle.jffs_inodes.specs.Held.{Entry, written, Held, versions_held, is_current}
use Rattle.jffs_tree.specs.State.{State, at, state_of_past}
use Rattle.jffs_tree.specs.Origin.{concerns, entry, held, tree_of, holder, IsTrueCopy}
use Rattle.jffs_tree.specs.Decide.{unless, copy_node, held_entry, held_inode, decide_copy, decide_in, with, entry_of, nobody}
use Rattle.jffs_tree.specs.Laws.{DecidesByTree, AcceptedCopiesAreTrue, CleaningCopiesAreTrue}
use Rattle.jffs_tree.proofs.states.Pointwise.{at-state, sorted-state}
use Rattle.jffs_node.proofs.Rules.{ok_same}
use Rattle.jffs_marks.proofs.Maps.{tail_sorted, at_first, at_later}
use Rattle.jffs_tree.proofs.states.Steps.{not_unmount, entry-other, entry-deleted, entry-written}

-- the tree's state is the state
pub state_of_tree : (past : List Node) (s : State) → map (λ (h : ℕ × Held). (h.0, h.1.entry)) (map (held past) s) ≡ s
state_of_tree past [] = refl
state_of_tree past (x ∷ s) = let later = state_of_tree past s in λ j. x ∷ later j

pub decides_by_tree : DecidesByTree
decides_by_tree past limits wish = ap (λ s. decide_in s (λ v. holder (tree_of past) v) limits wish) (state_of_tree past (state_of_past past))

-- no entry is an unmount's
pub never_unmount : (past : List Node) (i : ℕ) (e : Entry) → entry past i ≡ Some e → is_unmount e.kind ≡ false
never_unmount [] i e is = cc
never_unmount (n ∷ past) i e is = ⊎_elim
    (λ c. ⊎_elim
    (λ d. let none = entry-deleted i n past c d in cc)
    (λ d.
    let some = entry-written i n past c d in
    let same : written n (entry past i) ≡ e = cc in
    ap (λ x. is_unmount x.kind) (sym same) ∙ not_unmount i n c)
    (cases_Bool n.deleted))
    (λ c. never_unmount past i e (sym (entry-other i n past c) ∙ is))
    (cases_Bool (concerns i n))

-- What a search finds in a tree is what the nodes make of an inode.
pub found_there : (past : List Node) (p : (ℕ × Held) → Bool) (s : State) (h : ℕ × Held) → T (entries.is_sorted nat_cmp s) → find p (map (held past) s) ≡ Some h
    → (e : Entry) × (h ≡ held past (h.0, e)) × (at s h.0 ≡ Some e)
found_there past p [] h sorted is = cc
found_there past p (x ∷ s) h sorted is =
    ⊎_elim
    (λ passes.
    let same = same_Some (held past x) h (sym (ap (λ t. cond t (Some (held past x)) (find p (map (held past) s))) passes) ∙ is) in
    subst (λ (g : ℕ × Held). (e : Entry) × (g ≡ held past (g.0, e)) × (at (x ∷ s) g.0 ≡ Some e)) same
    (x.1, refl, at_first x s))
    (λ fails.
    let later = found_there past p s h (tail_sorted x s sorted) (sym (ap (λ t. cond t (Some (held past x)) (find p (map (held past) s))) fails) ∙ is) in
    (later.0, later.1, at_later x s h.0 later.0 sorted later.2))
    (cases_Bool (p (held past x)))

-- what holds a version is what the nodes make of its inode
pub holder_is_there : (past : List Node) (v : ℕ) (h : ℕ × Held) → holder (tree_of past) v ≡ Some h → entry past h.0 ≡ Some h.1.entry
holder_is_there past v h is =
    let there = found_there past (λ (g : ℕ × Held). list_any (λ w. eqb w v) (versions_held g)) (state_of_past past) h (sorted-state past) is in
    let same : there.0 ≡ h.1.entry = ap (λ (g : ℕ × Held). g.1.entry) (sym there.1) in
    sym (at-state past h.0) ∙ there.2 ∙ ap (λ e. Some e) same

-- a decision that gave a node passed each test
passed : (test : Bool) (cause : Cause) (causes : List (Bool × Cause)) (n m : NewNode) → unless ((test, cause) ∷ causes) n ≡ Ok m → (test ≡ false) × (unless causes n ≡ Ok m)
passed true cause causes n m is = cc
passed false cause causes n m is = (refl, is)

pub same_bytes : (xs ys : List ℕ) → bytes_eq xs ys ≡ true → xs ≡ ys
same_bytes xs ys h = (bytes_eq-Decides xs ys).0 h

pub the_holder : (o : Option (ℕ × Held)) → is_none o ≡ false → (h : ℕ × Held) × (o ≡ Some h)
the_holder (Some h) e = (h, refl)
the_holder None e = cc

module _ (past : List Node) (limits : Limits) (parent : ℕ) (name : List ℕ) (offset : ℕ) (bytes : List ℕ) (version writer seq : ℕ) where
  accepted : (h : ℕ × Held) (n : NewNode) → entry past h.0 ≡ Some h.1.entry → is_current h.1.entry offset bytes ≡ true
      → copy_node h.0 h.1.entry offset bytes ≡ n → IsTrueCopy past (with n version writer seq) h.1.entry
  accepted h n there current is =
      let parts = and_parts (leb offset (length h.1.entry.bytes)) (bytes_eq (take (length bytes) (drop offset h.1.entry.bytes)) bytes) current in
      let low = leb-true offset (length h.1.entry.bytes) parts.0 in
      let same = same_bytes (take (length bytes) (drop offset h.1.entry.bytes)) bytes parts.1 in
      let long = ap (λ (x : List ℕ). length x) same in
      let t = length-take (length bytes) (drop offset h.1.entry.bytes) in
      let d = length-drop offset h.1.entry.bytes in
      subst (λ m. IsTrueCopy past (with m version writer seq) h.1.entry) is (record {
        flag = refl;
        stands = and_from (not (is_unmount h.1.entry.kind)) true (not_from_false (is_unmount h.1.entry.kind) (never_unmount past h.0 h.1.entry there)) refl;
        present = there;
        kind = refl;
        parent = refl;
        name = refl;
        size = refl;
        range = refl;
        reaches = le-leb (offset + length bytes) (length h.1.entry.bytes) (omega arith);
        bytes = sym same;
      })

  by_holder : (o : Option (ℕ × Held)) (n : NewNode) → ((h : ℕ × Held) → o ≡ Some h → entry past h.0 ≡ Some h.1.entry) → decide_copy o limits parent name offset bytes ≡ Ok n
      → (e : Entry) × IsTrueCopy past (with n version writer seq) e
  by_holder o n there is =
      let e = held_entry o in
      let copy = copy_node (held_inode o) e offset bytes in
      let known = (eqb e.parent parent && bytes_eq e.name name) && is_current e offset bytes in
      let last : List (Bool × Cause) = (is_none limits.next_version, VersionsSpent) ∷ [] in
      let second : List (Bool × Cause) = (not known, Stale) ∷ last in
      let first : List (Bool × Cause) = (is_none o, NotNeeded) ∷ second in
      let long = passed (ltb limits.data_max (length bytes)) DataLong first copy n is in
      let live = passed (is_none o) NotNeeded second copy n long.1 in
      let stale = passed (not known) Stale last copy n live.1 in
      let spent = passed (is_none limits.next_version) VersionsSpent [] copy n stale.1 in
      let h = the_holder o live.0 in
      let current = (and_parts (eqb e.parent parent && bytes_eq e.name name) (is_current e offset bytes) (not-false known stale.0)).1 in
      let given : copy_node (held_inode o) e offset bytes ≡ n = ok_same copy n spent.1 in (
        h.0.1.entry,
        accepted h.0 n (there h.0 h.1)
            (ap (λ x. is_current (held_entry x) offset bytes) (sym h.1) ∙ current)
            (ap (λ x. copy_node (held_inode x) (held_entry x) offset bytes) (sym h.1) ∙ given),
      )

pub accepted_copies_are_true : AcceptedCopiesAreTrue
accepted_copies_are_true past limits source parent name offset bytes n version writer seq is =
    by_holder past limits parent name offset bytes version writer seq (holder (tree_of past) source) n (λ h found. holder_is_there past source h found) is

-- The copy that cleaning makes.
pub same_front : (d : ℕ) (xs : List ℕ) → take (length (take d xs)) xs ≡ take d xs
same_front zero xs = refl
same_front (suc d) [] = refl
same_front (suc d) (x ∷ xs) = let later = same_front d xs in λ i. x ∷ later i

pub no_more : (d : ℕ) (xs : List ℕ) → length (take d xs) ≤ d
no_more d xs = let l = length-take d xs in omega arith

no_limits : Limits
no_limits = record { data_max = 0; next_inode = None; next_version = None }

pub cleaning_copies_are_true : CleaningCopiesAreTrue
cleaning_copies_are_true past n e version is =
    let offset = min n.offset (length e.bytes) in
    let bytes = take (dsize n) (drop offset e.bytes) in
    let there : entry_of (state_of_past past) n.inode ≡ e = ap (λ o. unwrap_or o nobody) (at-state past n.inode ∙ is) in
    let h : ℕ × Held = (n.inode, record { entry = e; writers = []; newest = None; states_size = false }) in
    let current : is_current e offset bytes ≡ true =
    and_from (leb offset (length e.bytes)) _ (le-leb offset (length e.bytes) (min-le_right n.offset (length e.bytes)))
    ((bytes_eq-Decides (take (length bytes) (drop offset e.bytes)) bytes).1 (same_front (dsize n) (drop offset e.bytes))) in
    subst (λ x. IsTrueCopy past (with (copy_node n.inode x (min n.offset (length x.bytes)) (take (dsize n) (drop (min n.offset (length x.bytes)) x.bytes))) version 0 0) e) (sym there)
    (accepted past no_limits 0 [] offset bytes version 0 0 h (copy_node n.inode e offset bytes) is current refl)
