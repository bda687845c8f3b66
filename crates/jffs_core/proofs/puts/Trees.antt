-- Trees of the same state take the same nodes, and have the same state after them.
use Rattle.std.proofs.Common.{◌≡◌, ℕ, ◌+◌, Bool, true, false, cond, not, ◌&&◌, ◌||◌, eqb, leb, List, [], ◌∷◌, ◌++◌, length, option_map, Option, Some, None, Result, Ok, Err, IfOk, IfErr, refl, sym, ap, subst, ◌∙◌, nat_cmp}
use Rattle.std.specs.Option.{option_map_or}
use Rattle.std.specs.declared.cmp.Ordering.TheVariants.{Less, Equal, Greater}
use Rattle.std.specs.FinMap.Entries as entries
use Rattle.std.proofs.lemmas.Bool.{and_parts, and_from, both_ways}
use Rattle.jffs_node.specs.declared.node.Node.{Node}
use Rattle.jffs_node.specs.Record.{dsize, kind_byte, is_lawful, is_unmount}
use Rattle.jffs_inodes.specs.Held.{Entry, bytes_of, written, Held, held_after}
use Rattle.jffs_tree.specs.State.{State, at, apply, state_of_past}
use Rattle.jffs_inodes.specs.Inodes.{Tree, held_in, keeps_offsets_in}
use Rattle.jffs_tree.specs.Origin.{state_in, tree_of}
use Rattle.jffs_tree.specs.Check.{each_fits, check}
use Rattle.jffs_tree.specs.After.{tree_after, can_apply, keeps_kind_in}
use Rattle.jffs_tree.specs.declared.wish.Cause.{Cause}
use Rattle.jffs_tree.specs.declared.wish.Outcome.{Outcome}
use Rattle.jffs_tree.specs.declared.wish.Outcome.TheVariants.{Appended, Copied, Closed, Refused}
use Rattle.jffs_tree.proofs.states.Entries.{fits_parts}
use Rattle.jffs_tree.proofs.trees.Tested.{trees_test_as_nodes}
use Rattle.jffs_tree.proofs.trees.Looked.{entry_in as held_entry, bytes_told}
use Rattle.jffs_tree.proofs.decisions.Copies.{state_of_tree}
use Rattle.jffs_line.specs.declared.request.Request.{Request}
use Rattle.jffs_log.specs.History.{KeepsRules}
use Rattle.jffs_core.specs.CoreState.{CoreState}
use Rattle.jffs_core.specs.History.{AreOwnCopies}
use Rattle.jffs_core.specs.Past.{RepresentsWorking}
use Rattle.jffs_core.specs.Run.{is_failure}
use Rattle.jffs_core.specs.Answering.{HasAnswered, KeepsAnswer}
use Rattle.jffs_core.specs.Cleaning.{EraseStopped, HasErasedDead}
use Rattle.jffs_core.specs.Nodes.{HasNode, listed}
use Rattle.jffs_core.specs.Trees.{TakesNode, TellsNode, KeepsTree}
use Rattle.jffs_core.proofs.answers.Deciding.{copies_state}
use Rattle.jffs_core.proofs.puts.Putting.{offsets_kept}
use Rattle.jffs_core.proofs.answers.Told.{node_told}

-- the entries of a tree
abbrev entry_in : (ℕ × Held) → ℕ × Entry
entry_in h = (h.0, h.1.entry)

-- a test of the entry that is held
entry_test : {A : Type 0} (f : Entry → A) (d : A) (o : Option Held) → option_map_or (λ h. f h.entry) o d ≡ option_map_or f (option_map (λ h. h.entry) o) d
entry_test f d None = refl
entry_test f d (Some h) = refl

-- Trees of the same state test a node alike.
pub test_by_state : (one other : Tree) (n : Node) → state_in one ≡ state_in other → can_apply one n ≡ can_apply other n
test_by_state one other n same = λ j. is_lawful n && kinds j && offsets j
  where
    there : option_map (λ h. h.entry) (held_in one n.inode) ≡ option_map (λ h. h.entry) (held_in other n.inode)
    there = sym (held_entry one n.inode) ∙ ap (λ s. at s n.inode) same ∙ held_entry other n.inode

    has_kind : Entry → Bool
    has_kind e = eqb (kind_byte e.kind) (kind_byte n.kind)

    kinds : keeps_kind_in one n ≡ keeps_kind_in other n
    kinds = ap (λ b. n.deleted || b)
        (entry_test has_kind true (held_in one n.inode) ∙ (ap (λ o. option_map_or has_kind o true) there ∙ sym (entry_test has_kind true (held_in other n.inode))))

    offsets : keeps_offsets_in one n ≡ keeps_offsets_in other n
    offsets = ap (λ bytes. eqb (dsize n) n.rsize || leb (length bytes) (n.offset + n.rsize))
        (bytes_told one n.inode ∙ ap (λ s. bytes_of (at s n.inode)) same ∙ sym (bytes_told other n.inode))

-- the state of a tree without an inode
state_without : (p : ℕ → Bool) (tree : Tree) → state_in (entries.where_key nat_cmp p tree) ≡ entries.where_key nat_cmp p (state_in tree)
state_without p [] = refl
state_without p (x ∷ tree) =
    let rest = state_without p tree in
    elim (p x.0) as (λ b. state_in (cond b (x ∷ entries.where_key nat_cmp p tree) (entries.where_key nat_cmp p tree)) ≡ cond b (entry_in x ∷ entries.where_key nat_cmp p (state_in tree)) (entries.where_key nat_cmp p (state_in tree))) [
      | true ↦ ap (λ s. entry_in x ∷ s) rest
      | false ↦ rest
    ]

-- the state of a tree with an inode put
state_put : (i : ℕ) (h : Held) (tree : Tree) → state_in (entries.put nat_cmp i h tree) ≡ entries.put nat_cmp i h.entry (state_in tree)
state_put i h [] = refl
state_put i h (x ∷ tree) =
    elim (nat_cmp i x.0) as (λ o. state_in (entries.by_order o ((i, h) ∷ x ∷ tree) ((x.0, h) ∷ tree) (x ∷ entries.put nat_cmp i h tree))
    ≡ entries.by_order o ((i, h.entry) ∷ entry_in x ∷ state_in tree) ((x.0, h.entry) ∷ state_in tree) (entry_in x ∷ entries.put nat_cmp i h.entry (state_in tree))) [
      | Less ↦ refl
      | Equal ↦ refl
      | Greater ↦ ap (λ s. entry_in x ∷ s) (state_put i h tree)
    ]

-- The state of the tree after a node is what the node makes of the state.
pub state_after : (tree : Tree) (n : Node) → state_in (tree_after tree n) ≡ apply (state_in tree) n
state_after tree n =
    elim (is_unmount n.kind) as (λ b. state_in (cond b tree (cond n.deleted without put)) ≡ cond b (state_in tree) (cond n.deleted without_entry put_entry)) [
      | true ↦ refl
      | false ↦
          elim n.deleted as (λ b. state_in (cond b without put) ≡ cond b without_entry put_entry) [
            | true ↦ state_without (λ i. not (eqb n.inode i)) tree
            | false ↦
                state_put n.inode (held_after n (held_in tree n.inode)) tree
                ∙ ap (λ o. entries.put nat_cmp n.inode (written n o) (state_in tree)) (sym (held_entry tree n.inode))
          ]
    ]
  where
    without : Tree
    without = entries.where_key nat_cmp (λ i. not (eqb n.inode i)) tree

    put : Tree
    put = entries.put nat_cmp n.inode (held_after n (held_in tree n.inode)) tree

    without_entry : State
    without_entry = entries.where_key nat_cmp (λ i. not (eqb n.inode i)) (state_in tree)

    put_entry : State
    put_entry = entries.put nat_cmp n.inode (written n (at (state_in tree) n.inode)) (state_in tree)

-- the newest node of a history that keeps the rules may be applied to the tree of those before
newest_fits : (past : List Node) (n : Node) → KeepsRules (n ∷ past) → can_apply (tree_of past) n ≡ true
newest_fits past n h =
    let kind = (fits_parts n past (and_parts (each_fits (n ∷ past)) (check (tree_of (n ∷ past))) h.lawful.tree).0).1 in
    and_from (is_lawful n && keeps_kind_in (tree_of past) n) (keeps_offsets_in (tree_of past) n)
    (and_from (is_lawful n) (keeps_kind_in (tree_of past) n) h.lawful.each.0 ((trees_test_as_nodes past n h.lawful.each.0).0 ∙ kind))
    (offsets_kept past n (tree_of past) refl h)

-- The tree of a history took in a node that came after copies.
took_node : (past after copies : List Node) (node : Option Node) → AreOwnCopies past copies → after ≡ listed node ++ copies ++ past → KeepsRules after → TakesNode (tree_of past) node (tree_of after)
took_node past after copies None true_copies joined rules =
    state_of_tree after (state_of_past after)
    ∙ (ap state_of_past joined ∙ (copies_state past copies true_copies ∙ sym (state_of_tree past (state_of_past past))))
took_node past after copies (Some n) true_copies joined rules =
    let before : state_in (tree_of past) ≡ state_in (tree_of (copies ++ past)) =
    state_of_tree past (state_of_past past) ∙ (sym (copies_state past copies true_copies) ∙ sym (state_of_tree (copies ++ past) (state_of_past (copies ++ past)))) in (
      test_by_state (tree_of past) (tree_of (copies ++ past)) n before ∙ newest_fits (copies ++ past) n (subst KeepsRules joined rules),
      state_of_tree after (state_of_past after)
          ∙ (ap state_of_past joined ∙ ap (λ s. apply s n) (copies_state past copies true_copies ∙ sym (state_of_tree past (state_of_past past)))),
    )

-- no node is told of with a failure
no_node : (o : Outcome) (node : Option Node) → HasNode o node → is_failure o ≡ true → node ≡ None
no_node (Appended inode version) made h f = cc
no_node (Copied version) made h f = cc
no_node Closed made h f = cc
no_node (Refused cause) made h f = h

-- A core that worked answered.
pub tells_node :
    (past : List Node) (old middle new : CoreState) (q : Request) (writer seq : ℕ) (o : Outcome) (node : Option Node)
    → old.failed ≡ false → RepresentsWorking past old → HasAnswered past old middle q o node → KeepsAnswer writer seq o middle new → TellsNode old new node
tells_node past old middle new q writer seq o node works known h kept =
    let failed : new.failed ≡ middle.failed = ap (λ (c : CoreState). c.failed) kept in
    let tree : new.tree ≡ middle.tree = ap (λ (c : CoreState). c.tree) kept in
    record {
      none = λ f. no_node o node (node_told _ q o h.after node h.step h.own) (sym h.fails ∙ (sym failed ∙ f));
      worked = λ w. works;
      taken = λ w.
          let represents = h.stands.working (sym failed ∙ w) in
          let took = took_node past h.after h.step.copies node h.step.copies_are_true (h.step.joined ∙ ap (λ (own : List Node). own ++ h.step.copies ++ past) h.own) represents.history.rules in
          subst (λ (t : Tree). TakesNode t node new.tree) (sym known.tree_is) (subst (λ (t : Tree). TakesNode (tree_of past) node t) (sym (tree ∙ represents.tree_is)) took);
    }

-- Dead sectors were erased, as far as that went.
pub tree_kept :
    (past : List Node) (old new : CoreState) (result : Result ℕ Cause) → old.failed ≡ false → RepresentsWorking past old
    → IfOk result (λ count. (past : List Node) → RepresentsWorking past old → HasErasedDead count past old new)
    → IfErr result (λ cause. EraseStopped cause old new)
    → KeepsTree old new
tree_kept past old new (Ok count) works known erased stopped = λ w. (works, (erased past known).stands.represents.tree_is ∙ sym known.tree_is)
tree_kept past old new (Err cause) works known erased stopped = λ w.
    let failed = stopped.history past known in
    absurd (both_ways new.failed w failed.fails)
