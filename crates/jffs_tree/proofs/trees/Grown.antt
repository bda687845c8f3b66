-- A tree that has at each inode what one more node makes of it is the tree of the nodes and that
-- one.
use Rattle.std.proofs.Common.{◌≡◌, ℕ, ◌+◌, ◌-◌, ◌<◌, true, false, cond, ◌&&◌, T, map, option_map, is_some, List, [], ◌∷◌, length, replicate, get_or, ⊎_elim, Option, Some, None, refl, sym, ap, subst, ◌∙◌, arith, nat_cmp, zero-add}
use Rattle.std.specs.Ordering.{eq_by_cmp, is_lt}
use Rattle.std.specs.List.{range_with_len}
use Rattle.std.specs.Option.{option_map_or, unwrap_or}
use Rattle.std.specs.Cmp.{nat_cmp_total, unsigned_tied}
use Rattle.std.specs.FinMap.{nat_cmp-IsAntisymmetric}
use Rattle.std.specs.FinMap.Entries as entries
use Rattle.std.proofs.lemmas.Bool.{cases_lt, cases_Bool, eqb-true}
use Rattle.std.proofs.lemmas.List.{ext_get_or, get_or_past, length-replicate, get_or-replicate}
use Rattle.std.proofs.lemmas.List.FromFn.{length-map-range_with_len, get_or-map-range_with_len}
use Rattle.jffs_node.specs.declared.node.Node.{Node}
use Rattle.jffs_node.specs.Record.{dsize, is_unmount}
use Rattle.jffs_inodes.specs.Held.{Entry, written, bytes_of, Held, spliced_with, writers_after, held_after}
use Rattle.jffs_tree.specs.State.{State, at, state_of_past}
use Rattle.jffs_inodes.specs.Inodes.{Tree, held_in}
use Rattle.jffs_tree.specs.Origin.{concerns, entry, size_in, offset_before, origin, held, writers_of, version_of, has_size, tree_of}
use Rattle.jffs_tree.specs.After.{tree_after}
use Rattle.jffs_tree.proofs.states.Pointwise.{find-step, sorted-step, at-state, sorted-state}
use Rattle.jffs_tree.proofs.states.Steps.{entry-other, entry-deleted, entry-written, newest-other, newest-written, origin-other, origin-written, origin-moved, origin-padding, where_is, Inside, Outside, rewritten}
use Rattle.jffs_tree.proofs.states.Offsets.{same_length, read_sized, read_before, read_written, read_after}

-- what is held of an inode, after the node
abbrev found_after : Tree → Node → ℕ → Option Held
found_after tree n i = cond (concerns i n) (cond n.deleted None (Some (held_after n (held_in tree i)))) (held_in tree i)

-- what a tree holds at an inode
abbrev pub held_at : List Node → ℕ → Entry → Held
held_at past i e = (held past (i, e)).1

module _ (past : List Node) where
  found_held : (s : State) (i : ℕ) → entries.find nat_cmp i (map (held past) s) ≡ option_map (λ e. held_at past i e) (at s i)
  found_held [] i = refl
  found_held (x ∷ s) i = ⊎_elim
      (λ tied.
      let same : i ≡ x.0 = eqb-true i x.0 (sym (unsigned_tied i x.0) ∙ tied) in
      ap (λ t. cond t (Some (held_at past x.0 x.1)) (entries.find nat_cmp i (map (held past) s))) tied
      ∙ ap (λ k. Some (held_at past k x.1)) (sym same)
      ∙ ap (λ t. option_map (λ e. held_at past i e) (cond t (Some x.1) (at s i))) (sym tied))
      (λ apart.
      ap (λ t. cond t (Some (held_at past x.0 x.1)) (entries.find nat_cmp i (map (held past) s))) apart
      ∙ found_held s i
      ∙ ap (λ t. option_map (λ e. held_at past i e) (cond t (Some x.1) (at s i))) (sym apart))
      (cases_Bool (eq_by_cmp nat_cmp i x.0))

  pub at-tree : (i : ℕ) → held_in (tree_of past) i ≡ option_map (λ e. held_at past i e) (entry past i)
  at-tree i = found_held (state_of_past past) i ∙ ap (λ o. option_map (λ e. held_at past i e) o) (at-state past i)

  pub length-writers : (i : ℕ) → length (writers_of past i) ≡ size_in past i
  length-writers i = length-map-range_with_len (λ p. version_of (origin past i p)) 0 (size_in past i)

  pub read_writers : (i p : ℕ) → p < size_in past i → get_or (writers_of past i) p None ≡ version_of (origin past i p)
  read_writers i p l = get_or-map-range_with_len (λ q. version_of (origin past i q)) 0 (size_in past i) p p None l (zero-add p)

  -- what was held, where the inode was there, and nothing where it wasn't
  pub writers_held : (i : ℕ) (o : Option Entry) → entry past i ≡ o → unwrap_or (option_map (λ h. h.writers) (option_map (λ e. held_at past i e) o)) [] ≡ writers_of past i
  writers_held i None is = ap (λ n. map (λ p. version_of (origin past i p)) (range_with_len 0 n)) (sym (ap (λ o. length (bytes_of o)) is))
  writers_held i (Some e) is = refl

  entry_held : (i : ℕ) (o : Option Entry) → option_map (λ h. h.entry) (option_map (λ e. held_at past i e) o) ≡ o
  entry_held i None = refl
  entry_held i (Some e) = refl

-- The last writers after a node, byte by byte.
pub size_said : (o : Option ℕ) → option_map_or (λ _. true) o false ≡ is_some o
size_said None = refl
size_said (Some k) = refl

module _ (i : ℕ) (n : Node) (past : List Node) (c : concerns i n ≡ true) (d : n.deleted ≡ false) where
  size_after : size_in (n ∷ past) i ≡ length (rewritten n (bytes_of (entry past i)))
  size_after = ap (λ o. length (bytes_of o)) (entry-written i n past c d)

  own : List (Option ℕ)
  own = replicate (dsize n) (Some n.version)

  length-own : length (replicate {A = Option ℕ} (dsize n) (Some n.version)) ≡ dsize n
  length-own = length-replicate (dsize n) (Some n.version)

  as_long : length (writers_of (n ∷ past) i) ≡ length (writers_after n (writers_of past i))
  as_long = length-writers (n ∷ past) i ∙ size_after
      ∙ same_length 0 None n.size n.offset n.rsize n.bytes (replicate (dsize n) (Some n.version)) (bytes_of (entry past i)) (writers_of past i) (sym length-own) (sym (length-writers past i))

  read_spliced : (p : ℕ) → p < size_in (n ∷ past) i → get_or (spliced_with None n.offset n.rsize (replicate (dsize n) (Some n.version)) (writers_of past i)) p None ≡ version_of (origin (n ∷ past) i p)
  read_spliced p l = ⊎_elim
      (λ (w : Inside n p).
      let k = length-own in
      read_written None (writers_of past i) n.offset n.rsize (replicate (dsize n) (Some n.version)) p w.1 (omega arith)
      ∙ get_or-replicate (dsize n) (p - n.offset) (Some n.version) None (omega arith)
      ∙ ap version_of (sym (origin-written i n past p c d w.0)))
      (λ (w : Outside n p).
      moved p w ∙ ⊎_elim
      (λ there. read_writers past i (offset_before n p) there ∙ ap version_of (sym (origin-moved i n past p c d w.0 there)))
      (λ beyond. get_or_past (writers_of past i) (offset_before n p) None (let k = length-writers past i in omega arith) ∙ ap version_of (sym (origin-padding i n past p c d w.0 beyond)))
      (cases_lt (offset_before n p) (size_in past i)))
      (where_is n p)
    where
      moved : (p : ℕ) → Outside n p → get_or (spliced_with None n.offset n.rsize (replicate (dsize n) (Some n.version)) (writers_of past i)) p None ≡ get_or (writers_of past i) (offset_before n p) None
      moved p w = ⊎_elim
          (λ before. read_before None (writers_of past i) n.offset n.rsize (replicate (dsize n) (Some n.version)) p before.0 ∙ ap (λ q. get_or (writers_of past i) q None) (sym before.1))
          (λ behind.
          let k = length-own in
          read_after None (writers_of past i) n.offset n.rsize (replicate (dsize n) (Some n.version)) p (omega (arith, behind.0))
          ∙ ap (λ q. get_or (writers_of past i) q None) (ap (λ a. (p - a) + n.rsize) k ∙ sym behind.1))
          w.1

  pub writers_grown : writers_of (n ∷ past) i ≡ writers_after n (writers_of past i)
  writers_grown = ext_get_or None (writers_of (n ∷ past) i) (writers_after n (writers_of past i)) as_long
      (λ p l.
      let here : p < size_in (n ∷ past) i = (let k = length-writers (n ∷ past) i in omega arith) in
      let there : p < length (writers_after n (writers_of past i)) = (let k = as_long in omega arith) in
      read_writers (n ∷ past) i p here
      ∙ sym (read_spliced p here)
      ∙ sym (read_sized None n.size (spliced_with None n.offset n.rsize (replicate (dsize n) (Some n.version)) (writers_of past i)) p there))

  held_grown : held_at (n ∷ past) i (written n (entry past i)) ≡ held_after n (held_in (tree_of past) i)
  held_grown =
      let e = ap (λ o. written n o) (sym (entry_held past i (entry past i)) ∙ ap (λ o. option_map (λ h. h.entry) o) (sym (at-tree past i))) in
      let w = writers_grown ∙ ap (writers_after n) (sym (writers_held past i (entry past i) refl) ∙ ap (λ o. unwrap_or (option_map (λ h. h.writers) o) []) (sym (at-tree past i))) in
      let m = newest-written i n past c d in
      λ j. record { entry = e j; writers = w j; newest = version_of (m j); states_size = (ap has_size m ∙ size_said n.size) j }

module _ (i : ℕ) (n : Node) (past : List Node) (c : concerns i n ≡ false) where
  same_writers : writers_of (n ∷ past) i ≡ writers_of past i
  same_writers =
      ap (λ k. map (λ p. version_of (origin (n ∷ past) i p)) (range_with_len 0 k)) (ap (λ o. length (bytes_of o)) (entry-other i n past c))
      ∙ (λ j. map (λ p. version_of (origin-other i n past p c j)) (range_with_len 0 (size_in past i)))

  pub held_same : (e : Entry) → held_at (n ∷ past) i e ≡ held_at past i e
  held_same e = let w = same_writers in let m = newest-other i n past c in λ j. record { entry = e; writers = w j; newest = version_of (m j); states_size = has_size (m j) }

-- what the tree of one more node has at an inode
tree_grows : (n : Node) (past : List Node) (i : ℕ) → held_in (tree_of (n ∷ past)) i ≡ found_after (tree_of past) n i
tree_grows n past i = at-tree (n ∷ past) i ∙ ⊎_elim
    (λ c. ⊎_elim
    (λ d. ap (λ o. option_map (λ e. held_at (n ∷ past) i e) o) (entry-deleted i n past c d) ∙ sym (shown c ∙ ap (λ t. cond t None (Some (held_after n (held_in (tree_of past) i)))) d))
    (λ d. ap (λ o. option_map (λ e. held_at (n ∷ past) i e) o) (entry-written i n past c d) ∙ ap (λ h. Some h) (held_grown i n past c d)
    ∙ sym (shown c ∙ ap (λ t. cond t None (Some (held_after n (held_in (tree_of past) i)))) d))
    (cases_Bool n.deleted))
    (λ c. ap (λ o. option_map (λ e. held_at (n ∷ past) i e) o) (entry-other i n past c) ∙ kept c (entry past i) ∙ sym (at-tree past i)
    ∙ sym (ap (λ t. cond t (cond n.deleted None (Some (held_after n (held_in (tree_of past) i)))) (held_in (tree_of past) i)) c))
    (cases_Bool (concerns i n))
  where
    shown : concerns i n ≡ true → found_after (tree_of past) n i ≡ cond n.deleted None (Some (held_after n (held_in (tree_of past) i)))
    shown c = ap (λ t. cond t (cond n.deleted None (Some (held_after n (held_in (tree_of past) i)))) (held_in (tree_of past) i)) c

    kept : concerns i n ≡ false → (o : Option Entry) → option_map (λ e. held_at (n ∷ past) i e) o ≡ option_map (λ e. held_at past i e) o
    kept c None = refl
    kept c (Some e) = ap (λ h. Some h) (held_same i n past c e)

-- trees keep the order of inodes
below_held : (past : List Node) (k : ℕ) (s : State) → entries.below_all nat_cmp k (map (held past) s) ≡ entries.below_all nat_cmp k s
below_held past k [] = refl
below_held past k (x ∷ s) = ap (λ b. is_lt (nat_cmp k x.0) && b) (below_held past k s)

sorted_held : (past : List Node) (s : State) → entries.is_sorted nat_cmp (map (held past) s) ≡ entries.is_sorted nat_cmp s
sorted_held past [] = refl
sorted_held past (x ∷ s) = let b = below_held past x.0 s in let later = sorted_held past s in λ j. b j && later j

pub sorted-tree : (past : List Node) → T (entries.is_sorted nat_cmp (tree_of past))
sorted-tree past = subst T (sym (sorted_held past (state_of_past past))) (sorted-state past)

pub tree_steps : (past : List Node) (n : Node) → tree_after (tree_of past) n ≡ tree_of (n ∷ past)
tree_steps past n =
    entries.same_entries nat_cmp nat_cmp_total nat_cmp-IsAntisymmetric (tree_after (tree_of past) n) (tree_of (n ∷ past))
    (sorted-step (is_unmount n.kind) n.deleted (λ o. held_after n o) n.inode (tree_of past) (sorted-tree past)) (sorted-tree (n ∷ past))
    (λ i. find-step (is_unmount n.kind) n.deleted (λ o. held_after n o) n.inode (tree_of past) i ∙ sym (tree_grows n past i))
