-- A decided node keeps the rules, wish by wish.
use Rattle.std.proofs.Common.{◌≡◌, ℕ, min, max, ◌+◌, ◌-◌, ◌<◌, ◌≤◌, Bool, true, false, cond, not, ◌&&◌, eqb, leb, IsTrue, List, [], ◌∷◌, length, take, drop, get_or, ⊎_elim, Option, Some, None, is_some, unwrap_or, Ok, Err, bytes_eq, refl, sym, ap, subst, ◌∙◌, arith}
use Rattle.std.specs.List.{AllByRecursion}
use Rattle.std.specs.Option.{option_map_or}
use Rattle.std.proofs.lemmas.Bool.{leb-true, le-leb, ltb-false, eqb-false, and_parts, or_parts, not-false}
use Rattle.std.proofs.lemmas.List.{length-take}
use Rattle.jffs_node.specs.declared.node.Node.{Node}
use Rattle.jffs_node.specs.declared.node.Kind.{Kind}
use Rattle.jffs_node.specs.declared.node.Kind.TheVariants.{File, Directory}
use Rattle.jffs_node.specs.Name.{is_name}
use Rattle.jffs_node.specs.Record.{dsize, file_max, kind_byte, is_lawful}
use Rattle.jffs_tree.specs.declared.wish.Cause.{Cause}
use Rattle.jffs_tree.specs.declared.wish.Limits.{Limits}
use Rattle.jffs_tree.specs.declared.wish.NewNode.{NewNode}
use Rattle.jffs_tree.specs.declared.wish.Wish.{Wish}
use Rattle.jffs_tree.specs.declared.wish.Wish.TheVariants.{MakeDir, Create, Write, Truncate, Rename, Remove, Copy, Unmount}
use Rattle.jffs_inodes.specs.Held.{Entry, Held, is_current}
use Rattle.jffs_tree.specs.State.{State, at, resolve, is_directory_in, state_of_past}
use Rattle.jffs_tree.specs.Origin.{entry, holder, tree_of}
use Rattle.jffs_tree.specs.Decide.{unless, is_root, last_name, parent_in, has_parent, is_there, inode_at, nobody, entry_of, plain, write_node, copy_node, unmount_node, held_entry, held_inode, causes_of_new, new_node, decide_new, causes_of_copy, decide_copy, causes_for, node_for, decide, with}
use Rattle.jffs_node.specs.Path.{IsPath}
use Rattle.jffs_tree.specs.Deciding.{IsLawfulPast, AreNumbers, IsNewInode, AreLimitsOf, IsWish, DecidedNodesKeepRules, CleaningCopiesKeepRules}
use Rattle.jffs_tree.proofs.states.Pointwise.{at-state, sorted-state}
use Rattle.jffs_node.proofs.Fitting.{small_bytes}
use Rattle.jffs_tree.proofs.decisions.There.{resolved_there, not_root}
use Rattle.jffs_tree.proofs.decisions.Copies.{no_more, same_bytes, the_holder, holder_is_there, same_front}
use Rattle.jffs_tree.proofs.decisions.Resolving.{value_of, led_within, led_to_last, the_parent, the_inode, nothing_there}
use Rattle.jffs_node.proofs.Lawfulness.{lawful_from}
use Rattle.jffs_node.proofs.Each.{each_at}
use Rattle.jffs_node.proofs.Rules.{ok_same}
use Rattle.std.proofs.Math.Nat.{min-le_right}
use Rattle.jffs_tree.proofs.states.Entries.{each_fits_from, lawful_entry}
use Rattle.jffs_tree.proofs.states.Ruled.{kept_rules, keeps_past}
use Rattle.jffs_tree.proofs.decisions.Changing.{Keeps, IsHome, its_file, write_keeps, truncate_keeps, copy_keeps, remove_keeps, rename_keeps, create_keeps, make_directory_keeps}

-- a decision that gave a node passed all tests, and gave that node
pub all_passed : (causes : List (Bool × Cause)) (n m : NewNode) → unless causes n ≡ Ok m → AllByRecursion (λ (c : Bool × Cause). c.0 ≡ false) causes × (n ≡ m)
all_passed [] n m is = (tt, ok_same n m is)
all_passed (c ∷ causes) n m is = one (λ h. all_passed causes n m h) c.0 refl is
  where
    one : (unless causes n ≡ Ok m → AllByRecursion (λ (x : Bool × Cause). x.0 ≡ false) causes × (n ≡ m)) → (b : Bool) → c.0 ≡ b → cond b (Err c.1) (unless causes n) ≡ Ok m
        → AllByRecursion (λ (x : Bool × Cause). x.0 ≡ false) (c ∷ causes) × (n ≡ m)
    one rest true e is = cc
    one rest false e is = let later = rest is in ((e, later.0), later.1)

-- Where a wish is granted nothing stands against it, and the node is the wish's.
pub nothing_stands : (past : List Node) (limits : Limits) (wish : Wish) (n : NewNode) → decide past limits wish ≡ Ok n
    → AllByRecursion (λ (c : Bool × Cause). c.0 ≡ false) (causes_for (state_of_past past) (λ v. holder (tree_of past) v) limits wish)
    × (node_for (state_of_past past) (λ v. holder (tree_of past) v) limits wish ≡ n)
nothing_stands past limits wish n is =
    all_passed (causes_for (state_of_past past) (λ v. holder (tree_of past) v) limits wish) (node_for (state_of_past past) (λ v. holder (tree_of past) v) limits wish) n is

-- a write's node has at most the write's data
written_data : {most : ℕ} (i : ℕ) (e : Entry) (offset : ℕ) (bytes : List ℕ) → length bytes ≤ most → length (write_node i e offset bytes).bytes ≤ most
written_data i e offset bytes l = either (eqb (length bytes) 0) (record (plain i e) { offset = min offset (length e.bytes) })
    (record (plain i e) { offset = offset; rsize = min (length bytes) (length e.bytes - offset); size = Some (max (length e.bytes) (offset + length bytes)); bytes = bytes }) (omega arith) l
  where
    either : {most : ℕ} (t : Bool) (a b : NewNode) → length a.bytes ≤ most → length b.bytes ≤ most → length (cond t a b).bytes ≤ most
    either true a b f g = f
    either false a b f g = g

-- what a path leads to, in a state
module _ (s : State) where
  -- a path to what is no root leads to an entry
  an_entry : (path : List (List ℕ)) (i : ℕ) → resolve s path ≡ Some i → ((length path ≡ 0) × (1 ≡ i) → ⊥) → at s i ≡ Some (entry_of s i)
  an_entry path i is low = ⊎_elim
      (λ root. absurd (low root))
      (λ there. value_of (at s i) nobody there)
      (resolved_there s 1 i path is)

  -- A path that isn't the root's leads to an entry, and so does one that leads to no directory.
  pub entry_at : (path : List (List ℕ)) → not (is_there s path) ≡ false → is_root path ≡ false → (resolve s path ≡ Some (inode_at s path)) × (at s (inode_at s path) ≡ Some (entry_of s (inode_at s path)))
  entry_at path there root =
      let leads = the_inode s path (not-false (is_there s path) there) in
      (leads, an_entry path (inode_at s path) leads (λ top. eqb-false (length path) 0 root top.0))

  pub file_at : (path : List (List ℕ)) → not (is_there s path) ≡ false → is_directory_in s (inode_at s path) ≡ false → (resolve s path ≡ Some (inode_at s path)) × (at s (inode_at s path) ≡ Some (entry_of s (inode_at s path)))
  file_at path there file =
      let leads = the_inode s path (not-false (is_there s path) there) in
      (leads, an_entry path (inode_at s path) leads (λ top. not_root s (inode_at s path) top.1 file))

unmount_keeps : (past : List Node) (before : IsLawfulPast past) (version writer seq : ℕ) → AreNumbers version writer seq → IsLawfulPast (with unmount_node version writer seq ∷ past)
unmount_keeps past before version writer seq v =
    let n = with unmount_node version writer seq in
    let old = kept_rules past before in
    keeps_past n past (lawful, before.each) (each_fits_from n past old.fits (absent (entry past 0) refl) refl refl) (λ file. cc) old.writers old.orderly
  where
    lawful : is_lawful (with unmount_node version writer seq) ≡ true
    lawful = lawful_from (with unmount_node version writer seq)
        (record {
          inode = omega arith;
          parent = omega arith;
          version = v.version_fits;
          offset = omega arith;
          rsize = omega arith;
          writer = v.writer_fits;
          seq = v.seq_fits;
          amount = omega arith;
          size = omega arith;
          bytes = refl;
        })
        (record { flags = refl; unmount = refl; name = refl; form = refl; version = le-leb 1 version v.first; kind = refl; gone = refl; copied = refl; size = refl })

    absent : (o : Option Entry) → entry past 0 ≡ o → option_map_or (λ e. eqb (kind_byte e.kind) 3) o true ≡ true
    absent None is = refl
    absent (Some e) is = absurd (omega (arith, (lawful_entry past 0 e before.each (kept_rules past before).fits is).low))

module _ (past : List Node) (limits : Limits) (version writer seq : ℕ) (before : IsLawfulPast past) (v : AreNumbers version writer seq) where
  abbrev s : State
  s = state_of_past past

  abbrev Good : NewNode → Type 0
  Good n = Keeps past before version writer seq v n × (length n.bytes ≤ limits.data_max)

  -- a new path has a home
  a_home : (path : List (List ℕ)) → IsPath path → is_root path ≡ false → has_parent s path ≡ true → is_there s path ≡ false
      → IsHome past before version writer seq v (unwrap_or (parent_in s path) 0) (last_name path)
  a_home path names root parent free =
      let p = the_parent s path parent in
      let some : length path ≡ 0 → ⊥ = eqb-false (length path) 0 root in
      let cut = length-take (length path - 1) path in
      let most = names.short in
      record {
        directory = p.1;
        within = led_within s (sorted-state past) (take (length path - 1) path) 0 7 1 (unwrap_or (parent_in s path) 0) (omega arith) refl p.0;
        lawful = each_at (λ name. IsTrue (is_name name)) path (length path - 1) [] (omega arith) names.each;
        free = sym (led_to_last s path (unwrap_or (parent_in s path) 0) root p.0) ∙ nothing_there s path free;
      }

  decided_write : (path : List (List ℕ)) (offset : ℕ) (bytes : List ℕ) (n : NewNode) → ((k : ℕ) → get_or bytes k 0 < 256) → decide past limits (Write path offset bytes) ≡ Ok n → Good n
  decided_write path offset bytes n small is =
      let i = inode_at s path in
      let passed = nothing_stands past limits (Write path offset bytes) n is in
      let there = (file_at s path passed.0.0 passed.0.1.0).1 in
      let file = its_file past before version writer seq v i (entry_of s i) there passed.0.1.0 in
      let data_fits = ltb-false limits.data_max (length bytes) passed.0.1.1.0 in
      subst Good passed.1 (
        write_keeps past before version writer seq v i (entry_of s i) there file offset bytes (ltb-false file_max (offset + length bytes) passed.0.1.1.1.0) (small_bytes bytes small),
        written_data i (entry_of s i) offset bytes data_fits,
      )

  decided_truncate : (path : List (List ℕ)) (size : ℕ) (n : NewNode) → decide past limits (Truncate path size) ≡ Ok n → Good n
  decided_truncate path size n is =
      let i = inode_at s path in
      let passed = nothing_stands past limits (Truncate path size) n is in
      let there = (file_at s path passed.0.0 passed.0.1.0).1 in
      let file = its_file past before version writer seq v i (entry_of s i) there passed.0.1.0 in
      subst Good passed.1 (truncate_keeps past before version writer seq v i (entry_of s i) there file size (ltb-false file_max size passed.0.1.1.0), omega arith)

  decided_rename : (source target : List (List ℕ)) (n : NewNode) → IsPath target → decide past limits (Rename source target) ≡ Ok n → Good n
  decided_rename source target n names is =
      let i = inode_at s source in
      let e = entry_of s i in
      let parent = unwrap_or (parent_in s target) 0 in
      let passed = nothing_stands past limits (Rename source target) n is in
      let roots = or_parts (is_root source) (is_root target) passed.0.0 in
      let home = a_home target names roots.1 (not-false _ passed.0.1.0) passed.0.1.1.0 in
      let there = (entry_at s source passed.0.1.1.1.0 roots.0).1 in
      subst Good passed.1 (rename_keeps past before version writer seq v parent (last_name target) home i e there passed.0.1.1.1.1.0, omega arith)

  decided_remove : (path : List (List ℕ)) (n : NewNode) → decide past limits (Remove path) ≡ Ok n → Good n
  decided_remove path n is =
      let i = inode_at s path in
      let passed = nothing_stands past limits (Remove path) n is in
      let there = (entry_at s path passed.0.1.0 passed.0.0).1 in
      subst Good passed.1 (remove_keeps past before version writer seq v i (entry_of s i) there passed.0.1.1.0, omega arith)

  -- MakeDir and Create
  module _ (path : List (List ℕ)) (names : IsPath path) (fresh : AreLimitsOf past limits) where
    new_passed : (kind : Kind) (n : NewNode) → decide_new s limits kind path ≡ Ok n
        → IsHome past before version writer seq v (unwrap_or (parent_in s path) 0) (last_name path) × IsNewInode past (unwrap_or limits.next_inode 0) × (new_node s limits kind path ≡ n)
    new_passed kind n is =
        let passed = all_passed (causes_of_new s limits path) (new_node s limits kind path) n is in
        (a_home path names passed.0.0 (not-false _ passed.0.1.0) passed.0.1.1.0, fresh (unwrap_or limits.next_inode 0) (value_of limits.next_inode 0 (not-false (is_some limits.next_inode) passed.0.1.1.1.0)), passed.1)

    decided_make_directory : (n : NewNode) → decide past limits (MakeDir path) ≡ Ok n → Good n
    decided_make_directory n is =
        let new = new_passed Directory n is in
        subst Good new.2 (make_directory_keeps past before version writer seq v (unwrap_or (parent_in s path) 0) (last_name path) new.0 (unwrap_or limits.next_inode 0) new.1, omega arith)

    decided_create : (n : NewNode) → decide past limits (Create path) ≡ Ok n → Good n
    decided_create n is =
        let new = new_passed File n is in
        subst Good new.2 (create_keeps past before version writer seq v (unwrap_or (parent_in s path) 0) (last_name path) new.0 (unwrap_or limits.next_inode 0) new.1, omega arith)

  decided_copy : (source parent : ℕ) (name : List ℕ) (offset : ℕ) (bytes : List ℕ) (n : NewNode) → decide past limits (Copy source parent name offset bytes) ≡ Ok n → Good n
  decided_copy source parent name offset bytes n is = by_holder (holder (tree_of past) source) refl is
    where
      by_holder : (o : Option (ℕ × Held)) → holder (tree_of past) source ≡ o → decide_copy o limits parent name offset bytes ≡ Ok n → Good n
      by_holder o found is =
          let e = held_entry o in
          let known = (eqb e.parent parent && bytes_eq e.name name) && is_current e offset bytes in
          let passed = all_passed (causes_of_copy o limits parent name offset bytes) (copy_node (held_inode o) e offset bytes) n is in
          let h = the_holder o passed.0.1.0 in
          let current = (and_parts (eqb e.parent parent && bytes_eq e.name name) (is_current e offset bytes) (not-false known passed.0.1.1.0)).1 in
          let parts = and_parts (leb offset (length h.0.1.entry.bytes)) (bytes_eq (take (length bytes) (drop offset h.0.1.entry.bytes)) bytes)
          (ap (λ x. is_current (held_entry x) offset bytes) (sym h.1) ∙ current) in
          let there = at-state past h.0.0 ∙ holder_is_there past source h.0 (found ∙ h.1) in
          subst Good (ap (λ x. copy_node (held_inode x) (held_entry x) offset bytes) (sym h.1) ∙ passed.1) (
            copy_keeps past before version writer seq v h.0.0 h.0.1.entry there offset bytes
                (leb-true offset (length h.0.1.entry.bytes) parts.0) (sym (same_bytes (take (length bytes) (drop offset h.0.1.entry.bytes)) bytes parts.1)),
            ltb-false limits.data_max (length bytes) passed.0.0,
          )

  -- no entry has the inode 0, so an unmount node fits
  decided_unmount : (n : NewNode) → decide past limits Unmount ≡ Ok n → Good n
  decided_unmount n is =
      let passed = nothing_stands past limits Unmount n is in
      subst Good passed.1 (unmount_keeps past before version writer seq v, omega arith)

  pub decided : (wish : Wish) (n : NewNode) → AreLimitsOf past limits → IsWish wish → decide past limits wish ≡ Ok n → Good n
  decided (MakeDir path) n fresh w is = decided_make_directory path w fresh n is
  decided (Create path) n fresh w is = decided_create path w fresh n is
  decided (Write path offset bytes) n fresh w is = decided_write path offset bytes n w is
  decided (Truncate path size) n fresh w is = decided_truncate path size n is
  decided (Rename source target) n fresh w is = decided_rename source target n w is
  decided (Remove path) n fresh w is = decided_remove path n is
  decided (Copy source parent name offset bytes) n fresh w is = decided_copy source parent name offset bytes n is
  decided Unmount n fresh w is = decided_unmount n is

pub decided_nodes_keep_rules : DecidedNodesKeepRules
decided_nodes_keep_rules past limits wish n version writer seq before fresh w v is = decided past limits version writer seq before v wish n fresh w is

pub cleaning_copies_keep_rules : CleaningCopiesKeepRules
cleaning_copies_keep_rules past n e version writer seq before is v =
    let s = state_of_past past in
    let there : entry_of s n.inode ≡ e = ap (λ o. unwrap_or o nobody) (at-state past n.inode ∙ is) in
    let offset = min n.offset (length e.bytes) in
    let keeps = copy_keeps past before version writer seq v n.inode e (at-state past n.inode ∙ is) offset (take (dsize n) (drop offset e.bytes)) (min-le_right n.offset (length e.bytes))
    (sym (same_front (dsize n) (drop offset e.bytes))) in (
      subst (λ x. IsLawfulPast (with (copy_node n.inode x (min n.offset (length x.bytes)) (take (dsize n) (drop (min n.offset (length x.bytes)) x.bytes))) version writer seq ∷ past)) (sym there) keeps,
      no_more (dsize n) (drop (min n.offset (length (entry_of s n.inode).bytes)) (entry_of s n.inode).bytes),
    )
