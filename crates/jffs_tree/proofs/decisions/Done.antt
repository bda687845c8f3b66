-- A decided node does what the wish asks for.
use Rattle.std.proofs.Common.{◌≡◌, ℕ, min, max, ◌+◌, ◌-◌, ◌<◌, ◌≤◌, Bool, true, false, cond, eqb, List, [], ◌++◌, length, take, drop, replicate, get_or, ⊎_elim, Option, Some, None, is_some, unwrap_or, Ok, refl, sym, ap, subst, ◌∙◌, arith, nat_cmp}
use Rattle.std.specs.Option.{option_map_or}
use Rattle.std.specs.FinMap.Entries as entries
use Rattle.std.proofs.lemmas.Bool.{cases_lt, not-false, or_parts}
use Rattle.std.proofs.lemmas.List.{ext_get_or, length-append, length-take, length-drop, length-replicate, get_or-take, get_or-drop, get_or_append_left, get_or-append_right, get_or-replicate, get_or_past}
use Rattle.jffs_node.specs.declared.node.Node.{Node}
use Rattle.jffs_node.specs.declared.node.Kind.{Kind}
use Rattle.jffs_node.specs.declared.node.Kind.TheVariants.{File, Directory}
use Rattle.jffs_node.specs.Record.{is_unmount}
use Rattle.jffs_tree.specs.declared.wish.Limits.{Limits}
use Rattle.jffs_tree.specs.declared.wish.NewNode.{NewNode}
use Rattle.jffs_tree.specs.declared.wish.Wish.{Wish}
use Rattle.jffs_tree.specs.declared.wish.Wish.TheVariants.{MakeDir, Create, Write, Truncate, Rename, Remove, Copy, Unmount}
use Rattle.jffs_inodes.specs.Held.{Entry, sized, written}
use Rattle.jffs_tree.specs.State.{State, at, apply, resolve, state_of_past}
use Rattle.jffs_tree.specs.Origin.{stated_size}
use Rattle.jffs_tree.specs.Decide.{is_root, last_name, parent_in, has_parent, inode_at, entry_of, plain, write_node, truncate_node, causes_of_new, new_node, decide_new, decide, with}
use Rattle.jffs_tree.specs.Deciding.{AreLimitsOf}
use Rattle.jffs_tree.specs.Done.{resized, with_new, with_changed, without, done_at, done, DecidedIsDone, NewInodesAreFree}
use Rattle.jffs_tree.proofs.states.Pointwise.{at-state}
use Rattle.jffs_tree.proofs.states.Offsets.{spliced, read_before, read_written, read_after, length-sized, read_sized}
use Rattle.jffs_tree.proofs.states.TrueCopy.{same_put, stated, true_copy_keeps_state}
use Rattle.jffs_tree.proofs.decisions.Copies.{never_unmount, accepted_copies_are_true}
use Rattle.jffs_tree.proofs.decisions.Resolving.{value_of, the_parent}
use Rattle.jffs_tree.proofs.decisions.Changing.{below_new}
use Rattle.jffs_tree.proofs.decisions.Decided.{all_passed, nothing_stands, file_at, entry_at}

-- The bytes of a file that is cut, or grown with zeros.
length_resized : (k : ℕ) (c : List ℕ) → length (resized k c) ≡ k
length_resized k c = omega (arith, length-append (take k c) (replicate (k - length c) 0), length-take k c, length-replicate {A = ℕ} (k - length c) 0)

read_resized : (k : ℕ) (c : List ℕ) (p : ℕ) → p < k → get_or (resized k c) p 0 ≡ get_or c p 0
read_resized k c p l = ⊎_elim
    (λ inside. get_or_append_left (take k c) (replicate (k - length c) 0) 0 p (omega (arith, length-take k c)) ∙ get_or-take k c p 0 l)
    (λ beyond.
    get_or-append_right (take k c) (replicate (k - length c) 0) (length c) p 0 (omega (arith, length-take k c)) beyond
    ∙ get_or-replicate (k - length c) (p - length c) 0 0 (omega arith)
    ∙ sym (get_or_past c p 0 beyond))
    (cases_lt p (length c))

-- a truncate's node makes them
cut_bytes : (c : List ℕ) (k : ℕ) → sized (Some k) (spliced c (min k (length c)) (length c - min k (length c)) []) ≡ resized k c
cut_bytes c k =
    let cut = spliced c (min k (length c)) (length c - min k (length c)) [] in
    let long = length-sized 0 k cut in
    ext_get_or 0 _ _ (long ∙ sym (length_resized k c)) (λ p l.
    read_sized 0 (Some k) cut p l
    ∙ ⊎_elim
    (λ before. read_before 0 c (min k (length c)) (length c - min k (length c)) [] p before)
    (λ behind.
    let back : (p - 0) + (length c - min k (length c)) ≡ p = omega arith in
    read_after 0 c (min k (length c)) (length c - min k (length c)) [] p (omega arith) ∙ ap (λ q. get_or c q 0) back)
    (cases_lt p (min k (length c)))
    ∙ sym (read_resized k c p (omega arith)))

-- The bytes of a file that is written over.
module _ (c b : List ℕ) (o : ℕ) where
  abbrev over : List ℕ
  over = resized o c ++ b ++ drop (o + length b) c

  length_front : length (resized o c ++ b) ≡ o + length b
  length_front = omega (arith, length-append (resized o c) b, length_resized o c)

  length_over : length over ≡ (o + length b) + (length c - (o + length b))
  length_over = omega (arith, length-append (resized o c ++ b) (drop (o + length b) c), length_front, length-drop (o + length b) c)

  over_before : (p : ℕ) → p < o → get_or over p 0 ≡ get_or c p 0
  over_before p l =
      get_or_append_left (resized o c ++ b) (drop (o + length b) c) 0 p (omega (arith, length_front))
      ∙ get_or_append_left (resized o c) b 0 p (omega (arith, length_resized o c))
      ∙ read_resized o c p l

  over_written : (p : ℕ) → o ≤ p → p < o + length b → get_or over p 0 ≡ get_or b (p - o) 0
  over_written p l m =
      get_or_append_left (resized o c ++ b) (drop (o + length b) c) 0 p (omega (arith, length_front))
      ∙ get_or-append_right (resized o c) b o p 0 (length_resized o c) l

  over_after : (p : ℕ) → o + length b ≤ p → get_or over p 0 ≡ get_or c p 0
  over_after p l =
      let at : (o + length b) + (p - (o + length b)) ≡ p = omega arith in
      get_or-append_right (resized o c ++ b) (drop (o + length b) c) (o + length b) p 0 length_front l
      ∙ get_or-drop (o + length b) c (p - (o + length b)) 0
      ∙ ap (λ q. get_or c q 0) at

  -- a write's node makes them
  written_bytes : sized (Some (max (length c) (o + length b))) (spliced c o (min (length b) (length c - o)) b) ≡ over
  written_bytes =
      let r = min (length b) (length c - o) in
      let k = max (length c) (o + length b) in
      let long = length-sized 0 k (spliced c o r b) in
      ext_get_or 0 _ _ (long ∙ (let e = length_over in omega arith)) (λ p l.
      read_sized 0 (Some k) (spliced c o r b) p l
      ∙ ⊎_elim
      (λ before. read_before 0 c o r b p before ∙ sym (over_before p before))
      (λ from. ⊎_elim
      (λ inside. read_written 0 c o r b p from inside ∙ sym (over_written p from inside))
      (λ behind.
      let back : (p - length b) + r ≡ p = omega arith in
      read_after 0 c o r b p behind ∙ ap (λ q. get_or c q 0) back ∙ sym (over_after p behind))
      (cases_lt p (o + length b)))
      (cases_lt p o))

-- a node without data, whose range is empty, leaves the bytes
left_bytes : (e : Entry) (o : ℕ) → o ≤ length e.bytes → sized (stated_size e) (spliced e.bytes o 0 []) ≡ e.bytes
left_bytes e o l = ap (λ x. sized (stated_size e) x) (same_put e.bytes [] o (omega arith) refl) ∙ stated e

-- What a node makes of a state, as an entry that is put or taken away.
module _ (s : State) (n : Node) (stands : is_unmount n.kind ≡ false) where
  put_by : n.deleted ≡ false → (e : Entry) → written n (at s n.inode) ≡ e → apply s n ≡ entries.put nat_cmp n.inode e s
  put_by d e is =
      ap (λ t. cond t s (cond n.deleted (without s n.inode) (entries.put nat_cmp n.inode (written n (at s n.inode)) s))) stands
      ∙ ap (λ t. cond t (without s n.inode) (entries.put nat_cmp n.inode (written n (at s n.inode)) s)) d
      ∙ ap (λ x. entries.put nat_cmp n.inode x s) is

  gone_by : n.deleted ≡ true → apply s n ≡ without s n.inode
  gone_by d =
      ap (λ t. cond t s (cond n.deleted (without s n.inode) (entries.put nat_cmp n.inode (written n (at s n.inode)) s))) stands
      ∙ ap (λ t. cond t (without s n.inode) (entries.put nat_cmp n.inode (written n (at s n.inode)) s)) d

-- what is done at a path that leads to an entry
changed_there : (s : State) (path : List (List ℕ)) (i : ℕ) (e : Entry) (change : Entry → Entry) → resolve s path ≡ Some i → at s i ≡ Some e
    → done_at path s (with_changed change s) ≡ entries.put nat_cmp i (change e) s
changed_there s path i e change leads is =
    ap (λ o. option_map_or (with_changed change s) o s) leads
    ∙ ap (λ o. option_map_or (λ x. entries.put nat_cmp i (change x) s) o s) is

-- a number above all has no entry
nothing_at : (o : Option Entry) → ((f : Entry) → o ≡ Some f → ⊥) → o ≡ None
nothing_at None never = refl
nothing_at (Some f) never = absurd (never f refl)

module _ (past : List Node) (limits : Limits) (version writer seq : ℕ) where
  abbrev s : State
  s = state_of_past past

  -- the node does this
  abbrev Does : Wish → NewNode → Type 0
  Does wish n = apply s (with n version writer seq) ≡ done n.inode s wish

  stands_at : (i : ℕ) (e : Entry) → at s i ≡ Some e → is_unmount e.kind ≡ false
  stands_at i e is = never_unmount past i e (sym (at-state past i) ∙ is)

  -- a write, with bytes and without
  module _ (path : List (List ℕ)) (offset : ℕ) (bytes : List ℕ) (i : ℕ) (e : Entry) (leads : resolve s path ≡ Some i) (there : at s i ≡ Some e) where
    abbrev none : NewNode
    none = record (plain i e) { offset = min offset (length e.bytes) }

    abbrev some : NewNode
    some = record (plain i e) {
      offset = offset;
      rsize = min (length bytes) (length e.bytes - offset);
      size = Some (max (length e.bytes) (offset + length bytes));
      bytes = bytes;
    }

    by_bytes : (t : Bool) → apply s (with (cond t none some) version writer seq) ≡ done_at path s (with_changed (λ x. record x { bytes = cond t x.bytes (over x.bytes bytes offset) }) s)
    by_bytes true =
        put_by s (with none version writer seq) (stands_at i e there) refl e
        (ap (λ o. written (with none version writer seq) o) there
        ∙ (λ j. record { kind = e.kind; parent = e.parent; name = e.name; bytes = left_bytes e (min offset (length e.bytes)) (omega arith) j }))
        ∙ sym (changed_there s path i e (λ x. record x { bytes = x.bytes }) leads there)
    by_bytes false =
        put_by s (with some version writer seq) (stands_at i e there) refl (record e { bytes = over e.bytes bytes offset })
        (ap (λ o. written (with some version writer seq) o) there
        ∙ (λ j. record { kind = e.kind; parent = e.parent; name = e.name; bytes = written_bytes e.bytes bytes offset j }))
        ∙ sym (changed_there s path i e (λ x. record x { bytes = over x.bytes bytes offset }) leads there)

    written_there : Does (Write path offset bytes) (write_node i e offset bytes)
    written_there = by_bytes (eqb (length bytes) 0)

  done_write : (path : List (List ℕ)) (offset : ℕ) (bytes : List ℕ) (n : NewNode) → decide past limits (Write path offset bytes) ≡ Ok n → Does (Write path offset bytes) n
  done_write path offset bytes n is =
      let passed = nothing_stands past limits (Write path offset bytes) n is in
      let file = file_at s path passed.0.0 passed.0.1.0 in
      subst (Does (Write path offset bytes)) passed.1 (written_there path offset bytes (inode_at s path) (entry_of s (inode_at s path)) file.0 file.1)

  done_truncate : (path : List (List ℕ)) (size : ℕ) (n : NewNode) → decide past limits (Truncate path size) ≡ Ok n → Does (Truncate path size) n
  done_truncate path size n is =
      let i = inode_at s path in
      let e = entry_of s i in
      let passed = nothing_stands past limits (Truncate path size) n is in
      let file = file_at s path passed.0.0 passed.0.1.0 in
      subst (Does (Truncate path size)) passed.1
      (put_by s (with (truncate_node i e size) version writer seq) (stands_at i e file.1) refl (record e { bytes = resized size e.bytes })
      (ap (λ o. written (with (truncate_node i e size) version writer seq) o) file.1
      ∙ (λ j. record { kind = e.kind; parent = e.parent; name = e.name; bytes = cut_bytes e.bytes size j }))
      ∙ sym (changed_there s path i e (λ x. record x { bytes = resized size x.bytes }) file.0 file.1))

  done_rename : (source target : List (List ℕ)) (n : NewNode) → decide past limits (Rename source target) ≡ Ok n → Does (Rename source target) n
  done_rename source target n is =
      let i = inode_at s source in
      let e = entry_of s i in
      let parent = unwrap_or (parent_in s target) 0 in
      let f : Entry = record e { parent = parent; name = last_name target } in
      let passed = nothing_stands past limits (Rename source target) n is in
      let roots = or_parts (is_root source) (is_root target) passed.0.0 in
      let there = entry_at s source passed.0.1.1.1.0 roots.0 in
      let home = (the_parent s target (not-false (has_parent s target) passed.0.1.0)).0 in
      subst (Does (Rename source target)) passed.1
      (put_by s (with (plain i f) version writer seq) (stands_at i e there.1) refl f
      (ap (λ o. written (with (plain i f) version writer seq) o) there.1
      ∙ (λ j. record { kind = e.kind; parent = parent; name = last_name target; bytes = left_bytes f 0 (omega arith) j }))
      ∙ sym
      (ap (λ o. option_map_or (λ p. done_at source s (with_changed (λ x. record x { parent = p; name = last_name target }) s)) o s) home
      ∙ changed_there s source i e (λ x. record x { parent = parent; name = last_name target }) there.0 there.1))

  done_remove : (path : List (List ℕ)) (n : NewNode) → decide past limits (Remove path) ≡ Ok n → Does (Remove path) n
  done_remove path n is =
      let i = inode_at s path in
      let e = entry_of s i in
      let gone : NewNode = record (plain i e) { deleted = true; size = None } in
      let passed = nothing_stands past limits (Remove path) n is in
      let there = entry_at s path passed.0.1.0 passed.0.0 in
      subst (Does (Remove path)) passed.1
      (gone_by s (with gone version writer seq) (stands_at i e there.1) refl
      ∙ sym (ap (λ o. option_map_or (without s) o s) there.0))

  -- MakeDir and Create
  module _ (fresh : AreLimitsOf past limits) (kind : Kind) (stands : is_unmount kind ≡ false) (path : List (List ℕ)) where
    abbrev new_entry : ℕ → Entry
    new_entry parent = record { kind = kind; parent = parent; name = last_name path; bytes = [] }

    new_passed : (n : NewNode) → decide_new s limits kind path ≡ Ok n
        → ((1 < unwrap_or limits.next_inode 0) × (at s (unwrap_or limits.next_inode 0) ≡ None)) × (parent_in s path ≡ Some (unwrap_or (parent_in s path) 0))
        × (plain (unwrap_or limits.next_inode 0) (new_entry (unwrap_or (parent_in s path) 0)) ≡ n)
    new_passed n is =
        let k = unwrap_or limits.next_inode 0 in
        let passed = all_passed (causes_of_new s limits path) (new_node s limits kind path) n is in
        let new = fresh k (value_of limits.next_inode 0 (not-false (is_some limits.next_inode) passed.0.1.1.1.0)) in (
          (let l = new.low in omega arith, nothing_at (at s k) (λ f was. let l = below_new past k k f new.above (sym (at-state past k) ∙ was) in omega arith)),
          (the_parent s path (not-false (has_parent s path) passed.0.1.0)).0,
          passed.1,
        )

    new_free : (n : NewNode) → decide_new s limits kind path ≡ Ok n → (1 < n.inode) × (at s n.inode ≡ None)
    new_free n is = let new = new_passed n is in subst (λ (m : NewNode). (1 < m.inode) × (at s m.inode ≡ None)) new.2 new.0

    done_new : (n : NewNode) → decide_new s limits kind path ≡ Ok n → apply s (with n version writer seq) ≡ with_new n.inode kind s path
    done_new n is =
        let k = unwrap_or limits.next_inode 0 in
        let e = new_entry (unwrap_or (parent_in s path) 0) in
        let new = new_passed n is in
        subst (λ (m : NewNode). apply s (with m version writer seq) ≡ with_new m.inode kind s path) new.2
        (put_by s (with (plain k e) version writer seq) stands refl e
        (ap (λ o. written (with (plain k e) version writer seq) o) new.0.1
        ∙ (λ j. record { kind = e.kind; parent = e.parent; name = e.name; bytes = left_bytes e 0 (omega arith) j }))
        ∙ sym (ap (λ o. option_map_or (λ p. entries.put nat_cmp k (new_entry p) s) o s) new.1))

  done_copy : (source parent : ℕ) (name : List ℕ) (offset : ℕ) (bytes : List ℕ) (n : NewNode) → decide past limits (Copy source parent name offset bytes) ≡ Ok n
      → Does (Copy source parent name offset bytes) n
  done_copy source parent name offset bytes n is =
      let true = accepted_copies_are_true past limits source parent name offset bytes n version writer seq is in
      true_copy_keeps_state past (with n version writer seq) true.0 true.1

  done_unmount : (n : NewNode) → decide past limits Unmount ≡ Ok n → Does Unmount n
  done_unmount n is =
      let passed = nothing_stands past limits Unmount n is in
      subst (Does Unmount) passed.1 refl

  by_wish : AreLimitsOf past limits → (wish : Wish) (n : NewNode) → decide past limits wish ≡ Ok n → Does wish n
  by_wish fresh (MakeDir path) n is = done_new fresh Directory refl path n is
  by_wish fresh (Create path) n is = done_new fresh File refl path n is
  by_wish fresh (Write path offset bytes) n is = done_write path offset bytes n is
  by_wish fresh (Truncate path size) n is = done_truncate path size n is
  by_wish fresh (Rename source target) n is = done_rename source target n is
  by_wish fresh (Remove path) n is = done_remove path n is
  by_wish fresh (Copy source parent name offset bytes) n is = done_copy source parent name offset bytes n is
  by_wish fresh Unmount n is = done_unmount n is

pub decided_is_done : DecidedIsDone
decided_is_done past limits wish n version writer seq fresh is = by_wish past limits version writer seq fresh wish n is

pub new_inodes_are_free : NewInodesAreFree
new_inodes_are_free past limits (MakeDir path) n fresh is = λ new. new_free past limits 0 0 0 fresh Directory refl path n is
new_inodes_are_free past limits (Create path) n fresh is = λ new. new_free past limits 0 0 0 fresh File refl path n is
new_inodes_are_free past limits _ n fresh is = λ new. cc
