-- The copy that cleaning makes takes over from its source.
use Rattle.std.proofs.Common.{◌≡◌, ℕ, min, ◌+◌, ◌-◌, ◌≤◌, ◌<◌, Bool, true, false, cond, not, ◌&&◌, ◌||◌, leb, ltb, eqb, List, [], ◌∷◌, length, map, flat_map, option_to_list, take, drop, ◌⊎◌, inl, inr, ⊎_elim, Option, Some, None, unwrap_or, is_some, refl, sym, ap, subst, ◌∙◌, arith}
use Rattle.std.specs.List.{list_any, list_all}
use Rattle.std.specs.Option.{option_map_or}
use Rattle.std.proofs.lemmas.Bool.{eqb-true, eq-eqb, leb-true, ltb-true, lt-ltb, le-leb, and_parts, and_from, or_left, or_right, cases_Bool, cases_lt, both_ways, not-true}
use Rattle.std.proofs.lemmas.Option.{none-some, same_Some}
use Rattle.std.proofs.lemmas.List.{length-take, length-drop}
use Rattle.jffs_node.specs.declared.node.Node.{Node}
use Rattle.jffs_node.specs.Record.{dsize, len_of_data, is_unmount, is_file, kind_byte}
use Rattle.jffs_inodes.specs.Held.{Entry, bytes_of, versions_held}
use Rattle.jffs_tree.specs.State.{State, at, state_of_past}
use Rattle.jffs_tree.specs.Origin.{concerns, entry, size_in, writes, offset_before, origin, newest, held, version_of, writers_of, is_live, IsTrueCopy}
use Rattle.jffs_tree.specs.Check.{keeps_kind, keeps_offsets, keeps_form, has_second_form, each_fits}
use Rattle.jffs_tree.specs.Decide.{entry_of, nobody}
use Rattle.jffs_tree.proofs.states.Pointwise.{at-state}
use Rattle.jffs_tree.proofs.states.Erasing.{present}
use Rattle.jffs_tree.proofs.versions.WholeTree.{the_version, any_of, from_range, named}
use Rattle.jffs_tree.proofs.states.Live.{newest_is_live, origin_is_live}
use Rattle.jffs_tree.proofs.decisions.Copies.{no_more, cleaning_copies_are_true}
use Rattle.jffs_tree.proofs.states.TrueCopy.{true_copy_keeps_state}
use Rattle.jffs_tree.proofs.states.Steps.{of_newest, its_inode, not_unmount, entry-other, entry-written, newest-other, newest-written, origin-other, origin-deleted, origin-written, origin-moved, origin-padding, where_is}
use Rattle.jffs_tree.proofs.states.Entries.{fits_parts, each_fits_from}
use Rattle.jffs_log.specs.Cleaning.{copied, version_after, versions_fall, keeps_length, is_history}
use Rattle.jffs_log.specs.RoomLaws.{Among, CopiesTakeOver, UnmountNodesAreDead}
use Rattle.jffs_log.proofs.ring.Sectors.{all_among}

-- Where a live version comes from.
abbrev pub IsNewest : List Node → ℕ → ℕ → Type 0
IsNewest past v i = version_of (newest past i) ≡ Some v

abbrev pub IsOrigin : List Node → ℕ → ℕ → Type 0
IsOrigin past v i = (p : ℕ) × (p < size_in past i) × (version_of (origin past i p) ≡ Some v)

abbrev pub ComesFrom : List Node → ℕ → Type 0
ComesFrom past v = (i : ℕ) × (IsNewest past v i ⊎ IsOrigin past v i)

in_held : (past : List Node) (v : ℕ) (s : State) → list_any (λ w. eqb w v) (flat_map versions_held (map (held past) s)) ≡ true → ComesFrom past v
in_held past v [] h = absurd (both_ways false refl h)
in_held past v (x ∷ s) h = ⊎_elim
    (λ here. (
      x.0,
      ⊎_elim
          (λ new. inl (the_version v (version_of (newest past x.0)) new))
          (λ old. inr (let a = from_range (λ p. version_of (origin past x.0 p)) v (size_in past x.0) 0 old in (a.0, (let l = a.1 in omega arith), a.2)))
          (any_of (λ w. eqb w v) (option_to_list (version_of (newest past x.0))) (flat_map option_to_list (writers_of past x.0)) here),
    ))
    (λ there. in_held past v s there)
    (any_of (λ w. eqb w v) (versions_held (held past x)) (flat_map versions_held (map (held past) s)) h)

pub comes_from : (past : List Node) (v : ℕ) → is_live past v ≡ true → ComesFrom past v
comes_from past v h = in_held past v (state_of_past past) h

-- An inode with a newest node, or with the origin of a byte, is present.
origin_present : (past : List Node) (i p : ℕ) (m : Node) → origin past i p ≡ Some m → (e : Entry) × (entry past i ≡ Some e)
origin_present [] i p m h = absurd (none-some m h)
origin_present (n ∷ past) i p m h = ⊎_elim
    (λ c. ⊎_elim
    (λ d. absurd (none-some m (sym (origin-deleted i n past p c d) ∙ h)))
    (λ d. (_, entry-written i n past c d))
    (cases_Bool n.deleted))
    (λ c. let later = origin_present past i p m (sym (origin-other i n past p c) ∙ h) in (later.0, entry-other i n past c ∙ later.1))
    (cases_Bool (concerns i n))

-- what comes from somewhere is live
pub is_newest_live : (past : List Node) (v i : ℕ) → IsNewest past v i → is_live past v ≡ true
is_newest_live past v i h =
    let m = named (newest past i) v h in
    let e = present past i m.0 m.1 in
    subst (λ w. is_live past w ≡ true) m.2 (newest_is_live past i e.0 m.0 e.1 m.1)

pub is_origin_live : (past : List Node) (v i : ℕ) → IsOrigin past v i → is_live past v ≡ true
is_origin_live past v i h =
    let m = named (origin past i h.0) v h.2 in
    let e = origin_present past i h.0 m.0 m.1 in
    subst (λ w. is_live past w ≡ true) m.2 (origin_is_live past i h.0 e.0 m.0 e.1 h.1 m.1)

-- The newest node, and an origin, is one of the nodes and speaks of the inode; and bytes stay where
-- they were written.
newest_among : (past : List Node) (i : ℕ) (m : Node) → newest past i ≡ Some m → Among m past × (concerns i m ≡ true)
newest_among past i m h = let k = of_newest (λ n. Among n past) i past m (all_among (λ n. Among n past) past (λ n a. a)) h in (k.1, k.0)

record HistoryParts (n : Node) (past : List Node) : Type 0 where
  before : is_history past ≡ true
  offsets : keeps_offsets past n ≡ true
  length : keeps_length n ≡ true
  falls : list_all (λ m. ltb m.version n.version) past ≡ true

-- the rules of a history, one by one
each_rule : (past : List Node) → is_history past ≡ true → (each_fits past ≡ true) × (versions_fall past ≡ true) × (list_all keeps_length past ≡ true)
each_rule past h =
    let a = and_parts (each_fits past && versions_fall past) (list_all keeps_length past) h in
    let b = and_parts (each_fits past) (versions_fall past) a.0 in
    (b.0, b.1, a.1)

all_rules : (past : List Node) → each_fits past ≡ true → versions_fall past ≡ true → list_all keeps_length past ≡ true → is_history past ≡ true
all_rules past fits falls lengths = and_from (each_fits past && versions_fall past) (list_all keeps_length past) (and_from (each_fits past) (versions_fall past) fits falls) lengths

history_parts : (n : Node) (past : List Node) → is_history (n ∷ past) ≡ true → HistoryParts n past
history_parts n past h =
    let rules = each_rule (n ∷ past) h in
    let l = and_parts (keeps_length n) (list_all keeps_length past) rules.2 in
    let v = and_parts (list_all (λ m. ltb m.version n.version) past) (versions_fall past) rules.1 in
    let f = fits_parts n past rules.0 in
    record {
      before = all_rules past f.0 v.1 l.1;
      offsets = f.2;
      length = l.0;
      falls = v.0;
    }

-- a node either keeps the length or ends the file
same_or_ends : (file same ends : Bool) → (file || same) ≡ true → ((not file || same) || ends) ≡ true → (same ≡ true) ⊎ (ends ≡ true)
same_or_ends true true ends h k = inl refl
same_or_ends true false ends h k = inr k
same_or_ends false true ends h k = inl refl
same_or_ends false false ends h k = cc

unmoved : (n : Node) (past : List Node) (i p : ℕ) → is_history (n ∷ past) ≡ true → concerns i n ≡ true → (n.offset + dsize n ≤ p) → (offset_before n p ≡ (p - dsize n) + n.rsize) → offset_before n p < size_in past i
    → offset_before n p ≡ p
unmoved n past i p h c behind back there =
    let parts = history_parts n past h in
    let at : size_in past n.inode ≡ size_in past i = ap (size_in past) (its_inode i n c) in
    ⊎_elim
    (λ same. let e = eqb-true (dsize n) n.rsize same in omega arith)
    (λ ends. let l = leb-true (size_in past n.inode) (n.offset + n.rsize) ends in absurd (omega arith))
    (same_or_ends (is_file n.kind) (eqb (dsize n) n.rsize) (leb (size_in past n.inode) (n.offset + n.rsize)) parts.length parts.offsets)

origin_among : (past : List Node) (i p : ℕ) (m : Node) → is_history past ≡ true → origin past i p ≡ Some m → Among m past × (concerns i m ≡ true) × (writes m p ≡ true)
origin_among [] i p m h o = absurd (none-some m o)
origin_among (n ∷ past) i p m h o =
    let parts = history_parts n past h in
    ⊎_elim
    (λ c. ⊎_elim
    (λ d. absurd (none-some m (sym (origin-deleted i n past p c d) ∙ o)))
    (λ d. ⊎_elim
    (λ w. let same = same_Some m n (sym o ∙ origin-written i n past p c d w.0) in (inl same, ap (concerns i) same ∙ c, ap (λ k. writes k p) same ∙ w.0))
    (λ w. ⊎_elim
    (λ was.
    let stays : offset_before n p ≡ p = ⊎_elim (λ before. before.1) (λ behind. unmoved n past i p h c behind.0 behind.1 was) w.1 in
    let later = origin_among past i (offset_before n p) m parts.before (sym (origin-moved i n past p c d w.0 was) ∙ o) in
    (inr later.0, later.1, ap (writes m) (sym stays) ∙ later.2))
    (λ gone. absurd (none-some m (sym (origin-padding i n past p c d w.0 gone) ∙ o)))
    (cases_lt (offset_before n p) (size_in past i)))
    (where_is n p))
    (cases_Bool n.deleted))
    (λ c. let later = origin_among past i p m parts.before (sym (origin-other i n past p c) ∙ o) in (inr later.0, later.1, later.2))
    (cases_Bool (concerns i n))

-- Versions.
pub all_test : (p : Node → Bool) (nodes : List Node) (m : Node) → list_all p nodes ≡ true → Among m nodes → p m ≡ true
all_test p [] m h a = absurd a
all_test p (n ∷ nodes) m h a = let parts = and_parts (p n) (list_all p nodes) h in ⊎_elim (λ here. ap p here ∙ parts.0) (λ there. all_test p nodes m parts.1 there) a

below : (n : Node) (past : List Node) (m : Node) → HistoryParts n past → Among m past → m.version < n.version
below n past m parts a = ltb-true m.version n.version (all_test (λ k. ltb k.version n.version) past m parts.falls a)

newer_version : (past : List Node) (m : Node) → is_history past ≡ true → Among m past → m.version < version_after past
newer_version [] m h a = absurd a
newer_version (n ∷ past) m h a = ⊎_elim
    (λ here. let e : m.version ≡ n.version = ap (λ k. k.version) here in omega arith)
    (λ there. let l = below n past m (history_parts n past h) there in omega arith)
    a

same_node : (past : List Node) (m n : Node) → is_history past ≡ true → Among m past → Among n past → m.version ≡ n.version → m ≡ n
same_node [] m n h a b e = absurd a
same_node (k ∷ past) m n h a b e =
    let parts = history_parts k past h in
    ⊎_elim
    (λ here. ⊎_elim
    (λ too. here ∙ sym too)
    (λ there. let l = below k past n parts there in let f : m.version ≡ k.version = ap (λ x. x.version) here in absurd (omega arith))
    b)
    (λ there. ⊎_elim
    (λ here. let l = below k past m parts there in let f : n.version ≡ k.version = ap (λ x. x.version) here in absurd (omega arith))
    (λ too. same_node past m n parts.before there too e)
    b)
    a

-- the newest node of an inode, and an origin, where they have the version of a node, are that node
newest_is : (past : List Node) (i : ℕ) (n : Node) → is_history past ≡ true → Among n past → IsNewest past n.version i → (newest past i ≡ Some n) × (concerns i n ≡ true)
newest_is past i n h a new =
    let m = named (newest past i) n.version new in
    let k = newest_among past i m.0 m.1 in
    let same = same_node past m.0 n h k.0 a m.2 in
    (m.1 ∙ ap (λ x. Some x) same, subst (λ x. concerns i x ≡ true) same k.1)

origin_is : (past : List Node) (i p : ℕ) (n : Node) → is_history past ≡ true → Among n past → version_of (origin past i p) ≡ Some n.version
    → (origin past i p ≡ Some n) × (concerns i n ≡ true) × (writes n p ≡ true)
origin_is past i p n h a old =
    let m = named (origin past i p) n.version old in
    let k = origin_among past i p m.0 h m.1 in
    let same = same_node past m.0 n h k.0 a m.2 in
    (m.1 ∙ ap (λ x. Some x) same, subst (λ x. concerns i x ≡ true) same k.1, subst (λ x. writes x p ≡ true) same k.2)

-- of a live node: no later one is of its inode, or a byte of the file comes from it
live_node : (past : List Node) (n : Node) → is_history past ≡ true → Among n past → is_live past n.version ≡ true
    → (newest past n.inode ≡ Some n) ⊎ ((p : ℕ) × (p < size_in past n.inode) × (origin past n.inode p ≡ Some n))
live_node past n h a live =
    let from = comes_from past n.version live in
    ⊎_elim
    (λ new. let it = newest_is past from.0 n h a new in inl (ap (newest past) (its_inode from.0 n it.1) ∙ it.0))
    (λ old.
    let it = origin_is past from.0 old.0 n h a old.2 in
    let at = its_inode from.0 n it.1 in
    inr (old.0, subst (λ j. old.0 < size_in past j) (sym at) old.1, ap (λ j. origin past j old.0) at ∙ it.0))
    from.1

live_concerns : (past : List Node) (n : Node) → is_history past ≡ true → Among n past → is_live past n.version ≡ true → concerns n.inode n ≡ true
live_concerns past n h a live = ⊎_elim
    (λ new. (newest_among past n.inode n new).1)
    (λ old. (origin_among past n.inode old.0 n h old.2).1)
    (live_node past n h a live)

pub live_present : (past : List Node) (n : Node) → is_history past ≡ true → Among n past → is_live past n.version ≡ true → (e : Entry) × (entry past n.inode ≡ Some e)
live_present past n h a live = ⊎_elim
    (λ new. present past n.inode n new)
    (λ old. origin_present past n.inode old.0 n old.2)
    (live_node past n h a live)

pub unmounts_are_dead : UnmountNodesAreDead
unmounts_are_dead past n h a u = ⊎_elim
    (λ live. absurd (both_ways (is_unmount n.kind) (not_unmount n.inode n (live_concerns past n h a live)) u))
    (λ dead. dead)
    (cases_Bool (is_live past n.version))

-- Lengths.
longer : (a b : ℕ) → a ≤ b → len_of_data a ≤ len_of_data b
longer a b h = omega arith

-- A true copy of the next version.
module _ (past : List Node) (h : is_history past ≡ true) (c : Node) (e : Entry) (true_copy : IsTrueCopy past c e) (next : c.version ≡ version_after past) where
  stands_parts : (is_unmount c.kind ≡ false) × (c.deleted ≡ false)
  stands_parts = let parts = and_parts (not (is_unmount c.kind)) (not c.deleted) true_copy.stands in (not-true (is_unmount c.kind) parts.0, not-true c.deleted parts.1)

  same_entry : (i : ℕ) → entry (c ∷ past) i ≡ entry past i
  same_entry i = sym (at-state (c ∷ past) i) ∙ ap (λ s. at s i) (true_copy_keeps_state past c e true_copy) ∙ at-state past i

  same_size_in : (i : ℕ) → size_in (c ∷ past) i ≡ size_in past i
  same_size_in i = ap (λ o. length (bytes_of o)) (same_entry i)

  -- what has an older version isn't the copy
  not_copy : (v : ℕ) (o : Option Node) → v < c.version → version_of o ≡ Some v → o ≡ Some c → ⊥
  not_copy v o older has is = let same : Some v ≡ Some c.version = sym has ∙ ap version_of is in let e : v ≡ c.version = cc in omega arith

  -- where a live version of the longer history comes from
  from_before : (v : ℕ) → v < c.version → is_live (c ∷ past) v ≡ true
      → (i : ℕ) × (((concerns i c ≡ false) × IsNewest past v i) ⊎ ((p : ℕ) × (p < size_in past i) × (version_of (origin past i p) ≡ Some v) × ((concerns i c ≡ false) ⊎ (writes c p ≡ false))))
  from_before v older live =
      let from = comes_from (c ∷ past) v live in
      let i = from.0 in (
        i,
        ⊎_elim
            (λ new. ⊎_elim
            (λ k. absurd (not_copy v (newest (c ∷ past) i) older new (newest-written i c past k stands_parts.1)))
            (λ k. inl (k, ap version_of (sym (newest-other i c past k)) ∙ new))
            (cases_Bool (concerns i c)))
            (λ old.
            let p = old.0 in
            let size = same_size_in i in
            let low = old.1 in
            let there : p < size_in past i = omega arith in
            ⊎_elim
            (λ k. ⊎_elim
            (λ w. absurd (not_copy v (origin (c ∷ past) i p) older old.2 (origin-written i c past p k stands_parts.1 w.0)))
            (λ w.
            let r = true_copy.range in
            let stays : offset_before c p ≡ p = ⊎_elim (λ before. before.1) (λ behind. let b = behind.0 in let d = behind.1 in omega arith) w.1 in
            let moved = origin-moved i c past p k stands_parts.1 w.0 (omega arith) in
            inr (p, there, ap (λ q. version_of (origin past i q)) (sym stays) ∙ ap version_of (sym moved) ∙ old.2, inr w.0))
            (where_is c p))
            (λ k. inr (p, there, ap version_of (sym (origin-other i c past p k)) ∙ old.2, inl k))
            (cases_Bool (concerns i c)))
            from.1,
      )

  none_other : (m : Node) → Among m past → is_live past m.version ≡ false → is_live (c ∷ past) m.version ≡ false
  none_other m a dead = ⊎_elim
      (λ live.
      let older = newer_version past m h a in
      let from = from_before m.version (omega arith) live in
      absurd (both_ways (is_live past m.version) dead (⊎_elim
      (λ new. is_newest_live past m.version from.0 new.1)
      (λ old. is_origin_live past m.version from.0 (old.0, old.1, old.2))
      from.1)))
      (λ off. off)
      (cases_Bool (is_live (c ∷ past) m.version))

  copy_history : is_history (c ∷ past) ≡ true
  copy_history =
      let rules = each_rule past h in
      let same_len : eqb (dsize c) c.rsize ≡ true = eq-eqb (dsize c) c.rsize (sym true_copy.range) in
      let kind : keeps_kind past c ≡ true =
      or_right c.deleted (option_map_or (λ x. eqb (kind_byte x.kind) (kind_byte c.kind)) (entry past c.inode) true)
      (ap (λ o. option_map_or (λ x. eqb (kind_byte x.kind) (kind_byte c.kind)) o true) true_copy.present ∙ eq-eqb (kind_byte e.kind) (kind_byte c.kind) (ap kind_byte (sym true_copy.kind))) in
      let offsets : keeps_offsets past c ≡ true =
      or_left (not (is_file c.kind) || eqb (dsize c) c.rsize) (leb (size_in past c.inode) (c.offset + c.rsize)) (or_right (not (is_file c.kind)) (eqb (dsize c) c.rsize) same_len) in
      let form : keeps_form past c ≡ true = stated (is_file c.kind) c.deleted c.size (has_second_form past) (length e.bytes) (true_copy.size ∙ ap (λ k. cond (is_file k) (Some (length e.bytes)) None) (sym true_copy.kind)) in
      all_rules (c ∷ past) (each_fits_from c past rules.0 kind offsets form)
      (and_from (list_all (λ m. ltb m.version c.version) past) (versions_fall past)
      (all_from (λ m. ltb m.version c.version) past (λ m k. lt-ltb m.version c.version (let l = newer_version past m h k in omega arith))) rules.1)
      (and_from (keeps_length c) (list_all keeps_length past) (or_right (is_file c.kind) (eqb (dsize c) c.rsize) same_len) rules.2)
    where
      stated : (file gone : Bool) (size : Option ℕ) (later : Bool) (k : ℕ) → size ≡ cond file (Some k) None → (((not file || gone) || is_some size) || not later) ≡ true
      stated true gone size later k f = or_left ((false || gone) || is_some size) (not later) (or_right (false || gone) (is_some size) (ap is_some f))
      stated false gone size later k f = refl

      all_from : (p : Node → Bool) (nodes : List Node) → ((m : Node) → Among m nodes → p m ≡ true) → list_all p nodes ≡ true
      all_from p [] f = refl
      all_from p (m ∷ nodes) f = and_from (p m) (list_all p nodes) (f m (inl refl)) (all_from p nodes (λ k a. f k (inr a)))

  -- The copy of a node that covers what its source wrote.
  module _ (n : Node) (a : Among n past) (inode : c.inode ≡ n.inode) (covers : (p : ℕ) → writes n p ≡ true → p < size_in past n.inode → writes c p ≡ true) where
    source_dead : is_live (c ∷ past) n.version ≡ false
    source_dead = ⊎_elim
        (λ live.
        let older = newer_version past n h a in
        let from = from_before n.version (omega arith) live in
        let i = from.0 in
        absurd (⊎_elim
        (λ new. both_ways (concerns i c) new.0 (here i (newest_is past i n h a new.1).1))
        (λ old.
        let it = origin_is past i old.0 n h a old.2 in
        ⊎_elim
        (λ off. both_ways (concerns i c) off (here i it.1))
        (λ off. both_ways (writes c old.0) off (covers old.0 it.2 (subst (λ j. old.0 < size_in past j) (sym (its_inode i n it.1)) old.1)))
        old.3)
        from.1))
        (λ off. off)
        (cases_Bool (is_live (c ∷ past) n.version))
      where
        here : (i : ℕ) → concerns i n ≡ true → concerns i c ≡ true
        here i con = and_from (not (is_unmount c.kind)) (eqb c.inode i) (ap not stands_parts.0) (eq-eqb c.inode i (inode ∙ its_inode i n con))

-- What the copy that cleaning makes covers, and how long it is. `o` is its offset, `b` its bytes.
copied_covers : (p d o : ℕ) (bytes : List ℕ) → o ≤ p → p < o + d → p < length bytes → p < min o (length bytes) + length (take d (drop (min o (length bytes)) bytes))
copied_covers p d o bytes low high there =
    let t = length-take d (drop (min o (length bytes)) bytes) in
    let r = length-drop (min o (length bytes)) bytes in
    omega arith

pub copies_take_over : CopiesTakeOver
copies_take_over past n h a live =
    let there = live_present past n h a live in
    let e = there.0 in
    let c = copied past n in
    let found : entry_of (state_of_past past) n.inode ≡ e = ap (λ o. unwrap_or o nobody) (at-state past n.inode ∙ there.1) in
    let true_copy = cleaning_copies_are_true past n e (version_after past) there.1 in
    let offset : c.offset ≡ min n.offset (length e.bytes) = ap (λ (x : Entry). min n.offset (length x.bytes)) found in
    let bytes : c.bytes ≡ take (dsize n) (drop (min n.offset (length e.bytes)) e.bytes) = ap (λ (x : Entry). take (dsize n) (drop (min n.offset (length x.bytes)) x.bytes)) found in
    let len : dsize c ≡ length (take (dsize n) (drop (min n.offset (length e.bytes)) e.bytes)) = ap (λ (x : List ℕ). length x) bytes in
    let size : size_in past n.inode ≡ length e.bytes = ap (λ o. length (bytes_of o)) there.1 in
    record {
      shorter = longer (dsize c) (dsize n) (let l = no_more (dsize n) (drop (min n.offset (length e.bytes)) e.bytes) in omega arith);
      obsolete = source_dead past h c e true_copy refl n a refl (λ p w l.
          let parts = and_parts (leb n.offset p) (ltb p (n.offset + dsize n)) w in
          let low = leb-true n.offset p parts.0 in
          let high = ltb-true p (n.offset + dsize n) parts.1 in
          let reach = copied_covers p (dsize n) n.offset e.bytes low high (omega arith) in
          and_from (leb c.offset p) (ltb p (c.offset + dsize c)) (le-leb c.offset p (omega arith)) (lt-ltb p (c.offset + dsize c) (omega arith)));
      no_other = none_other past h c e true_copy refl;
      history = copy_history past h c e true_copy refl;
      kind = (stands_parts past h c e true_copy refl).0;
    }
