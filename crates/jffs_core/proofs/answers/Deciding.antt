-- What a decision gives: its causes, its nodes, and that they may follow.
use Rattle.std.proofs.Common.{◌≡◌, ⊎_elim, ℕ, ◌+◌, ◌-◌, ◌/◌, ◌^◌, ◌≤◌, ◌<◌, Bool, true, false, ◌&&◌, ◌||◌, not, cond, leb, ltb, eqb, min, max, List, [], ◌∷◌, ◌++◌, length, Option, Some, None, is_some, Result, Ok, Err, refl, sym, ap, subst, ◌∙◌, arith}
use Rattle.std.specs.List.{list_all, AllByRecursion}
use Rattle.std.specs.Option.{option_map_or}
use Rattle.std.proofs.lemmas.Bool.{and_parts, and_from, cases_Bool, ltb-true, lt-ltb, eqb-true}
use Rattle.std.proofs.lemmas.Option.{none-some, same_Some, cond_some}
use Rattle.jffs_node.specs.declared.node.Node.{Node}
use Rattle.jffs_node.specs.Record.{record_len, len_of_data, is_fresh, is_unmount, is_lawful}
use Rattle.jffs_node.specs.Name.{is_name}
use Rattle.jffs_node.proofs.Lawfulness.{rules_of}
use Rattle.jffs_flash.specs.Sizes.{is_geometry, is_sector_size}
use Rattle.jffs_flash.specs.declared.sizes.TheConstants.{MIN_SECTORS, MAX_SECTORS}
use Rattle.jffs_tree.specs.declared.wish.Wish.{Wish}
use Rattle.jffs_tree.specs.declared.wish.Wish.TheVariants.{MakeDir, Create, Write, Truncate, Rename, Remove, Copy, Unmount}
use Rattle.jffs_tree.specs.declared.wish.Cause.{Cause}
use Rattle.jffs_tree.specs.declared.wish.Cause.TheVariants.{Memory, NoSpace, Device, Failed}
use Rattle.jffs_tree.specs.declared.wish.Limits.{Limits}
use Rattle.jffs_tree.specs.declared.wish.NewNode.{NewNode}
use Rattle.jffs_inodes.specs.Held.{Entry, written, Held}
use Rattle.jffs_tree.specs.State.{State, state_of_past}
use Rattle.jffs_tree.specs.Origin.{entry, concerns, holder, tree_of}
use Rattle.jffs_tree.specs.Decide.{unless, inode_at, entry_of, plain, write_node, causes_for, node_for, decide_in, decide, with, is_copy_wish, is_unmount_wish}
use Rattle.jffs_tree.specs.Deciding.{IsLawfulPast, AreLimitsOf, IsWish}
use Rattle.jffs_tree.proofs.decisions.Decided.{decided_nodes_keep_rules, nothing_stands}
use Rattle.jffs_tree.proofs.states.TrueCopy.{true_copy_keeps_state}
use Rattle.jffs_log.specs.declared.room.Room.{Room}
use Rattle.jffs_log.specs.declared.sector.TheConstants.{RECORDS_PER_SECTOR}
use Rattle.jffs_log.specs.RoomLaws.{suits_room}
use Rattle.jffs_log.specs.Room.{following, greatest_inode, next_version, data_max, limits as limits_of}
use Rattle.jffs_log.proofs.scans.ScanNumbers.{inode_one}
use Rattle.jffs_log.specs.Cleaning.{versions_fall}
use Rattle.jffs_log.specs.History.{KeepsRules}
use Rattle.jffs_core.specs.History.{AreOwnCopies, MayFollow}
use Rattle.jffs_core.specs.Run.{OnlyCopies}
use Rattle.jffs_core.specs.Appending.{MayPut}

-- The causes of a decision say something of the tree or its numbers.
abbrev pub is_of_tree : Cause → Bool
is_of_tree Memory = false
is_of_tree NoSpace = false
is_of_tree Device = false
is_of_tree Failed = false
is_of_tree _ = true

one_of : (causes : List (Bool × Cause)) (n : NewNode) (cause : Cause) → list_all (λ c. is_of_tree c.1) causes ≡ true → unless causes n ≡ Err cause → is_of_tree cause ≡ true
one_of [] n cause all is = cc
one_of (c ∷ causes) n cause all is = let both = and_parts (is_of_tree c.1) (list_all (λ d. is_of_tree d.1) causes) all in this both.0 (one_of causes n cause both.1) c.0 refl is
  where
    this : is_of_tree c.1 ≡ true → (unless causes n ≡ Err cause → is_of_tree cause ≡ true) → (b : Bool) → c.0 ≡ b → cond b (Err c.1) (unless causes n) ≡ Err cause → is_of_tree cause ≡ true
    this here later true e is = ap is_of_tree (sym (same is)) ∙ here
      where
        same : {a b : Cause} → ◌≡◌ {A = Result NewNode Cause} (Err a) (Err b) → a ≡ b
        same e = cc
    this here later false e is = later is

of_tree : (s : State) (holds : ℕ → Option (ℕ × Held)) (limits : Limits) (wish : Wish) → list_all (λ c. is_of_tree c.1) (causes_for s holds limits wish) ≡ true
of_tree s holds limits (MakeDir path) = refl
of_tree s holds limits (Create path) = refl
of_tree s holds limits (Write path offset bytes) = refl
of_tree s holds limits (Truncate path size) = refl
of_tree s holds limits (Rename source target) = refl
of_tree s holds limits (Remove path) = refl
of_tree s holds limits (Copy source parent name offset bytes) = refl
of_tree s holds limits Unmount = refl

pub decided_cause : (past : List Node) (limits : Limits) (wish : Wish) (cause : Cause) → decide past limits wish ≡ Err cause → is_of_tree cause ≡ true
decided_cause past limits wish cause is =
    let s = state_of_past past in
    let holds : ℕ → Option (ℕ × Held) = λ v. holder (tree_of past) v in
    one_of (causes_for s holds limits wish) (node_for s holds limits wish) cause (of_tree s holds limits wish) is

-- The node of a wish that is neither a Copy nor an Unmount is no copy, and has a name.
abbrev IsNamed : NewNode → Type 0
IsNamed n = (n.copy ≡ false) × (is_some n.name ≡ true)

write_named : (i : ℕ) (e : Entry) (offset : ℕ) (bytes : List ℕ) → IsNamed (write_node i e offset bytes)
write_named i e offset bytes = ⊎_elim
    (λ none. let P : NewNode → Type 0 = IsNamed in subst P (sym (ap (λ t. cond t (record (plain i e) { offset = min offset (length e.bytes) }) (record (plain i e) { offset = offset; rsize = min (length bytes) (length e.bytes - offset); size = Some (max (length e.bytes) (offset + length bytes)); bytes = bytes })) none)) (refl, refl))
    (λ some. let P : NewNode → Type 0 = IsNamed in subst P (sym (ap (λ t. cond t (record (plain i e) { offset = min offset (length e.bytes) }) (record (plain i e) { offset = offset; rsize = min (length bytes) (length e.bytes - offset); size = Some (max (length e.bytes) (offset + length bytes)); bytes = bytes })) some)) (refl, refl))
    (cases_Bool (eqb (length bytes) 0))

named : (s : State) (holds : ℕ → Option (ℕ × Held)) (limits : Limits) (wish : Wish) → is_copy_wish wish ≡ false → is_unmount_wish wish ≡ false → IsNamed (node_for s holds limits wish)
named s holds limits (MakeDir path) c u = (refl, refl)
named s holds limits (Create path) c u = (refl, refl)
named s holds limits (Write path offset bytes) c u = write_named (inode_at s path) (entry_of s (inode_at s path)) offset bytes
named s holds limits (Truncate path size) c u = (refl, refl)
named s holds limits (Rename source target) c u = (refl, refl)
named s holds limits (Remove path) c u = (refl, refl)
named s holds limits (Copy source parent name offset bytes) c u = cc
named s holds limits Unmount c u = cc

-- a lawful node with a name that is no copy is fresh
fresh_node : (n : Node) → n.copy ≡ false → is_some n.name ≡ true → is_lawful n ≡ true → is_fresh n ≡ true
fresh_node n copy name lawful =
    and_from (not n.copy) (not (is_unmount n.kind)) (ap not copy) (no_unmount (is_unmount n.kind) n.name name (let rules = rules_of n lawful in rules.name))
  where
    no_unmount : (u : Bool) (name : Option (List ℕ)) → is_some name ≡ true → option_map_or (λ x. not u && is_name x) name u ≡ true → not u ≡ true
    no_unmount u None some h = cc
    no_unmount u (Some x) some h = (and_parts (not u) (is_name x) h).0

-- The numbers that come next.
pub following_is : (k v : ℕ) → following k ≡ Some v → (v ≡ k + 1) × (v < 2 ^ 32)
following_is k v is =
    let some = cond_some (ltb (k + 1) (2 ^ 32)) (k + 1) v is in
    let below = ltb-true (k + 1) (2 ^ 32) some.0 in
    (sym some.1, omega arith)

older_below : (w v : ℕ) (past : List Node) → w ≤ v → list_all (λ m. ltb m.version w) past ≡ true → list_all (λ m. ltb m.version v) past ≡ true
older_below w v [] l h = refl
older_below w v (n ∷ past) l h =
    let a = and_parts (ltb n.version w) (list_all (λ m. ltb m.version w) past) h in
    let b = ltb-true n.version w a.0 in
    and_from (ltb n.version v) (list_all (λ m. ltb m.version v) past) (lt-ltb n.version v (omega arith)) (older_below w v past l a.1)

pub next_is_newest : (past : List Node) (v : ℕ) → versions_fall past ≡ true → next_version past ≡ Some v → (list_all (λ m. ltb m.version v) past ≡ true) × (1 ≤ v) × (v < 2 ^ 32)
next_is_newest [] v h is = let same = same_Some 1 v is in (refl, omega arith, omega arith)
next_is_newest (n ∷ past) v h is =
    let f = following_is n.version v is in
    let same = f.0 in
    let small = f.1 in
    let a = and_parts (list_all (λ m. ltb m.version n.version) past) (versions_fall past) h in
    (and_from (ltb n.version v) (list_all (λ m. ltb m.version v) past) (lt-ltb n.version v (omega arith)) (older_below n.version v past (omega arith) a.0), omega arith, omega arith)

-- New inodes.
all_below : (v : ℕ) (past : List Node) → greatest_inode past < v → AllByRecursion (λ n. n.inode < v) past
all_below v [] l = tt
all_below v (n ∷ past) l = (omega arith, all_below v past (omega arith))

pub limits_given : (z : ℕ) (past : List Node) → AreLimitsOf past (limits_of z past)
limits_given z past inode is =
    let f = following_is (greatest_inode past) inode is in
    let same = f.0 in
    let high = inode_one past in
    record { low = omega arith; high = f.1; above = all_below inode past (omega arith) }

present_below : (past : List Node) (i v : ℕ) (e : Entry) → entry past i ≡ Some e → AllByRecursion (λ n. n.inode < v) past → i < v
present_below [] i v e is h = absurd (none-some e is)
present_below (n ∷ past) i v e is h = ⊎_elim
    (λ here. let same = eqb-true n.inode i (and_parts (not (is_unmount n.kind)) (eqb n.inode i) here).1 in let low = h.0 in omega arith)
    (λ other. present_below past i v e (ap (λ t. cond t (cond n.deleted None (Some (written n (entry past i)))) (entry past i)) (sym other) ∙ is) h.1)
    (cases_Bool (concerns i n))

copies_below : (past copies : List Node) (v : ℕ) → AreOwnCopies past copies → AllByRecursion (λ n. n.inode < v) past → AllByRecursion (λ n. n.inode < v) (copies ++ past)
copies_below past [] v h low = low
copies_below past (c ∷ copies) v h low =
    let before = copies_below past copies v h.0 low in
    let there = h.1.3 in
    (present_below (copies ++ past) c.inode v there.0 there.1.present before, before)

-- Own copies change no state, so a decision that is no Copy stays.
pub copies_state : (past copies : List Node) → AreOwnCopies past copies → state_of_past (copies ++ past) ≡ state_of_past past
copies_state past [] h = refl
copies_state past (c ∷ copies) h = true_copy_keeps_state (copies ++ past) c h.1.3.0 h.1.3.1 ∙ copies_state past copies h.0

by_state : (s : State) (one other : ℕ → Option (ℕ × Held)) (limits : Limits) (wish : Wish) → is_copy_wish wish ≡ false → decide_in s one limits wish ≡ decide_in s other limits wish
by_state s one other limits (MakeDir path) c = refl
by_state s one other limits (Create path) c = refl
by_state s one other limits (Write path offset bytes) c = refl
by_state s one other limits (Truncate path size) c = refl
by_state s one other limits (Rename source target) c = refl
by_state s one other limits (Remove path) c = refl
by_state s one other limits (Copy source parent name offset bytes) c = cc
by_state s one other limits Unmount c = refl

pub decision_stays : (past after : List Node) (limits : Limits) (wish : Wish) → OnlyCopies past after → is_copy_wish wish ≡ false → decide after limits wish ≡ decide past limits wish
decision_stays past after limits wish copies c =
    let same : state_of_past after ≡ state_of_past past = ap state_of_past copies.joined ∙ copies_state past copies.copies copies.true_copies in
    ap (λ s. decide_in s (λ v. holder (tree_of after) v) limits wish) same ∙ by_state (state_of_past past) (λ v. holder (tree_of after) v) (λ v. holder (tree_of past) v) limits wish c

pub limits_stay : (z : ℕ) (past after : List Node) → OnlyCopies past after → AreLimitsOf after (limits_of z past)
limits_stay z past after copies inode is =
    let before = limits_given z past inode is in
    let above = copies_below past copies.copies inode copies.true_copies before.above in
    record { low = before.low; high = before.high; above = subst (AllByRecursion (λ n. n.inode < inode)) (sym copies.joined) above }

-- A node with no more data than a record may carry is no longer than a quarter of a sector.
pub sector_sizes : (P : ℕ → Type 0) (z : ℕ) → is_sector_size z ≡ true → P 1024 → P 2048 → P 4096 → P 8192 → P 16384 → P z
sector_sizes P z h a b c d e = by_any (eqb 1024 z) (eqb 2048 z) (eqb 4096 z) (eqb 8192 z) (eqb 16384 z) (eqb-true 1024 z) (eqb-true 2048 z) (eqb-true 4096 z) (eqb-true 8192 z) (eqb-true 16384 z) h
  where
    by_any : (k l m n o : Bool) → (k ≡ true → 1024 ≡ z) → (l ≡ true → 2048 ≡ z) → (m ≡ true → 4096 ≡ z) → (n ≡ true → 8192 ≡ z) → (o ≡ true → 16384 ≡ z) → (k || (l || (m || (n || (o || false))))) ≡ true → P z
    by_any true l m n o p q r s t h = subst P (p refl) a
    by_any false true m n o p q r s t h = subst P (q refl) b
    by_any false false true n o p q r s t h = subst P (r refl) c
    by_any false false false true o p q r s t h = subst P (s refl) d
    by_any false false false false true p q r s t h = subst P (t refl) e
    by_any false false false false false p q r s t h = cc

pub short_enough : (count z k : ℕ) → is_geometry count z ≡ true → k ≤ data_max z → len_of_data k ≤ z / RECORDS_PER_SECTOR
short_enough count z k sizes fits =
    let size = (and_parts (leb MIN_SECTORS count && leb count MAX_SECTORS) (is_sector_size z) sizes).1 in
    let P : ℕ → Type 0 = λ y. k ≤ data_max y → len_of_data k ≤ y / RECORDS_PER_SECTOR in
    sector_sizes P z size (λ l. omega arith) (λ l. omega arith) (λ l. omega arith) (λ l. omega arith) (λ l. omega arith) fits

-- A decided node may follow own copies, with the version that comes next.
module _ (count z : ℕ) (past after : List Node) (wish : Wish) (n : NewNode) (version writer seq : ℕ)
    (sizes : is_geometry count z ≡ true) (rules : KeepsRules after) (limits_fit : AreLimitsOf after (limits_of z past)) (is : decide after (limits_of z past) wish ≡ Ok n)
    (wish_is : IsWish wish) (next : next_version after ≡ Some version) (writer_fits : writer < 2 ^ 16) (seq_fits : seq < 2 ^ 32) where
  both : IsLawfulPast (with n version writer seq ∷ after) × (length n.bytes ≤ data_max z)
  both =
      let v = next_is_newest after version rules.falls next in
      decided_nodes_keep_rules after (limits_of z past) wish n version writer seq rules.lawful limits_fit wish_is
      (record { first = v.1; version_fits = v.2; writer_fits = writer_fits; seq_fits = seq_fits }) is

  rules_kept : KeepsRules (with n version writer seq ∷ after)
  rules_kept =
      let v = next_is_newest after version rules.falls next in
      record { lawful = both.0; falls = and_from (list_all (λ m. ltb m.version version) after) (versions_fall after) v.0 rules.falls }

  pub put_short : record_len (with n version writer seq) ≤ z / 4
  put_short = short_enough count z (length n.bytes) sizes both.1

  pub may_put : (room : Room) → suits_room room (with n version writer seq) ≡ true → MayFollow after (with n version writer seq) → MayPut after z room (with n version writer seq)
  may_put room suits follows = record { rules = rules_kept; short = put_short; suits = suits; follows = follows; next = next }

  pub is_made_fresh : is_copy_wish wish ≡ false → is_unmount_wish wish ≡ false → is_fresh (with n version writer seq) ≡ true
  is_made_fresh c u =
      let made = (nothing_stands after (limits_of z past) wish n is).1 in
      let name = subst IsNamed made (named (state_of_past after) (λ v. holder (tree_of after) v) (limits_of z past) wish c u) in
      fresh_node (with n version writer seq) name.0 name.1 both.0.each.0
