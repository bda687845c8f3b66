-- The oldest sector, record by record.
use Rattle.std.proofs.Common.{◌≡◌, ◌⊎◌, inl, inr, ℕ, zero, suc, ◌+◌, ◌-◌, ◌/◌, ◌≤◌, ◌<◌, Bool, true, false, cond, List, [], ◌∷◌, ◌++◌, length, take, drop, get_or, refl, sym, ap, subst, ◌∙◌, arith, drop-cons}
use Rattle.std.specs.List.{AllByRecursion}
use Rattle.std.specs.Int.{from_bool}
use Rattle.std.proofs.Math.Seq.{take-suc}
use Rattle.std.proofs.lemmas.List.{append-nil, length-map, take-append-drop}
use Rattle.std.proofs.lemmas.Bool.{and_parts, and_from, both_ways, false_from_ne_true}
use Rattle.jffs_node.specs.declared.node.Node.{Node}
use Rattle.jffs_node.specs.Record.{record_len, dsize, fits_rest}
use Rattle.jffs_node.proofs.Each.{each_at}
use Rattle.jffs_tree.specs.declared.wish.Cause.{Cause}
use Rattle.jffs_tree.specs.declared.wish.Cause.TheVariants as causes
use Rattle.jffs_tree.specs.Laws.{NoneLive}
use Rattle.jffs_log.specs.Image.{Placed, nodes_of}
use Rattle.jffs_log.specs.LogIndex.{HasSizes, layout_in, oldest_in, lives_in}
use Rattle.jffs_log.specs.Cleaning.{GcState, handled, handled_each, copy_has_room, copies_have_room, oldest_records, erase_oldest, stands_from}
use Rattle.jffs_log.specs.RoomLaws.{Among}
use Rattle.jffs_log.proofs.ring.Sectors.{stands_among}
use Rattle.jffs_log.proofs.ring.SectorSpellings.{rest_fits, record_long}
use Rattle.jffs_log.proofs.Histories.{dead_as}
use Rattle.jffs_log.proofs.rooms.Copied.{copies_take_over, unmounts_are_dead}
use Rattle.jffs_log.proofs.rooms.Loop.{handled_in_parts, oldest_stays}
use Rattle.jffs_log.proofs.rooms.Bound.{cleaning_has_room, handled_are_dead}
use Rattle.jffs_core.specs.CoreState.{CoreState}
use Rattle.jffs_core.specs.History.{IsOwnCopy}
use Rattle.jffs_core.specs.Past.{RepresentsWorking, gc_state}
use Rattle.jffs_core.specs.Cleaning.{HasHandled, CopyStopped, HasCopied, HasCleaned, HasErased, SectorStopped, EraseStopped, copies_would_fit, IsDeadOldest}
use Rattle.jffs_core.proofs.answers.Lawful.{copies_along}
use Rattle.jffs_core.proofs.room.RoomMade.{oldest_known}
use Rattle.jffs_core.proofs.answers.Refusing.{refused_along, works_along, works_still}
use Rattle.jffs_core.specs.Erases.{Leaves}
use Rattle.jffs_core.proofs.room.Erasing.{leaves_all}
use Rattle.jffs_core.proofs.answers.Full.{sizes_low}
use Rattle.jffs_core.proofs.room.Sweeping.{erase_refused, oldest_is}

-- the records of the oldest sector
abbrev pub the_oldest : CoreState → List Node
the_oldest c = oldest_records (layout_in c.image c.index).sectors

-- The first k of the oldest sector's records were handled.
pub record IsCopying (nodes : List Node) (k copies : ℕ) (old now : CoreState) : Type 0 where
  pub works : now.failed ≡ false
  pub leaves : Leaves 0 old now
  pub few : copies ≤ k
  pub done : (past : List Node) → RepresentsWorking past old → (after : List Node) × HasCopied (take k nodes) past after copies old now

pub copying_begins : (nodes : List Node) (c : CoreState) → c.failed ≡ false → IsCopying nodes 0 0 c c
copying_begins nodes c works = record {
  works = works;
  leaves = leaves_all 0 c;
  few = omega arith;
  done = λ past known. (
    past,
    record {
      added = record { copies = []; true_copies = tt; joined = refl };
      stands = works_still past c works known;
      turn = refl;
      room = refl;
      counted = omega arith;
    },
  );
}

pub among_more : (n : Node) (copies past after : List Node) → after ≡ copies ++ past → Among n past → Among n after
among_more n copies past after is a = subst (Among n) (sym is) (behind copies)
  where
    behind : (xs : List Node) → Among n (xs ++ past)
    behind [] = a
    behind (x ∷ xs) = inr (behind xs)

-- the records of the oldest sector are in the history, and short
module _ (nodes past : List Node) (c : CoreState) (known : RepresentsWorking past c) (oldest : nodes ≡ oldest_records (layout_in c.image c.index).sectors) where
  all_known : AllByRecursion (λ n. Among n past) nodes
  all_known = subst (AllByRecursion (λ n. Among n past)) (sym oldest) (oldest_known past (layout_in c.image c.index).sectors known.sound.known)

  oldest_stands : (sectors : List (List Node)) → AllByRecursion (λ ns. stands_from c.index.sector_size 0 ns ≡ true) sectors → stands_from c.index.sector_size 0 (oldest_records sectors) ≡ true
  oldest_stands [] h = refl
  oldest_stands (s ∷ sectors) h = h.0

  its_stand : stands_from c.index.sector_size 0 nodes ≡ true
  its_stand = ap (stands_from c.index.sector_size 0) oldest ∙ oldest_stands (layout_in c.image c.index).sectors known.sound.stands

  pub one_known : (i : ℕ) (d : Node) → i < length nodes → Among (get_or nodes i d) past
  one_known i d l = each_at (λ n. Among n past) nodes i d l all_known

  pub one_short : (i : ℕ) (d : Node) → i < length nodes → record_len (get_or nodes i d) ≤ c.index.sector_size / 4
  one_short i d l = each_at (λ n. record_len n ≤ c.index.sector_size / 4) nodes i d l (stands_among c.index.sector_size 0 nodes its_stand)

  count : (z offset : ℕ) (ns : List Node) → stands_from z offset ns ≡ true → length ns ≤ z - offset
  count z offset [] h = omega arith
  count z offset (n ∷ ns) h =
      let a = and_parts (fits_rest n.kind (dsize n) (z / 4) (z - offset)) (stands_from z (offset + record_len n) ns) h in
      let fits = rest_fits n.kind (dsize n) (z / 4) (z - offset) a.0 in
      let long = record_long n in
      let later = count z (offset + record_len n) ns a.1 in
      omega arith

  pub are_few : length nodes ≤ c.index.sector_size
  are_few = let l = count c.index.sector_size 0 nodes its_stand in omega arith

-- One record more.
pub copying_goes_on : (nodes past after : List Node) (k copies more : ℕ) (node : Node) (is_copied : Bool) (old middle new : CoreState) → k < length nodes → node ≡ get_or nodes k node → HasSizes old.index.sectors old.index.sector_size middle.index
    → HasCopied (take k nodes) past after copies old middle → HasHandled after node is_copied middle new → more ≡ copies + from_bool is_copied → (later : List Node) × HasCopied (take (k + 1) nodes) past later more old new
copying_goes_on nodes past after k copies more node is_copied old middle new below is sizes h one sum =
    let z = old.index.sector_size in
    let s = gc_state past old in
    let taken : take (k + 1) nodes ≡ take k nodes ++ node ∷ [] = ap (λ j. take j nodes) add-one_at ∙ take-suc nodes k node below ∙ ap (λ m. take k nodes ++ m ∷ []) (sym is) in (
      one.after,
      record {
        added = copies_along past after one.after h.added one.added;
        stands = works_along past after one.after old middle new h.stands one.stands;
        turn =
            one.turn
            ∙ ap (λ y. handled y node (gc_state after middle)) (sym sizes.1)
            ∙ ap (handled z node) h.turn
            ∙ sym (handled_in_parts z (take k nodes) (node ∷ []) s).0
            ∙ ap (λ ns. handled_each z ns s) (sym taken);
        room =
            ap (λ ns. copies_have_room z ns s) taken
            ∙ (handled_in_parts z (take k nodes) (node ∷ []) s).1
            ∙ and_from (copies_have_room z (take k nodes) s) _ h.room (and_from (copy_has_room node (handled_each z (take k nodes) s)) true (ap (copy_has_room node) (sym h.turn) ∙ one.room) refl);
        counted = let a = one.counted in let b = h.counted in let e = one_if is_copied in omega arith;
      },
    )
  where
    add-one_at : k + 1 ≡ suc k
    add-one_at = omega arith

    one_if : (b : Bool) → cond b 1 0 ≡ from_bool b
    one_if true = refl
    one_if false = refl

at_among : (xs : List Node) (i : ℕ) (d : Node) → i < length xs → Among (get_or xs i d) xs
at_among [] i d below = absurd (omega arith)
at_among (x ∷ xs) zero d below = inl refl
at_among (x ∷ xs) (suc i) d below = inr (at_among xs i d (omega arith))

-- memory that was refused, or a device that failed, has nothing to do with a copy
pub not_for_copy : (cause : Cause) → (cause ≡ causes.Memory) ⊎ (cause ≡ causes.Device) → (cause ≡ causes.NoSpace → ⊥) × (cause ≡ causes.VersionsSpent → ⊥)
not_for_copy _ (inl memory) = ((λ e. let same = sym memory ∙ e in cc), (λ e. let same = sym memory ∙ e in cc))
not_for_copy _ (inr device) = ((λ e. let same = sym device ∙ e in cc), (λ e. let same = sym device ∙ e in cc))

-- One that had no room at its turn is among those that cleaning would make; and with two sectors
-- erased each has room.
pub copying_has_room : (nodes past after : List Node) (k copies : ℕ) (node : Node) (cause : Cause) (old middle new : CoreState) → RepresentsWorking past old → nodes ≡ oldest_records (layout_in old.image old.index).sectors
    → 2 ≤ length (layout_in old.image old.index).sectors → k < length nodes → node ≡ get_or nodes k node → HasCopied (take k nodes) past after copies old middle → CopyStopped cause after node middle new → SectorStopped cause past after old new
copying_has_room nodes past after k copies node cause old middle new known oldest several below is h stopped = record {
  several = several;
  stopped = record {
    copies = h.added;
    stands = refused_along (IsOwnCopy after) cause past after after old middle new h.stands stopped.stands;
    no_room = λ e two.
        let sizes = sizes_low old.index.sectors z known.history.sizes in
        both_ways _ (without e) (cleaning_has_room copies_take_over unmounts_are_dead old.index.sectors z s sizes.1 known.sound two several).0;
  };
  handled = record {
    done = take k nodes;
    rest = drop k nodes;
    are = sym oldest ∙ sym (take-append-drop k nodes);
    turn = ap (λ (x : GcState). x.past) h.turn;
  };
  wants = record {
    at_turn = without;
    to_copy = λ e. (node, subst (Among node) oldest (subst (λ n. Among n nodes) (sym is) (at_among nodes k node below)), stopped.live);
    version = stopped.version;
  };
}
  where
    z : ℕ
    z = old.index.sector_size

    s : GcState
    s = gc_state past old

    without : cause ≡ causes.NoSpace → copies_would_fit past old ≡ false
    without e = false_from_ne_true (copies_would_fit past old) (λ all.
        let rest = drop (suc k) nodes in
        let split : nodes ≡ take k nodes ++ node ∷ rest = sym (take-append-drop k nodes) ∙ ap (λ xs. take k nodes ++ xs) (drop-cons nodes k node below ∙ ap (λ m. m ∷ rest) (sym is)) in
        let room : copies_have_room z (take k nodes ++ node ∷ rest) s ≡ true = ap (λ ns. copies_have_room z ns s) (sym split ∙ oldest) ∙ all in
        let parts = and_parts (copies_have_room z (take k nodes) s) (copies_have_room z (node ∷ rest) (handled_each z (take k nodes) s)) (sym (handled_in_parts z (take k nodes) (node ∷ rest) s).1 ∙ room) in
        let one = and_parts (copy_has_room node (handled_each z (take k nodes) s)) (copies_have_room z rest (handled z node (handled_each z (take k nodes) s))) parts.1 in
        both_ways _ (ap (copy_has_room node) (sym h.turn) ∙ stopped.no_room e) one.0)

-- The oldest sector holds what it held, whichever of its records were handled.
pub oldest_still : (nodes past after : List Node) (copies : ℕ) (old middle : CoreState) → 2 ≤ length (layout_in old.image old.index).sectors → HasCopied nodes past after copies old middle
    → nodes_of (oldest_in middle.image middle.index) ≡ oldest_records (layout_in old.image old.index).sectors
oldest_still nodes past after copies old middle several h =
    oldest_is middle.image middle.index ∙ ap (λ (s : GcState). oldest_records s.log.sectors) h.turn ∙ (oldest_stays old.index.sector_size nodes (gc_state past old) several).0

-- how many there are
pub oldest_many : (c : CoreState) → length (oldest_in c.image c.index) ≡ length (oldest_records (layout_in c.image c.index).sectors)
oldest_many c = sym (length-map (oldest_in c.image c.index) (λ (p : Placed). p.node)) ∙ ap (λ (ns : List Node). length ns) (oldest_is c.image c.index)

abbrev pub node_at : (xs : List Node) (i : ℕ) → i < length xs → Node
node_at [] i below = absurd (omega arith)
node_at (x ∷ xs) zero below = x
node_at (x ∷ xs) (suc i) below = node_at xs i (omega arith)

pub at_node : (xs : List Node) (i : ℕ) (d : Node) (below : i < length xs) → node_at xs i below ≡ get_or xs i d
at_node [] i d below = absurd (omega arith)
at_node (x ∷ xs) zero d below = refl
at_node (x ∷ xs) (suc i) d below = at_node xs i d (omega arith)

-- Once all were handled none of them is live.
module _ (nodes past after : List Node) (copies : ℕ) (old middle : CoreState) (known : RepresentsWorking past old) (oldest : nodes ≡ oldest_records (layout_in old.image old.index).sectors)
    (several : 2 ≤ length (layout_in old.image old.index).sectors) (h : HasCopied nodes past after copies old middle) where
  stays : (oldest_records (handled_each old.index.sector_size nodes (gc_state past old)).log.sectors ≡ oldest_records (layout_in old.image old.index).sectors) × (2 ≤ length (handled_each old.index.sector_size nodes (gc_state past old)).log.sectors)
  stays = oldest_stays old.index.sector_size nodes (gc_state past old) several

  still_several : 2 ≤ length (layout_in middle.image middle.index).sectors
  still_several = subst (λ (s : GcState). 2 ≤ length s.log.sectors) (sym h.turn) stays.1

  still_oldest : nodes_of (oldest_in middle.image middle.index) ≡ nodes
  still_oldest = oldest_still nodes past after copies old middle several h ∙ sym oldest

  now_dead : AllByRecursion (λ p. lives_in middle.tree p ≡ false) (oldest_in middle.image middle.index)
  now_dead =
      let k = h.stands.represents in
      let dead = handled_are_dead copies_take_over old.index.sector_size nodes (gc_state past old) known.sound.history (all_known nodes past old known oldest) in
      let later : NoneLive after nodes = subst (λ (s : GcState). NoneLive s.past nodes) (sym h.turn) dead in
      let among = oldest_known after (layout_in middle.image middle.index).sectors k.sound.known in
      let in_log = subst (AllByRecursion (λ n. Among n after)) (sym (oldest_is middle.image middle.index)) among in
      subst (λ t. AllByRecursion (λ p. lives_in t p ≡ false) (oldest_in middle.image middle.index)) (sym k.tree_is)
      ((dead_as after (oldest_in middle.image middle.index) k.history.rules.falls in_log).1 (subst (NoneLive after) (sym still_oldest) later))

  pub dead_oldest : IsDeadOldest middle
  dead_oldest = record { several = still_several; dead = now_dead }

  pub then_erased : (new : CoreState) → HasErased after middle new → HasCleaned past after copies old new
  then_erased new e = record {
    added = h.added;
    stands = works_along past after after old middle new h.stands e.stands;
    turn =
        (λ i. record { past = after; log = e.log i })
        ∙ ap (λ (s : GcState). record { past = s.past; log = erase_oldest s.log }) h.turn
        ∙ ap (λ ns. let a = handled_each old.index.sector_size ns (gc_state past old) in record { past = a.past; log = erase_oldest a.log }) oldest;
    room = ap (λ ns. copies_have_room old.index.sector_size ns (gc_state past old)) (sym oldest) ∙ h.room;
    counted = h.counted;
  }

  pub then_stopped : (cause : Cause) (new : CoreState) → EraseStopped cause middle new → SectorStopped cause past after old new
  then_stopped cause new e =
      let other = not_for_copy cause (inr e.cause_is) in
      record {
        several = several;
        stopped = record {
          copies = h.added;
          stands = refused_along (IsOwnCopy after) cause past after after old middle new h.stands (erase_refused cause after middle new h.stands.represents e);
          no_room = λ is. absurd (other.0 is);
        };
        handled = record {
          done = nodes;
          rest = [];
          are = sym oldest ∙ sym (append-nil nodes);
          turn = ap (λ (x : GcState). x.past) h.turn;
        };
        wants = record {
          at_turn = λ is. absurd (other.0 is);
          to_copy = λ is. absurd (other.1 is);
          version = λ is. let same = sym is ∙ e.cause_is in cc;
        };
      }
