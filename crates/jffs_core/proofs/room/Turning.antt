-- Room made sector by sector.
use Rattle.std.proofs.Common.{◌≡◌, ◌⊎◌, inl, inr, ℕ, zero, suc, ◌-◌, ◌≤◌, Bool, true, false, ◌&&◌, ◌||◌, cond, List, [], ◌++◌, length, refl, sym, ap, subst, ◌∙◌, arith}
use Rattle.std.specs.List.{AllByRecursion}
use Rattle.std.proofs.lemmas.Bool.{or_left}
use Rattle.jffs_node.specs.declared.node.Node.{Node}
use Rattle.jffs_node.proofs.Each.{each_front}
use Rattle.jffs_tree.specs.declared.wish.Cause.{Cause}
use Rattle.jffs_log.specs.declared.room.Room.TheVariants as rooms
use Rattle.jffs_log.specs.LogIndex.{HasSizes, layout_in}
use Rattle.jffs_log.specs.Work.{live_and_free}
use Rattle.jffs_log.specs.Cleaning.{used, GcState, cleaned, copies_have_room, fresh_has_room, handled_each, oldest_records, room_made}
use Rattle.jffs_log.specs.RoomLaws.{Among}
use Rattle.jffs_log.proofs.rooms.Copied.{copies_take_over, unmounts_are_dead}
use Rattle.jffs_log.proofs.rooms.Bound.{cleaning_has_room, no_room}
use Rattle.jffs_log.proofs.ring.Sectors.{all_among}
use Rattle.jffs_log.proofs.rooms.WorkOfTurns.{IsTurning as MayCopy, IsSpent, spent_none, spent_both, spent_little, each_spent, cleaned_spent}
use Rattle.jffs_core.specs.CoreState.{CoreState}
use Rattle.jffs_core.specs.Run.{OnlyCopies}
use Rattle.jffs_core.specs.History.{IsOwnCopy}
use Rattle.jffs_core.specs.Past.{RepresentsWorking, gc_state, has_room_for}
use Rattle.jffs_core.specs.Step.{room_can_be_made}
use Rattle.jffs_core.specs.Calls.{WorksOn}
use Rattle.jffs_core.specs.declared.cleaning.Cleaned.{Cleaned}
use Rattle.jffs_core.specs.declared.cleaning.Cleaned.TheVariants.{Erased, OneSector}
use Rattle.jffs_core.specs.Cleaning.{DidClean, HasCleaned, HasMadeRoom, MakingStopped, SectorStopped}
use Rattle.jffs_core.proofs.answers.Lawful.{copies_along}
use Rattle.jffs_core.proofs.answers.Refusing.{refused_along, works_along, works_still}
use Rattle.jffs_core.specs.Erases.{Leaves}
use Rattle.jffs_core.proofs.room.Erasing.{leaves_all}
use Rattle.jffs_core.proofs.answers.Full.{sizes_low}

-- Room is being made, and `left` cleanings are left.
pub record HasTurned (len left : ℕ) (past after : List Node) (old now : CoreState) : Type 0 where
  pub copies : OnlyCopies past after
  pub stands : WorksOn past after old now
  pub turn : room_made old.index.sector_size len left (gc_state after now) ≡ room_made old.index.sector_size len (length (layout_in old.image old.index).sectors) (gc_state past old)
  pub room : room_can_be_made old.index.sector_size len (length (layout_in old.image old.index).sectors) (gc_state past old) ≡ room_can_be_made old.index.sector_size len left (gc_state after now)
  pub two : 2 ≤ (layout_in old.image old.index).erased → 2 ≤ (layout_in now.image now.index).erased
  pub may : MayCopy left (gc_state after now)
  pub spent : IsSpent (length (layout_in old.image old.index).sectors) left (gc_state past old) (gc_state after now)

pub record IsTurning (len left : ℕ) (old now : CoreState) : Type 0 where
  pub works : now.failed ≡ false
  pub few : left ≤ old.index.held
  pub none : has_room_for now rooms.Fresh len ≡ false
  pub leaves : Leaves (old.index.held - left) old now
  pub done : (past : List Node) → RepresentsWorking past old → (after : List Node) × HasTurned len left past after old now

pub turning_begins : (len left : ℕ) (c : CoreState) → c.failed ≡ false → has_room_for c rooms.Fresh len ≡ false → left ≡ length (layout_in c.image c.index).sectors → left ≤ c.index.held → IsTurning len left c c
turning_begins len left c works none is few = record {
  works = works;
  few = few;
  none = none;
  leaves = leaves_all (c.index.held - left) c;
  done = λ past known. (
    past,
    record {
      copies = record { copies = []; true_copies = tt; joined = refl };
      stands = works_still past c works known;
      turn = ap (λ k. room_made c.index.sector_size len k (gc_state past c)) is;
      room = ap (λ k. room_can_be_made c.index.sector_size len k (gc_state past c)) (sym is);
      two = λ e. e;
      may = record { history = known.sound.history; known = known.sound.known; few = omega arith };
      spent = subst (λ k. IsSpent k left (gc_state past c) (gc_state past c)) is (spent_none left (gc_state past c));
    },
  );
}

-- it stops where there is room, or after the last
pub turning_ends : (len left : ℕ) (past after : List Node) (old now : CoreState) → HasTurned len left past after old now → (left ≡ 0) ⊎ (fresh_has_room len (gc_state after now) ≡ true) → HasMadeRoom len past after old now
turning_ends len left past after old now h why = record { copies = h.copies; stands = h.stands; turn = sym (stopped left why) ∙ h.turn; room = h.room ∙ settled left why; two = h.two }
  where
    stopped : (k : ℕ) → (k ≡ 0) ⊎ (fresh_has_room len (gc_state after now) ≡ true) → room_made old.index.sector_size len k (gc_state after now) ≡ gc_state after now
    stopped zero w = refl
    stopped (suc k) (inl e) = absurd (omega arith)
    stopped (suc k) (inr e) = ap (λ t. cond t (gc_state after now) (room_made old.index.sector_size len k (cleaned old.index.sector_size (gc_state after now)))) e

    settled : (k : ℕ) → (k ≡ 0) ⊎ (fresh_has_room len (gc_state after now) ≡ true) → room_can_be_made old.index.sector_size len k (gc_state after now) ≡ fresh_has_room len (gc_state after now)
    settled zero w = refl
    settled (suc k) (inl e) = absurd (omega arith)
    settled (suc k) (inr e) = or_left (fresh_has_room len (gc_state after now)) _ e ∙ sym e

-- without room yet, all hangs on the oldest sector
one_more_turn : (z len left : ℕ) (s : GcState) (fits : Bool) → fresh_has_room len s ≡ false → copies_have_room z (oldest_records s.log.sectors) s ≡ fits → room_can_be_made z len (suc left) s ≡ (fits && room_can_be_made z len left (cleaned z s))
one_more_turn z len left s fits none is =
    ap (λ t. t || (copies_have_room z (oldest_records s.log.sectors) s && room_can_be_made z len left (cleaned z s))) none
    ∙ ap (λ t. t && room_can_be_made z len left (cleaned z s)) is

pub turning_goes_on : (len left copies : ℕ) (past after later : List Node) (old middle new : CoreState) → HasSizes old.index.sectors old.index.sector_size middle.index → HasTurned len (suc left) past after old middle → fresh_has_room len (gc_state after middle) ≡ false
    → 2 ≤ length (layout_in middle.image middle.index).sectors → HasCleaned after later copies middle new → HasTurned len left past later old new
turning_goes_on len left copies past after later old middle new sizes h none several c =
    let z = old.index.sector_size in
    let s = gc_state after middle in
    let same : gc_state later new ≡ cleaned z s = c.turn ∙ ap (λ y. cleaned y s) (sym sizes.1) in
    let one = cleaned_spent copies_take_over z left s h.may in
    record {
      copies = copies_along past after later h.copies c.added;
      stands = works_along past after later old middle new h.stands c.stands;
      turn = ap (room_made z len left) same ∙ sym (ap (λ t. cond t s (room_made z len left (cleaned z s))) none) ∙ h.turn;
      room = h.room ∙ one_more_turn z len left s true none (ap (λ y. copies_have_room y (oldest_records s.log.sectors) s) sizes.1 ∙ c.room) ∙ ap (room_can_be_made z len left) (sym same);
      two = λ e.
          let k = h.stands.represents in
          let low = sizes_low middle.index.sectors middle.index.sector_size k.history.sizes in
          let more = (cleaning_has_room copies_take_over unmounts_are_dead middle.index.sectors middle.index.sector_size s low.1 k.sound (h.two e) several).2 in
          let before = h.two e in
          let at : (layout_in new.image new.index).erased ≡ (cleaned middle.index.sector_size s).log.erased = ap (λ (x : GcState). x.log.erased) c.turn in
          omega arith;
      may = subst (MayCopy left) (sym same) one.1;
      spent = subst (IsSpent (length (layout_in old.image old.index).sectors) left (gc_state past old)) (sym same) (spent_both _ (suc left) left (gc_state past old) s (cleaned z s) h.spent one.0);
    }

-- Copies of a turn that stopped inside a sector are little too.
stopped_little : (z left most : ℕ) (start s : GcState) (done rest later made : List Node) → MayCopy (suc left) s → IsSpent most (suc left) start s → oldest_records s.log.sectors ≡ done ++ rest → later ≡ (handled_each z done s).past → later ≡ made ++ start.past
    → used made ≤ live_and_free start
stopped_little z left most start s done rest later made may spent are turn joined =
    let oldest = oldest_records s.log.sectors in
    let among = (each_front (λ n. Among n oldest) done rest (subst (AllByRecursion (λ n. Among n oldest)) are (all_among (λ n. Among n oldest) oldest (λ n a. a)))).0 in
    let one = each_spent copies_take_over z left done s may among in
    spent_little most (suc left) start (handled_each z done s) made (spent_both most (suc left) (suc left) start s (handled_each z done s) spent one.0) (sym turn ∙ joined)

pub turning_stopped : (len left : ℕ) (past after later : List Node) (cause : Cause) (old middle new : CoreState) → HasSizes old.index.sectors old.index.sector_size middle.index → HasTurned len (suc left) past after old middle → fresh_has_room len (gc_state after middle) ≡ false
    → SectorStopped cause after later middle new → MakingStopped len cause past later old new
turning_stopped len left past after later cause old middle new sizes h none one =
    let z = old.index.sector_size in
    let s = gc_state after middle in
    let c = one.stopped in
    let wants = one.wants in
    let part = one.handled in
    let copies = copies_along past after later h.copies c.copies in
    record {
      stopped = record {
        copies = copies;
        stands = refused_along (IsOwnCopy later) cause past after later old middle new h.stands c.stands;
        no_room = λ e two. c.no_room e (h.two two);
      };
      none = λ e. h.room ∙ one_more_turn z len left s false none (ap (λ y. copies_have_room y (oldest_records s.log.sectors) s) sizes.1 ∙ wants.at_turn e);
      little = stopped_little z left (length (layout_in old.image old.index).sectors) (gc_state past old) s part.done part.rest later copies.copies h.may h.spent part.are
          (part.turn ∙ ap (λ y. (handled_each y part.done s).past) (sym sizes.1)) copies.joined;
    }

-- a log without room for a fresh record has several sectors
pub full_has_several : (len : ℕ) (after : List Node) (c : CoreState) → RepresentsWorking after c → fresh_has_room len (gc_state after c) ≡ false → 2 ≤ length (layout_in c.image c.index).sectors
full_has_several len after c known none =
    let low = sizes_low c.index.sectors c.index.sector_size known.history.sizes in
    let n = no_room copies_take_over unmounts_are_dead c.index.sectors c.index.sector_size 0 len low.1 low.0 (gc_state after c) none in
    let few = n.1 in
    let six = low.0 in
    let all = known.sound.counted in
    omega arith

-- so each turn cleans one of them
pub turning_cleaned : (len left : ℕ) (done : Cleaned) (past after : List Node) (old middle new : CoreState) → HasSizes old.index.sectors old.index.sector_size middle.index → HasTurned len (suc left) past after old middle → fresh_has_room len (gc_state after middle) ≡ false
    → DidClean done after middle new → (later : List Node) × HasTurned len left past later old new
turning_cleaned len left (Erased sector copies) past after old middle new sizes h none did =
    let later = did.2 in
    (later.0, turning_goes_on len left copies past after later.0 old middle new sizes h none did.1 later.1)
turning_cleaned len left OneSector past after old middle new sizes h none did =
    let few = did.1 in
    let several = full_has_several len after middle h.stands.represents none in
    absurd (omega arith)
