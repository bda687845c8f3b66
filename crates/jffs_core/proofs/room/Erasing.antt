-- Sectors are erased, and how often.
use Rattle.std.proofs.Common.{◌≡◌, inl, inr, ℕ, zero, suc, ◌+◌, ◌≤◌, ◌<◌, Bool, true, false, cond, ◌||◌, List, [], ◌∷◌, ◌++◌, length, take, drop, get_or, refl, sym, ap, subst, ◌∙◌, arith, drop-cons}
use Rattle.std.specs.List.{AllByRecursion}
use Rattle.std.proofs.Math.Seq.{take-suc}
use Rattle.std.proofs.lemmas.Bool.{both_ways, cases_Bool}
use Rattle.jffs_node.specs.declared.node.Node.{Node}
use Rattle.jffs_inodes.specs.Inodes.{Tree}
use Rattle.jffs_tree.specs.Laws.{NoneLive}
use Rattle.jffs_tree.specs.declared.wish.Limits.{Limits}
use Rattle.jffs_tree.specs.declared.wish.Wish.{Wish}
use Rattle.jffs_tree.specs.Decide.{is_copy_wish, is_unmount_wish}
use Rattle.jffs_log.specs.declared.log_index.LogIndex.{LogIndex}
use Rattle.jffs_log.specs.LogIndex.{IsLogIndex, HasSizes, IsSameLogIndex, layout_in, lives_in, oldest_in}
use Rattle.jffs_log.specs.LogState.{LogState, KeepsNumbers}
use Rattle.jffs_log.specs.Cleaning.{Layout, without_oldest, oldest_records, erase_oldest}
use Rattle.jffs_log.specs.RoomLaws.{Among}
use Rattle.jffs_node.proofs.Each.{each_append}
use Rattle.jffs_log.proofs.Histories.{dead_as}
use Rattle.jffs_tree.specs.declared.wish.Outcome.{Outcome}
use Rattle.jffs_line.specs.declared.request.Request.{Request}
use Rattle.jffs_core.specs.Answering.{KeepsAnswer, is_closed}
use Rattle.jffs_core.specs.CoreState.{CoreState, SameAnswers}
use Rattle.jffs_core.specs.Past.{IsPast, RepresentsWorking}
use Rattle.jffs_core.specs.Calls.{WorksOn}
use Rattle.jffs_core.specs.Cleaning.{ErasesOldest, IsDeadOldest, AreDead, erased_times}
use Rattle.jffs_log.specs.LogState.{one_erase_more}
use Rattle.jffs_log.specs.Wear.{sector_after, sector_after_each, erases_of}
use Rattle.jffs_flash.specs.Wear.{Wear, Wears, erases_at, no_erase, one_erase}
use Rattle.jffs_log.proofs.erase.Wear.{in_turn_none, in_turn_one, turns_go_on}
use Rattle.jffs_log.proofs.erase.WearOverSessions.{images_fix_first, erases_both}
use Rattle.jffs_core.specs.Erases.{ErasesAtMost, UsesDevice, Leaves, StaysBounded, MountsGoOn, erased_for}
use Rattle.jffs_core.proofs.room.RoomMade.{oldest_known}
use Rattle.jffs_core.proofs.answers.Refusing.{works_along}
use Rattle.jffs_core.proofs.room.Sweeping.{held_is, oldest_is}

-- No more sectors hold the log than there are.
pub held_most : (past : List Node) (image : List ℕ) (b : LogIndex) (tree : Tree) (limits : Limits) (clean : Bool) → IsLogIndex image b → IsPast past image b tree limits clean → b.held ≤ b.sectors
held_most past image b tree limits clean index h = let many = held_is image b index in let all = h.sound.counted in omega arith

-- The device was asked for no erase.
pub uses_none : (old new : CoreState) → new.index.sectors ≡ old.index.sectors → new.index.first ≡ old.index.first → new.index.erases ≡ old.index.erases → new.failed_erases ≡ old.failed_erases → new.erase_failed ≡ old.erase_failed
    → ((k : ℕ) → erases_at new.wear k ≤ erases_at old.wear k) → UsesDevice old new
uses_none old new sectors first erases failed same worn = record {
  erases = λ w. record {
    turned = in_turn_none old.index new.index sectors first erases;
    worn = λ k. let more = worn k in omega arith;
  };
  failed_erases = omega arith;
  counted = λ before after. absurd (both_ways new.erase_failed (same ∙ before) after);
}

pub uses_nothing : (c : CoreState) → UsesDevice c c
uses_nothing c = uses_none c c refl refl refl refl refl (λ k. omega arith)

-- It was asked for an erase of the oldest sector, which it did,
pub uses_one : (old new : CoreState) → new.index.sectors ≡ old.index.sectors → new.index.first ≡ sector_after old.index.sectors old.index.first → new.index.erases ≡ one_erase_more old.index → new.failed_erases ≡ old.failed_erases → new.erase_failed ≡ old.erase_failed
    → ((k : ℕ) → erases_at new.wear k ≤ erases_at old.wear k + one_erase old.index.first k) → UsesDevice old new
unfolding in_turn_one
uses_one old new sectors first erases failed same worn = record {
  erases = λ w. record {
    turned = in_turn_one old.index new.index sectors first erases;
    worn = λ k.
        let one : erases_of old.index.sectors old.index.first (in_turn_one old.index new.index sectors first erases).many k ≡ one_erase old.index.first k + 0 = refl in
        let more = worn k in
        omega arith;
  };
  failed_erases = omega arith;
  counted = λ before after. absurd (both_ways new.erase_failed (same ∙ before) after);
}

-- or which failed.
pub uses_failed : (old new : CoreState) → new.failed ≡ true → new.failed_erases ≡ old.failed_erases + 1 → UsesDevice old new
uses_failed old new fails more = record {
  erases = λ w. absurd (both_ways new.failed w fails);
  failed_erases = omega arith;
  counted = λ before after. omega arith;
}

-- One call after another.
pub uses_along : (old middle new : CoreState) → (new.failed ≡ false → middle.failed ≡ false) → UsesDevice old middle → UsesDevice middle new → UsesDevice old new
unfolding turns_go_on
uses_along old middle new worked a b = record {
  erases = λ w.
      let one = a.erases (worked w) in
      let two = b.erases w in
      record {
        turned = turns_go_on old.index middle.index new.index one.turned two.turned;
        worn = λ k.
            let first = one.worn k in
            let later = two.worn k in
            let all : erases_of old.index.sectors old.index.first (turns_go_on old.index middle.index new.index one.turned two.turned).many k ≡ erases_of old.index.sectors old.index.first (one.turned.many + two.turned.many) k = refl in
            let both = erases_both old.index.sectors old.index.first two.turned.many one.turned.many k in
            let same : erases_of middle.index.sectors middle.index.first two.turned.many k ≡ erases_of old.index.sectors (sector_after_each old.index.sectors old.index.first one.turned.many) two.turned.many k =
            ap (λ (c : ℕ). erases_of c middle.index.first two.turned.many k) one.turned.sectors ∙ ap (λ (f : ℕ). erases_of old.index.sectors f two.turned.many k) one.turned.first in
            omega arith;
      };
  failed_erases = let one = a.failed_erases in let two = b.failed_erases in omega arith;
  counted = λ before after.
      let one = a.failed_erases in
      let two = b.failed_erases in
      elim (cases_Bool middle.erase_failed) [
        | inl was ↦ let more = a.counted before was in omega arith
        | inr not ↦ let more = b.counted not after in omega arith
      ];
}

-- An answer was kept.
pub uses_kept : (writer seq : ℕ) (o : Outcome) (old new : CoreState) → KeepsAnswer writer seq o old new → UsesDevice old new
uses_kept writer seq o old new kept = subst (UsesDevice old) (sym kept) (uses_none old (record old {
  answers = old.answers ++ record { writer = writer; seq = seq; outcome = o } ∷ [];
  closed = old.closed || is_closed o;
}) refl refl refl refl refl (λ k. omega arith))

-- A call that leaves the index as it was.
pub erased_same : (more : ℕ) (old new : CoreState) → new.index ≡ old.index → UsesDevice old new → ErasesAtMost more old new
erased_same more old new same device =
    let erases = ap (λ (b : LogIndex). b.erases) same in
    let held = ap (λ (b : LogIndex). b.held) same in
    record { erases = omega arith; held = λ w. omega arith; device = device }

-- Nothing was erased.
pub erased_none : (c : CoreState) → ErasesAtMost 0 c c
erased_none c = erased_same 0 c c refl (uses_nothing c)

-- One sector was erased.
pub erased_one : (old new : CoreState) → new.index.erases ≤ old.index.erases + 1 → new.index.held + 1 ≡ old.index.held → UsesDevice old new → ErasesAtMost 0 old new
erased_one old new erases held device = record { erases = omega arith; held = λ w. omega arith; device = device }

-- An erase failed.
pub erase_failed : (old new : CoreState) → new.failed ≡ true → new.index.erases ≤ old.index.erases + 1 → 2 ≤ old.index.held → UsesDevice old new → ErasesAtMost 0 old new
erase_failed old new fails erases several device = record { erases = omega arith; held = λ w. absurd (both_ways new.failed w fails); device = device }

-- Several were, and what came then.
pub erased_along : (old middle new : CoreState) → middle.index.erases + middle.index.held ≤ old.index.erases + old.index.held → UsesDevice old middle → middle.failed ≡ false → ErasesAtMost 0 middle new → ErasesAtMost 0 old new
erased_along old middle new so_far device works h = record {
  erases = let e = h.erases in omega arith;
  held = λ w. let e = h.held w in omega arith;
  device = uses_along old middle new (λ w. works) device h.device;
}

-- Nothing was changed.
pub leaves_all : (most : ℕ) (c : CoreState) → Leaves most c c
leaves_all most c = record {
  same = record { answers = refl; capacity = refl; closed = refl };
  sizes = (refl, refl);
  erases = omega arith;
  device = uses_nothing c;
  unread = refl;
}

pub leaves_more : (few most : ℕ) (old new : CoreState) → few ≤ most → Leaves few old new → Leaves most old new
leaves_more few most old new more h = record { same = h.same; sizes = h.sizes; erases = let e = h.erases in omega arith; device = h.device; unread = h.unread }

-- Two calls, of which the first didn't fail.
pub leaves_within : (first second most : ℕ) (old middle new : CoreState) → new.index.erases ≤ old.index.erases + most → middle.failed ≡ false → Leaves first old middle → Leaves second middle new → Leaves most old new
leaves_within first second most old middle new few works a b = record {
  same = record { answers = b.same.answers ∙ a.same.answers; capacity = b.same.capacity ∙ a.same.capacity; closed = b.same.closed ∙ a.same.closed };
  sizes = (a.sizes.0 ∙ b.sizes.0, a.sizes.1 ∙ b.sizes.1);
  erases = few;
  device = uses_along old middle new (λ w. works) a.device b.device;
  unread = b.unread ∙ a.unread;
}

pub leaves_along : (first second most : ℕ) (old middle new : CoreState) → first + second ≤ most → middle.failed ≡ false → Leaves first old middle → Leaves second middle new → Leaves most old new
leaves_along first second most old middle new more works a b =
    let x = a.erases in let y = b.erases in leaves_within first second most old middle new (omega arith) works a b

-- The oldest sector was to be erased.
pub leaves_one : (old seen new : CoreState) → old ≡ seen → SameAnswers old new → HasSizes old.index.sectors old.index.sector_size new.index → new.index.erases ≤ old.index.erases + 1 → UsesDevice old new → new.reads_left ≡ old.reads_left → Leaves 1 seen new
leaves_one old seen new is same sizes erases device unread = subst (λ (c : CoreState). Leaves 1 c new) is (record { same = same; sizes = sizes; erases = erases; device = device; unread = unread })

-- Memory was reserved for the log of a core, and perhaps a record was appended.
pub leaves_kept :
    (old seen new : CoreState) (middle : LogState) (bytes : ℕ) → old ≡ seen → SameAnswers old new
    → IsSameLogIndex old.index middle.index → middle.device.failed_erases ≡ old.failed_erases → middle.erase_failed ≡ old.erase_failed → middle.wear ≡ old.wear
    → KeepsNumbers middle.index new.index → new.failed_erases ≡ middle.device.failed_erases → new.erase_failed ≡ middle.erase_failed → Wears no_erase bytes middle.wear new.wear → new.reads_left ≡ old.reads_left → Leaves 0 seen new
leaves_kept old seen new middle bytes is same s failed flag wear k more_failed more_flag worn unread = subst (λ (c : CoreState). Leaves 0 c new) is (record {
  same = same;
  sizes = (sym s.sectors ∙ k.sizes.0, sym s.sector_size ∙ k.sizes.1);
  erases = let e = s.erases in let f = k.erases in omega arith;
  device = uses_none old new (sym k.sizes.0 ∙ s.sectors) (k.first ∙ s.first) (k.erases ∙ s.erases) (more_failed ∙ failed) (more_flag ∙ flag)
      (λ k. let none : no_erase k ≡ 0 = refl in let more = worn.erased k in let before = ap (λ (w : Wear). erases_at w k) wear in omega arith);
  unread = unread;
})

pub leaves_reserved : (old seen new : CoreState) → old ≡ seen → SameAnswers old new → IsSameLogIndex old.index new.index → new.failed_erases ≡ old.failed_erases → new.erase_failed ≡ old.erase_failed → new.wear ≡ old.wear → new.reads_left ≡ old.reads_left → Leaves 0 seen new
leaves_reserved old seen new is same s failed flag wear unread = subst (λ (c : CoreState). Leaves 0 c new) is (record {
  same = same;
  sizes = (sym s.sectors, sym s.sector_size);
  erases = let e = s.erases in omega arith;
  device = uses_none old new s.sectors s.first s.erases failed flag (λ k. let e = ap (λ (w : Wear). erases_at w k) wear in omega arith);
  unread = unread;
})

-- No more sectors are erased than hold the log.
pub erased_within : (wish : Wish) (held : ℕ) → erased_for wish held ≤ held
erased_within wish held = elim (is_copy_wish wish || is_unmount_wish wish) as (λ t. cond t 0 held ≤ held) [ true ↦ omega arith | false ↦ omega arith ]

-- A request was carried out, and its answer kept.
pub answer_bounded :
    (old middle new : CoreState) (q : Request) (o : Outcome) → old.index.held ≤ old.index.sectors → Leaves (erased_for q.wish old.index.held) old middle
    → KeepsAnswer q.writer q.seq o middle new → (new.failed ≡ false → new.index.held ≤ new.index.sectors) → StaysBounded q.wish old new
answer_bounded old middle new q o few h kept most =
    let within = erased_within q.wish old.index.held in
    let erases = ap (λ (c : CoreState). c.index.erases) kept in
    let sectors = ap (λ (c : CoreState). c.index.sectors) kept in
    let bound = h.erases in
    let same = h.sizes.0 in
    record {
      sizes = (same ∙ sym sectors, h.sizes.1 ∙ sym (ap (λ (c : CoreState). c.index.sector_size) kept));
      erases = record {
        erases = omega arith;
        held = λ works. let held = most works in omega arith;
        device = uses_along old middle new (λ works. sym (ap (λ (c : CoreState). c.failed) kept) ∙ works) h.device (uses_kept q.writer q.seq o middle new kept);
      };
      for_wish = omega arith;
      few = omega arith;
      unread = ap (λ (c : CoreState). c.reads_left) kept ∙ h.unread;
    }

-- Dead sectors are erased one after another.
pub record IsErasing (count : ℕ) (old now : CoreState) : Type 0 where
  pub works : now.failed ≡ false
  pub leaves : Leaves old.index.held old now
  pub log : layout_in now.image now.index ≡ erased_times count (layout_in old.image old.index)
  pub left : count + length (layout_in now.image now.index).sectors ≡ length (layout_in old.image old.index).sectors
  pub erases : now.index.erases + now.index.held ≤ old.index.erases + old.index.held
  pub done : (past : List Node) → RepresentsWorking past old → WorksOn past past old now
  pub dead : (past : List Node) → RepresentsWorking past old → AreDead past (take count (layout_in old.image old.index).sectors)

pub one_fewer : (sectors : List (List Node)) → 2 ≤ length sectors → length (without_oldest sectors) + 1 ≡ length sectors
one_fewer [] h = absurd (omega arith)
one_fewer (s ∷ sectors) h = omega arith

newer_left : (k : ℕ) (sectors : List (List Node)) → without_oldest (drop k sectors) ≡ drop (suc k) sectors
newer_left zero [] = refl
newer_left zero (s ∷ sectors) = refl
newer_left (suc k) [] = refl
newer_left (suc k) (s ∷ sectors) = newer_left k sectors

left_after : (k : ℕ) (log : Layout) → (erased_times k log).sectors ≡ drop k log.sectors
left_after zero log = refl
left_after (suc k) log = ap without_oldest (left_after k log) ∙ newer_left k log.sectors

-- the records of the oldest sector, of which none is live in the tree
oldest_dead : (past : List Node) (c : CoreState) → RepresentsWorking past c → AllByRecursion (λ p. lives_in c.tree p ≡ false) (oldest_in c.image c.index) → NoneLive past (oldest_records (layout_in c.image c.index).sectors)
oldest_dead past c known dead =
    let ps = oldest_in c.image c.index in
    let is = oldest_is c.image c.index in
    let among = subst (AllByRecursion (λ n. Among n past)) (sym is) (oldest_known past (layout_in c.image c.index).sectors known.sound.known) in
    subst (NoneLive past) is ((dead_as past ps known.history.rules.falls among).0 (subst (λ t. AllByRecursion (λ p. lives_in t p ≡ false) ps) known.tree_is dead))

-- None of the sectors so far was live, and the oldest that is left isn't.
dead_so_far : (past : List Node) (k : ℕ) (log : Layout) → k < length log.sectors → AreDead past (take k log.sectors) → NoneLive past (oldest_records (erased_times k log).sectors) → AreDead past (take (suc k) log.sectors)
dead_so_far past k log below so_far dead =
    let oldest : oldest_records (erased_times k log).sectors ≡ get_or log.sectors k [] = ap oldest_records (left_after k log ∙ drop-cons log.sectors k [] below) in
    subst (AreDead past) (sym (take-suc log.sectors k [] below)) (each_append (NoneLive past) (take k log.sectors) (get_or log.sectors k [] ∷ []) so_far (subst (NoneLive past) oldest dead, tt))

pub erasing_goes_on : (count : ℕ) (old middle new : CoreState) → IsErasing count old middle → IsDeadOldest middle → ErasesOldest middle new → Leaves 1 middle new → ErasesAtMost 0 middle new → IsErasing (count + 1) old new
erasing_goes_on count old middle new h oldest erased leaves one =
    let more : suc count ≡ count + 1 = omega arith in
    record {
      works = erased.works;
      leaves = let before = h.erases in let more = one.held erased.works in leaves_within _ 1 _ old middle new (omega arith) h.works h.leaves leaves;
      log = erased.log ∙ ap erase_oldest h.log ∙ ap (λ k. erased_times k (layout_in old.image old.index)) more;
      left =
          let e = ap (λ (l : Layout). length l.sectors) erased.log in
          let f = one_fewer (layout_in middle.image middle.index).sectors oldest.several in
          let k = h.left in
          omega arith;
      erases = let before = h.erases in let more = one.held erased.works in omega arith;
      done = λ past known.
          let d = h.done past known in
          let e = erased.history past d.represents in
          works_along past past past old middle new d e.stands;
      dead = λ past known.
          let log = layout_in old.image old.index in
          let left = h.left in
          let several = oldest.several in
          let now = oldest_dead past middle (h.done past known).represents oldest.dead in
          subst (λ k. AreDead past (take k log.sectors)) more
          (dead_so_far past count log (omega arith) (h.dead past known) (subst (λ (l : Layout). NoneLive past (oldest_records l.sectors)) h.log now));
    }

pub mounts_go_on : MountsGoOn
mounts_go_on mounted past left next given stands works some fresh same sizes =
    let known = stands.stands.working works in
    let found = fresh.stands in
    let again = found.stands.working fresh.works in
    let device = fresh.device_is in
    let index = subst (λ (image : List ℕ). IsLogIndex image next.index) (sym device.image_is ∙ same) again.index in
    images_fix_first left.image left.index next.index known.index index (sym sizes.0 ∙ device.sizes.0, sym sizes.1 ∙ device.sizes.1) some
