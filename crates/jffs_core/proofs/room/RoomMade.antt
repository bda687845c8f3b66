-- Cleaning adds true copies alone, and NoSpace after a turn of it is a lawful answer.
use Rattle.std.proofs.Common.{◌≡◌, ℕ, zero, suc, ◌+◌, ◌^◌, ◌≤◌, true, false, ◌&&◌, ◌||◌, cond, List, [], ◌∷◌, ◌++◌, length, inr, ⊎_elim, Some, None, refl, sym, ap, subst, ◌∙◌, arith}
use Rattle.std.specs.List.{AllByRecursion}
use Rattle.std.proofs.lemmas.Bool.{lt-ltb, cases_Bool, both_ways, and_parts, or_left, false_from_ne_true}
use Rattle.jffs_node.specs.declared.node.Node.{Node}
use Rattle.jffs_node.specs.Record.{record_len}
use Rattle.jffs_node.specs.declared.layout.TheConstants.{HEADER_LEN}
use Rattle.jffs_flash.specs.declared.sizes.TheConstants.{MIN_SECTORS}
use Rattle.jffs_tree.specs.Origin.{is_live}
use Rattle.jffs_tree.proofs.decisions.Copies.{cleaning_copies_are_true}
use Rattle.jffs_log.specs.Room.{next_version, weight}
use Rattle.jffs_log.specs.Cleaning.{GcState, version_after, copied, with_copy, handled, handled_each, cleaned, oldest_records, copies_have_room, fresh_has_room, room_made, is_history, used}
use Rattle.jffs_log.specs.Work.{live_and_free}
use Rattle.jffs_log.specs.RoomLaws.{Among}
use Rattle.jffs_log.proofs.append.Puts.{map_all}
use Rattle.jffs_log.proofs.rooms.Copied.{copies_take_over, unmounts_are_dead, live_present}
use Rattle.jffs_log.proofs.rooms.Cleanings.{IsTurn, turn_cleaned}
use Rattle.jffs_log.proofs.rooms.Bound.{start, no_room, one_kept, full_logs_are_heavy}
use Rattle.jffs_node.proofs.Each.{each_front}
use Rattle.jffs_log.proofs.Parts.{versions_follow, logs_weigh_less}
use Rattle.jffs_core.specs.History.{AreOwnCopies}
use Rattle.jffs_core.specs.Run.{OnlyCopies}
use Rattle.jffs_core.specs.RoomSteps.{CleaningOnlyCopies, StoppedOnlyCopies, MakingRoomOnlyCopies, NoSpaceIsAStep}
use Rattle.jffs_core.specs.Step.{session_of, HadNoRoom, gets_room, room_can_be_made}
use Rattle.jffs_tree.specs.Decide.{with}
use Rattle.jffs_tree.specs.declared.wish.Cause.TheVariants as causes
use Rattle.jffs_tree.specs.declared.wish.Outcome.{Outcome}
use Rattle.jffs_tree.specs.declared.wish.Outcome.TheVariants.{Refused}
use Rattle.jffs_core.proofs.answers.Lawful.{copies_along, none_made}
use Rattle.jffs_core.proofs.answers.Working.{turn_is_little}

grown : (past copies : List Node) → AreOwnCopies past copies → version_after past ≤ version_after (copies ++ past)
grown past [] h = omega arith
grown past (c ∷ copies) h =
    let e = versions_follow (copies ++ past) c.version h.1.2 in
    let later = grown past copies h.0 in
    omega arith

only_grown : (past after : List Node) → OnlyCopies past after → version_after past ≤ version_after after
only_grown past after h =
    let g = grown past h.copies h.true_copies in
    let e : version_after after ≡ version_after (h.copies ++ past) = ap version_after h.joined in
    omega arith

has_next : (past : List Node) → version_after past + 1 ≤ 2 ^ 32 → next_version past ≡ Some (version_after past)
has_next [] h = refl
has_next (n ∷ past) h = ap (λ t. cond t (Some (n.version + 1)) None) (lt-ltb (n.version + 1) (2 ^ 32) (omega arith))

one_only : (z : ℕ) (n : Node) (s : GcState) → is_history s.past ≡ true → Among n s.past → version_after (handled z n s).past ≤ 2 ^ 32 → OnlyCopies s.past (handled z n s).past
one_only z n s h a few = ⊎_elim
    (λ live.
    let there = live_present s.past n h a live in
    let is : copied s.past n ∷ s.past ≡ (handled z n s).past = ap (λ t. (cond t (with_copy z n s) s).past) (sym live) in
    let e : version_after (handled z n s).past ≡ version_after s.past + 1 = ap version_after (sym is) in
    let next = has_next s.past (omega arith) in
    record {
      copies = copied s.past n ∷ [];
      true_copies = (tt, (refl, refl, next, (there.0, cleaning_copies_are_true s.past n there.0 (version_after s.past) there.1)));
      joined = sym is;
    })
    (λ off.
    let is : s.past ≡ (handled z n s).past = ap (λ t. (cond t (with_copy z n s) s).past) (sym off) in
    record { copies = []; true_copies = tt; joined = sym is })
    (cases_Bool (is_live s.past n.version))

each_only : (z : ℕ) (nodes : List Node) (s : GcState) → is_history s.past ≡ true → AllByRecursion (λ n. Among n s.past) nodes → version_after (handled_each z nodes s).past ≤ 2 ^ 32
    → OnlyCopies s.past (handled_each z nodes s).past
each_only z [] s h known few = none_made s.past
each_only z (n ∷ nodes) s h known few =
    let one = one_kept copies_take_over z n s h known.0 in
    let later = each_only z nodes (handled z n s) one.history (map_all (λ k. Among k s.past) (λ k. Among k (handled z n s).past) (λ k b. one.known k b) nodes known.1) few in
    let g = only_grown (handled z n s).past (handled_each z nodes (handled z n s)).past later in
    copies_along s.past (handled z n s).past (handled_each z nodes (handled z n s)).past (one_only z n s h known.0 (omega arith)) later

pub oldest_known : (past : List Node) (sectors : List (List Node)) → AllByRecursion (λ nodes. AllByRecursion (λ n. Among n past) nodes) sectors → AllByRecursion (λ n. Among n past) (oldest_records sectors)
oldest_known past [] h = tt
oldest_known past (s ∷ sectors) h = h.0

pub cleaning_only_copies : CleaningOnlyCopies
cleaning_only_copies total z s sound few = each_only z (oldest_records s.log.sectors) s sound.history (oldest_known s.past s.log.sectors sound.known) few

pub stopped_only_copies : StoppedOnlyCopies
stopped_only_copies total z s done rest sound is few =
    let known = subst (AllByRecursion (λ n. Among n s.past)) is (oldest_known s.past s.log.sectors sound.known) in
    each_only z done s sound.history (each_front (λ n. Among n s.past) done rest known).0 few

module _ (total z weight len : ℕ) (low : HEADER_LEN ≤ z) (enough : MIN_SECTORS ≤ total) where
  made_only : (left : ℕ) (s : GcState) → IsTurn total z weight left s → version_after (room_made z len left s).past ≤ 2 ^ 32 → OnlyCopies s.past (room_made z len left s).past
  made_only zero s w few = none_made s.past
  made_only (suc left) s w few = ⊎_elim
      (λ has. subst (λ t. OnlyCopies s.past (cond t s (room_made z len left (cleaned z s))).past) (sym has) (none_made s.past))
      (λ none.
      let m = (no_room copies_take_over unmounts_are_dead total z weight len low enough s none).1 in
      let counted = w.sound.counted in
      let c = turn_cleaned copies_take_over unmounts_are_dead total z weight low left s w (omega arith) in
      let at : (room_made z len (suc left) s).past ≡ (room_made z len left (cleaned z s)).past = ap (λ t. (cond t s (room_made z len left (cleaned z s))).past) none in
      let versions : version_after (room_made z len (suc left) s).past ≡ version_after (room_made z len left (cleaned z s)).past = ap version_after at in
      let later = made_only left (cleaned z s) c.1 (omega arith) in
      let g = only_grown (cleaned z s).past (room_made z len left (cleaned z s)).past later in
      subst (λ t. OnlyCopies s.past (cond t s (room_made z len left (cleaned z s))).past) (sym none)
      (copies_along s.past (cleaned z s).past (room_made z len left (cleaned z s)).past (cleaning_only_copies total z s w.sound (omega arith)) later))
      (cases_Bool (fresh_has_room len s))

pub making_room_only_copies : MakingRoomOnlyCopies
making_room_only_copies total z len s low enough sound two few = made_only total z _ len low enough (length s.log.sectors) s (start total z s sound two) few

-- A record that has room needs none made.
pub room_at_once : (z len k : ℕ) (s : GcState) → fresh_has_room len s ≡ true → (room_can_be_made z len k s ≡ true) × (room_made z len k s ≡ s)
room_at_once z len zero s has = (has, refl)
room_at_once z len (suc k) s has = (or_left (fresh_has_room len s) _ has, ap (λ t. cond t s (room_made z len k (cleaned z s))) has)

-- Where room can be made it is there once it was.
made_has_room : (z len k : ℕ) (s : GcState) → room_can_be_made z len k s ≡ true → fresh_has_room len (room_made z len k s) ≡ true
made_has_room z len zero s can = can
made_has_room z len (suc k) s can = ⊎_elim
    (λ has. ap (fresh_has_room len) (room_at_once z len (suc k) s has).1 ∙ has)
    (λ none.
    let fits = copies_have_room z (oldest_records s.log.sectors) s in
    let later = room_can_be_made z len k (cleaned z s) in
    let both = and_parts fits later (ap (λ t. t || (fits && later)) (sym none) ∙ can) in
    ap (λ t. fresh_has_room len (cond t s (room_made z len k (cleaned z s)))) none ∙ made_has_room z len k (cleaned z s) both.1)
    (cases_Bool (fresh_has_room len s))

pub no_space_is_a_step : NoSpaceIsAStep
no_space_is_a_step t q n s gone taken held low enough two takes decided fresh short had none few =
    let z = t.volume.sector_size in
    let total = t.volume.sectors in
    let len = record_len (with n 0 0 0) in
    let same : t.erased ≡ s.log.erased = ap (λ (x : GcState). x.log.erased) taken.session in
    let heavy_log = full_logs_are_heavy copies_take_over unmounts_are_dead total z len s low enough short taken.sound (omega arith) none in
    let part = logs_weigh_less s gone held in
    let same_past : t.past ≡ s.past = ap (λ (x : GcState). x.past) taken.session in
    let whole : weight t.past ≡ weight s.past = ap weight same_past in
    let made = subst (λ past. OnlyCopies past (room_made z len (length s.log.sectors) s).past) (sym same_past) (making_room_only_copies total z len s low enough taken.sound (omega arith) few) in
    let little : used made.copies ≤ live_and_free (session_of t) =
    subst (λ (x : GcState). used made.copies ≤ live_and_free x) (sym taken.session) (turn_is_little total z len s made.copies taken.sound (made.joined ∙ ap (λ (past : List Node). made.copies ++ past) same_past)) in
    let no : HadNoRoom t q n = record { decided = decided; none = had } in
    let full : gets_room t n ≡ false =
    ap (λ (x : GcState). room_can_be_made z len (length x.log.sectors) x) taken.session
    ∙ false_from_ne_true (room_can_be_made z len (length s.log.sectors) s) (λ can. both_ways _ none (made_has_room z len (length s.log.sectors) s can)) in
    record {
      copies = made.copies;
      own = [];
      joined = made.joined;
      copies_are_true = made.true_copies;
      copies_make_room = inr (n, no, fresh);
      copies_are_little = little;
      clean_is_so = taken.clean;
      failed_says_so = ((λ f. absurd (both_ways t.failed taken.standing f)), (λ f. absurd (not_failed f)));
      outcome = ((takes, (n, no, (λ f two. omega arith), (λ f. full))), refl);
    }
  where
    not_failed : ◌≡◌ {A = Outcome} (Refused causes.NoSpace) (Refused causes.Failed) → ⊥
    not_failed f = cc
