-- Each answer is a lawful step.
use Rattle.std.proofs.Common.{◌≡◌, ◌⊎◌, inl, inr, ℕ, ◌≤◌, Bool, true, false, ◌&&◌, List, [], ◌∷◌, ◌++◌, length, leb, ltb, Option, Some, None, Result, Ok, Err, IsOk, refl, sym, ap, subst, ◌∙◌}
use Rattle.std.proofs.lemmas.Bool.{lt-ltb, le-leb, or_right, both_ways}
use Rattle.std.proofs.lemmas.Option.{none-some}
use Rattle.jffs_node.specs.declared.node.Node.{Node}
use Rattle.jffs_node.specs.Record.{record_len, is_fresh}
use Rattle.jffs_tree.specs.declared.wish.Cause.{Cause}
use Rattle.jffs_tree.specs.declared.wish.Cause.TheVariants as causes
use Rattle.jffs_tree.specs.declared.wish.Outcome.{Outcome}
use Rattle.jffs_tree.specs.declared.wish.Outcome.TheVariants.{Appended, Copied, Closed, Refused}
use Rattle.jffs_tree.specs.declared.wish.Limits.{Limits}
use Rattle.jffs_tree.specs.declared.wish.NewNode.{NewNode}
use Rattle.jffs_tree.specs.Decide.{decide_on, with, unmount_node, is_unmount_wish, is_copy_wish}
use Rattle.jffs_line.specs.declared.request.Request.{Request}
use Rattle.jffs_log.specs.declared.room.Room.{Room}
use Rattle.jffs_log.specs.declared.room.Room.TheVariants as rooms
use Rattle.jffs_log.specs.Room.{next_version, heavy, weight}
use Rattle.jffs_log.specs.LogIndex.{layout_in}
use Rattle.jffs_core.specs.CoreState.{CoreState}
use Rattle.jffs_core.specs.History.{AreOwnCopies, MayFollow, Grows}
use Rattle.jffs_core.specs.Run.{OnlyCopies, is_failure}
use Rattle.jffs_core.specs.Step.{Turn, IsStep, IsInHand, OutcomeIs, newest_is_unmount, RefusedBy, HadNoRoom, MakesRoom, decision, takes_no_node, had_room, gets_room, past_with_room, room_of}
use Rattle.jffs_core.specs.Nodes.{listed}
use Rattle.jffs_core.specs.RoomSteps.{UnmountsHaveRoom}
use Rattle.jffs_core.specs.Past.{RepresentsWorking, RepresentsPast, HasFailed, gc_state, has_room_for}
use Rattle.jffs_core.specs.Calls.{RefusedWith, KeepsTwo, ProgramsOnce}
use Rattle.jffs_core.specs.Appending.{MayPut, HasPut, PutRefused}
use Rattle.jffs_core.specs.Answering.{IsNodeOf, WantsFresh, HasAnswered, AnswersWith, DoesNothing, KeepsAnswer, MayStand, ProgramsFor, keeps_two, turn_of}
use Rattle.jffs_log.specs.Cleaning.{GcState, Layout, used}
use Rattle.jffs_log.specs.Work.{live_and_free}
use Rattle.jffs_log.proofs.rooms.Bound.{fresh_keeps_two}
use Rattle.jffs_core.proofs.answers.Deciding.{is_of_tree}
use Rattle.jffs_core.proofs.answers.Contents.{grows_along, step_grows, unmount_given}
use Rattle.jffs_core.proofs.scans.Mounting.{clean_ends}
use Rattle.jffs_core.proofs.answers.Refusing.{works_past, by_refusal, refused_past, fails_as, works_on_faults, same_cause, device_left, refused_keeps, put_programs, same_programs, refused_programs}
use Rattle.jffs_core.proofs.answers.Unchanged.{none_changed, kept_unchanged, layout_unchanged, does_something}
use Rattle.jffs_core.proofs.answers.Asked.{decision_is, its_version, its_room, fresh_is, its_full, its_makes_room, by_length, own_in_hand}
use Rattle.jffs_core.proofs.room.RoomMade.{room_at_once}
use Rattle.jffs_core.proofs.answers.Working.{none_is_little}

-- The causes of a decision, by the decision.
pub by_tree : (cause : Cause) (t : Turn) (q : Request) → is_of_tree cause ≡ true → takes_no_node t q ≡ false → decision t q ≡ Err cause → RefusedBy cause t q []
by_tree causes.VersionsSpent t q h takes is = (takes, inl (is, refl))
by_tree causes.Memory t q h takes is = cc
by_tree causes.NoSpace t q h takes is = cc
by_tree causes.Device t q h takes is = cc
by_tree causes.Failed t q h takes is = cc
by_tree _ t q h takes is = (takes, is, refl)

not_failed : (cause : Cause) → is_of_tree cause ≡ true → ◌≡◌ {A = Outcome} (Refused cause) (Refused causes.Failed) → ⊥
not_failed cause h e = both_ways (is_of_tree causes.Failed) refl (ap is_of_tree (sym (same_cause e)) ∙ h)

not_device : (cause : Cause) → is_of_tree cause ≡ true → ◌≡◌ {A = Outcome} (Refused cause) (Refused causes.Device) → ⊥
not_device cause h e = both_ways (is_of_tree causes.Device) refl (ap is_of_tree (sym (same_cause e)) ∙ h)

no_failure : (cause : Cause) → is_of_tree cause ≡ true → is_failure (Refused cause) ≡ false
no_failure causes.Device h = cc
no_failure causes.Failed h = cc
no_failure _ h = refl

pub not_for_room : (cause : Cause) → cause ≡ causes.NoSpace → cause ≡ causes.Device → ⊥
not_for_room cause full device = let same = sym full ∙ device in cc

-- Two sectors stay erased.
pub fresh_put_keeps : (node : Node) (old new : CoreState) → HasPut rooms.Fresh node old new → KeepsTwo old new
fresh_put_keeps node old new h two = subst (λ (l : Layout). 2 ≤ l.erased) (sym h.log) (fresh_keeps_two old.index.sector_size node (layout_in old.image old.index) h.had_room two)

pub later_put_keeps : (node : Node) (old middle new : CoreState) → KeepsTwo old middle → HasPut rooms.Fresh node middle new → KeepsTwo old new
later_put_keeps node old middle new before h two = fresh_put_keeps node middle new h (before two)

-- Memory, or the decision's cause
pub which_refusal : (cause : Cause) (r : Result NewNode Cause) → (◌≡◌ {A = Result NewNode Cause} (Err cause) (Err causes.Memory) → ⊥) ⊎ (cause ≡ causes.Memory)
which_refusal causes.Memory r = inr refl
which_refusal _ r = inl (λ e. cc)

-- the node of a decision that was taken
pub granted : (r : Result NewNode Cause) → IsOk r → (n : NewNode) × (r ≡ Ok n)
granted (Ok n) h = (n, refl)
granted (Err cause) h = cc

-- Steps of a core that works.
module _ (past : List Node) (old new : CoreState) (q : Request) (works : old.failed ≡ false) (known : RepresentsWorking past old) where
  clean_so : old.clean ≡ true → newest_is_unmount past ≡ true
  clean_so is = clean_ends past old.image old.index old.tree old.limits old.clean known is

  -- an answer that isn't Failed, after own copies and an own node, which lead to this history
  abbrev step_to : (o : Outcome) (copies own after : List Node) → after ≡ own ++ copies ++ past → (◌≡◌ {A = Outcome} o (Refused causes.Failed) → ⊥) → AreOwnCopies past copies → (copies ≡ []) ⊎ MakesRoom (turn_of past old new) q
      → used copies ≤ live_and_free (gc_state past old) → OutcomeIs o (turn_of past old new) q copies own → IsStep (turn_of past old new) q o after
  step_to o copies own after joined other true_copies room little outcome = record {
    copies = copies;
    own = own;
    joined = joined;
    copies_are_true = true_copies;
    copies_make_room = room;
    copies_are_little = little;
    clean_is_so = clean_so;
    failed_says_so = ((λ f. absurd (both_ways old.failed works f)), (λ f. absurd (other f)));
    outcome = outcome;
  }

  -- the same, to the history that they make
  abbrev step_of : (o : Outcome) (copies own : List Node) → (◌≡◌ {A = Outcome} o (Refused causes.Failed) → ⊥) → AreOwnCopies past copies → (copies ≡ []) ⊎ MakesRoom (turn_of past old new) q
      → used copies ≤ live_and_free (gc_state past old) → OutcomeIs o (turn_of past old new) q copies own → IsStep (turn_of past old new) q o (own ++ copies ++ past)
  step_of o copies own other true_copies room little outcome = step_to o copies own (own ++ copies ++ past) refl other true_copies room little outcome

  no_work : used [] ≤ live_and_free (gc_state past old)
  no_work = none_is_little (gc_state past old)

  pub already_closed : new ≡ old → is_unmount_wish q.wish ≡ true → old.clean ≡ true → HasAnswered past old new q Closed None
  already_closed same unmounts clean = record {
    after = past;
    stands = subst (RepresentsPast past) (sym same) (works_past past old works known);
    step = step_of Closed [] [] (λ e. cc) tt (inl refl) no_work (record { wish = unmounts; none = refl; node = inl (clean, refl) });
    own = refl;
    fails = ap (λ (c : CoreState). c.failed) same ∙ works;
    faults = λ w. ap (λ (c : CoreState). c.faults) same;
    in_hand = λ e. cc;
    programs = inl (same_programs past old new (ap (λ (c : CoreState). c.wear) same));
    two = λ k. absurd (both_ways (keeps_two Closed) refl k);
    same = λ none. none_changed old new same;
  }

  -- by the decision, or for want of memory
  pub decided_against : (cause : Cause) → new ≡ old → takes_no_node (turn_of past old new) q ≡ false → ((cause ≡ causes.Memory) × ((n : NewNode) × (decide_on old.tree old.limits q.wish ≡ Ok n))) ⊎ ((is_of_tree cause ≡ true) × (decide_on old.tree old.limits q.wish ≡ Err cause)) → HasAnswered past old new q (Refused cause) None
  decided_against cause same takes why =
      let step : IsStep (turn_of past old new) q (Refused cause) past = elim why [
        | inl memory ↦ subst (λ c. IsStep (turn_of past old new) q (Refused c) past) (sym memory.0) (step_of (Refused causes.Memory) [] [] (λ e. cc) tt (inl refl) no_work ((takes, (memory.1.0, decision_is past old q known ∙ memory.1.1)), refl))
        | inr tree ↦ step_of (Refused cause) [] [] (not_failed cause tree.0) tt (inl refl) no_work (by_tree cause (turn_of past old new) q tree.0 takes (decision_is past old q known ∙ tree.1), refl)
      ] in
      record {
        after = past;
        stands = subst (RepresentsPast past) (sym same) (works_past past old works known);
        step = step;
        own = step.outcome.1;
        fails = ap (λ (c : CoreState). c.failed) same ∙ works ∙ sym (elim why [ inl memory ↦ ap (λ c. is_failure (Refused c)) memory.0 | inr tree ↦ no_failure cause tree.0 ]);
        faults = λ w. ap (λ (c : CoreState). c.faults) same;
        in_hand = λ e. absurd (elim why [ inl memory ↦ memory_only (ap (λ c. Refused c) (sym memory.0) ∙ e) | inr tree ↦ not_device cause tree.0 e ]);
        programs = inl (same_programs past old new (ap (λ (c : CoreState). c.wear) same));
        two = λ k e. subst (λ (c : CoreState). 2 ≤ (layout_in c.image c.index).erased) (sym same) e;
        same = λ none. none_changed old new same;
      }
    where
      memory_only : ◌≡◌ {A = Outcome} (Refused causes.Memory) (Refused causes.Device) → ⊥
      memory_only e = cc

  -- a record was put at once
  pub put_copy : (node : Node) (of : IsNodeOf old q node) → is_copy_wish q.wish ≡ true → rooms.Fresh ≡ room_of of.new → MayPut past old.index.sector_size rooms.Fresh node → HasPut rooms.Fresh node old new → HasAnswered past old new q (Copied node.version) (Some node)
  put_copy node of copies is may h = record {
    after = node ∷ past;
    stands = works_past (node ∷ past) new h.works (h.represents past known may);
    step = step_of (Copied node.version) [] (node ∷ []) (λ e. cc) tt (inl refl) no_work
        (record {
          wish = copies;
          new = of.new;
          decided = decision_is past old q known ∙ of.decided;
          none = refl;
          next = its_version past old q node known of;
          added = ap (λ (m : Node). m ∷ []) of.is;
          room = its_room past old q node known of new rooms.Fresh true is h.had_room;
        });
    own = refl;
    fails = h.works;
    faults = λ w. h.faults;
    in_hand = λ e. cc;
    programs = inl (put_programs node past old new h.programs);
    two = λ k. fresh_put_keeps node old new h;
    same = λ none. absurd none;
  }

  pub put_unmount : (node : Node) (of : IsNodeOf old q node) → is_unmount_wish q.wish ≡ true → rooms.Unmount ≡ room_of of.new → MayPut past old.index.sector_size rooms.Unmount node → HasPut rooms.Unmount node old new → HasAnswered past old new q Closed (Some node)
  put_unmount node of unmounts is may h = record {
    after = node ∷ past;
    stands = works_past (node ∷ past) new h.works (h.represents past known may);
    step = step_of Closed [] (node ∷ []) (λ e. cc) tt (inl refl) no_work
        (record {
          wish = unmounts;
          none = refl;
          node = inr (record {
            unclean = dirty;
            new = of.new;
            version = node.version;
            decided = decision_is past old q known ∙ of.decided;
            next = its_version past old q node known of;
            added = ap (λ (m : Node). m ∷ []) of.is;
            room = its_room past old q node known of new rooms.Unmount true is h.had_room;
          });
        });
    own = refl;
    fails = h.works;
    faults = λ w. h.faults;
    in_hand = λ e. cc;
    programs = inl (put_programs node past old new h.programs);
    two = λ k. absurd (both_ways (keeps_two Closed) refl k);
    same = λ clean. absurd (both_ways old.clean dirty clean);
  }
    where
      dirty : old.clean ≡ false
      dirty = by_wish (is_unmount_wish q.wish) old.clean unmounts of.takes_node
        where
          by_wish : (u b : Bool) → u ≡ true → (u && b) ≡ false → b ≡ false
          by_wish true b h k = k
          by_wish false b h k = cc

  -- a record wasn't put, and nothing was made besides it
  pub put_stopped : (room : Room) (node : Node) (cause : Cause) (of : IsNodeOf old q node) → room ≡ room_of of.new → MayPut past old.index.sector_size room node → PutRefused room node cause old new → (cause ≡ causes.NoSpace → is_fresh (with of.new 0 0 0) ≡ true → ⊥)
      → HasAnswered past old new q (Refused cause) None
  put_stopped room node cause of is may h none =
      let stands = h.stands past known may in
      let step = by_cause cause h stands none in
      record {
        after = past;
        stands = refused_past P past past (λ m same. subst (MayFollow past) (sym same) may.follows) cause old new stands;
        step = step;
        own = step.outcome.1;
        fails = fails_as P cause past past old new stands;
        faults = works_on_faults P cause past past old new stands;
        in_hand = device_left P (IsInHand (turn_of past old new) q past) in_hand cause past past old new stands;
        programs = refused_programs P (MayStand (turn_of past old new) q (Refused cause) past) cause past past old new (λ m device same. (ap (λ c. Refused c) device, in_hand m same)) stands;
        two = λ k. refused_keeps P cause past past old new stands (λ e two. subst (λ (l : Layout). 2 ≤ l.erased) (sym (layout_unchanged old new (h.same (not_for_room cause e)))) two) k;
        same = λ none. h.same (does_something cause (turn_of past old new) q none);
      }
    where
      P : Node → Type 0
      P m = m ≡ node

      has_next : next_version past ≡ Some node.version
      has_next = ap (λ (l : Limits). l.next_version) (sym known.limits_are) ∙ of.next

      in_hand : (m : Node) → P m → IsInHand (turn_of past old new) q past m
      in_hand m same = subst (IsInHand (turn_of past old new) q past) (sym same) (own_in_hand past old q known node node of past new of.is has_next)

      no_next : next_version past ≡ None → ⊥
      no_next e = none-some node.version (sym e ∙ has_next)

      by_cause : (c : Cause) → PutRefused room node c old new → RefusedWith P c past past old new → (c ≡ causes.NoSpace → is_fresh (with of.new 0 0 0) ≡ true → ⊥) → IsStep (turn_of past old new) q (Refused c) past
      by_cause c h r none =
          by_refusal P past past old new (λ c. PutRefused room node c old new → (c ≡ causes.NoSpace → is_fresh (with of.new 0 0 0) ≡ true → ⊥) → IsStep (turn_of past old new) q (Refused c) past)
          (λ w spent h none. absurd (no_next spent))
          (λ w h none. step_of (Refused causes.Memory) [] [] (λ e. cc) tt (inl refl) no_work ((of.takes_node, (of.new, decision_is past old q known ∙ of.decided)), refl))
          (λ w h none. step_of (Refused causes.NoSpace) [] [] (λ e. cc) tt (inl refl) no_work
          ((of.takes_node, (of.new, record { decided = decision_is past old q known ∙ of.decided; none = its_room past old q node known of new room false is (h.no_room refl) }, (λ f two. absurd (none refl f)), (λ f. absurd (none refl f)))), refl))
          (λ d h none. step_of (Refused causes.Device) [] [] (λ e. cc) tt (inl refl) no_work (lt-ltb old.faults new.faults d.faults, refl))
          c r h none

  -- a fresh record was put at once
  pub put_now : (node : Node) (of : IsNodeOf old q node) → WantsFresh q.wish → has_room_for old rooms.Fresh (record_len node) ≡ true → new.failed ≡ false → new.faults ≡ old.faults → KeepsTwo old new → ProgramsOnce past (node ∷ past) old new → RepresentsPast (node ∷ past) new → HasAnswered past old new q (Appended node.inode node.version) (Some node)
  put_now node of wants had now_works no_fault two programs stands =
      let z = old.index.sector_size in
      let log = layout_in old.image old.index in
      let room = room_at_once z (record_len (with of.new 0 0 0)) (length log.sectors) (gc_state past old) (by_length past old q node known of (λ k. has_room_for old rooms.Fresh k ≡ true) had) in
      record {
        after = node ∷ past;
        stands = stands;
        step = step_of (Appended node.inode node.version) [] (node ∷ []) (λ e. cc) tt (inl refl) no_work
            (record {
              new = of.new;
              decided = decision_is past old q known ∙ of.decided;
              fresh = fresh_is past old q node known of wants;
              inode_is = ap (λ (m : Node). m.inode) (sym of.is);
              next = its_version past old q node known of;
              added = ap (λ (m : Node). m ∷ []) of.is;
              room = room.0;
              made = sym (ap (λ (s : GcState). s.past) room.1);
            });
        own = refl;
        fails = now_works;
        faults = λ w. no_fault;
        in_hand = λ e. cc;
        programs = inl programs;
        two = λ k. two;
        same = λ none. absurd none;
      }

  -- a fresh record was put, after own copies
  pub put_fresh : (node next : Node) (after : List Node) (of : IsNodeOf old q node) → WantsFresh q.wish → has_room_for old rooms.Fresh (record_len node) ≡ false → (copies : OnlyCopies past after)
      → used copies.copies ≤ live_and_free (gc_state past old) → (gets_room (turn_of past old new) of.new ≡ true) × (after ≡ past_with_room (turn_of past old new) of.new) → next ≡ with of.new next.version q.writer q.seq → next_version after ≡ Some next.version → new.failed ≡ false → new.faults ≡ old.faults → KeepsTwo old new → ProgramsOnce past (next ∷ after) old new → RepresentsPast (next ∷ after) new → HasAnswered past old new q (Appended next.inode next.version) (Some next)
  put_fresh node next after of wants no_room copies little gets is version now_works no_fault two programs stands = record {
    after = next ∷ after;
    stands = stands;
    step = step_to (Appended next.inode next.version) copies.copies (next ∷ []) (next ∷ after) (ap (λ (nodes : List Node). next ∷ nodes) copies.joined) (λ e. cc) copies.true_copies (inr (its_makes_room past old q node known of new wants no_room)) little
        (record {
          new = of.new;
          decided = decision_is past old q known ∙ of.decided;
          fresh = fresh_is past old q node known of wants;
          inode_is = ap (λ (m : Node). m.inode) (sym is);
          next = ap next_version (sym copies.joined) ∙ version;
          added = ap (λ (m : Node). m ∷ []) is;
          room = gets.0;
          made = sym copies.joined ∙ gets.1;
        });
    own = refl;
    fails = now_works;
    faults = λ w. no_fault;
    in_hand = λ e. cc;
    programs = inl programs;
    two = λ k. two;
    same = λ none. absurd none;
  }

  -- No room can be made for the node, which is so only in a volume with much that is live, and two
  -- erased sectors stay erased.
  abbrev pub IsFull : NewNode → Type 0
  IsFull n = (2 ≤ (layout_in old.image old.index).erased → heavy old.index.sectors old.index.sector_size ≤ weight past) × (gets_room (turn_of past old new) n ≡ false) × KeepsTwo old new

  -- room couldn't be made
  pub make_stopped : (P : Node → Type 0) (node : Node) (cause : Cause) (after : List Node) (of : IsNodeOf old q node) → ((m : Node) → P m → IsInHand (turn_of past old new) q after m × MayFollow after m)
      → WantsFresh q.wish → has_room_for old rooms.Fresh (record_len node) ≡ false → (copies : OnlyCopies past after) → used copies.copies ≤ live_and_free (gc_state past old) → RefusedWith P cause past after old new
      → (cause ≡ causes.NoSpace → IsFull of.new) → HasAnswered past old new q (Refused cause) None
  make_stopped P node cause after of in_hand wants no_room copies little r full =
      let step : IsStep (turn_of past old new) q (Refused cause) after = subst (IsStep (turn_of past old new) q (Refused cause)) (sym copies.joined) (by_cause cause r full) in
      record {
        after = after;
        stands = refused_past P past after (λ m h. (in_hand m h).1) cause old new r;
        step = step;
        own = step.outcome.1;
        fails = fails_as P cause past after old new r;
        faults = works_on_faults P cause past after old new r;
        in_hand = device_left P (IsInHand (turn_of past old new) q after) (λ m h. (in_hand m h).0) cause past after old new r;
        programs = refused_programs P (MayStand (turn_of past old new) q (Refused cause) after) cause past after old new (λ m device h. (ap (λ c. Refused c) device, (in_hand m h).0)) r;
        two = λ k. refused_keeps P cause past after old new r (λ e. (full e).2) k;
        same = λ none. absurd (room_was_made cause r none);
      }
    where
      had_none : HadNoRoom (turn_of past old new) q of.new
      had_none = its_full past old q node known of new wants no_room

      made : MakesRoom (turn_of past old new) q
      made = its_makes_room past old q node known of new wants no_room

      room_was_made : (c : Cause) → RefusedWith P c past after old new → DoesNothing (Refused c) (turn_of past old new) q → ⊥
      room_was_made c r =
          by_refusal P past after old new (λ c. DoesNothing (Refused c) (turn_of past old new) q → ⊥)
          (λ w spent none. none made) (λ w none. none made) (λ w none. none made) (λ d none. none) c r

      by_cause : (c : Cause) → RefusedWith P c past after old new → (c ≡ causes.NoSpace → IsFull of.new) → IsStep (turn_of past old new) q (Refused c) (copies.copies ++ past)
      by_cause c r full =
          by_refusal P past after old new (λ c. (c ≡ causes.NoSpace → IsFull of.new) → IsStep (turn_of past old new) q (Refused c) (copies.copies ++ past))
          (λ w spent full. step_of (Refused causes.VersionsSpent) copies.copies [] (λ e. cc) copies.true_copies (inr made) little ((of.takes_node, inr (made, ap next_version (sym copies.joined) ∙ spent)), refl))
          (λ w full. step_of (Refused causes.Memory) copies.copies [] (λ e. cc) copies.true_copies (inr made) little ((of.takes_node, (of.new, had_none.decided)), refl))
          (λ w full. step_of (Refused causes.NoSpace) copies.copies [] (λ e. cc) copies.true_copies (inr made) little ((of.takes_node, (of.new, had_none, (λ f. (full refl).0), (λ f. (full refl).1))), refl))
          (λ d full. step_of (Refused causes.Device) copies.copies [] (λ e. cc) copies.true_copies (inr made) little (lt-ltb old.faults new.faults d.faults, refl))
          c r full

-- the answer in other words
pub answers_same : (past : List Node) (old new : CoreState) (q : Request) (a b : Outcome) (node : Node) → a ≡ b → HasAnswered past old new q b (Some node) → HasAnswered past old new q a (Some node)
answers_same past old new q a b node same h = subst (λ (o : Outcome). HasAnswered past old new q o (Some node)) (sym same) h

-- no version is left
pub none_left : (o : Option ℕ) → ((k : ℕ) → o ≡ Some k → ⊥) → o ≡ None
none_left None h = refl
none_left (Some k) h = absurd (h k refl)

-- A core that failed answers nothing else.
pub failed_answer : (past : List Node) (c : CoreState) (q : Request) → c.failed ≡ true → RepresentsPast past c → HasAnswered past c c q (Refused causes.Failed) None
failed_answer past c q fails h = record {
  after = past;
  stands = h;
  step = record {
    copies = [];
    own = [];
    joined = refl;
    copies_are_true = tt;
    copies_make_room = inl refl;
    copies_are_little = none_is_little (gc_state past c);
    clean_is_so = (h.broken fails).clean;
    failed_says_so = ((λ f. refl), (λ e. fails));
    outcome = ((fails, refl), refl);
  };
  own = refl;
  fails = fails;
  faults = λ w. refl;
  in_hand = λ e. cc;
  programs = inl (same_programs past c c refl);
  two = λ k e. e;
  same = λ none. none_changed c c refl;
}

-- An answer is kept, and nothing else is changed.
kept_past : (writer seq : ℕ) (o : Outcome) (after : List Node) (middle new : CoreState) → KeepsAnswer writer seq o middle new → RepresentsPast after middle → RepresentsPast after new
kept_past writer seq o after middle new kept h = subst (RepresentsPast after) (sym kept) (record {
  working = h.working;
  broken = λ f. let b = h.broken f in record { clean = b.clean; tree = b.tree; left = b.left; erasing = b.erasing };
})

pub answered : (writer seq : ℕ) (o : Outcome) (node : Option Node) (mounted past : List Node) (old middle new : CoreState) (q : Request) → Grows mounted past → HasAnswered past old middle q o node → KeepsAnswer writer seq o middle new → AnswersWith mounted past old new q o node
answered writer seq o node mounted past old middle new q grown h kept =
    let faults : middle.faults ≡ new.faults = ap (λ (c : CoreState). c.faults) (sym kept) in
    let same : turn_of past old middle ≡ turn_of past old new = ap (λ k. record (turn_of past old middle) { device_faulted = ltb old.faults k }) faults in
    let step : (s : IsStep (turn_of past old new) q o h.after) × (s.own ≡ listed node) = subst (λ t. (s : IsStep t q o h.after) × (s.own ≡ listed node)) same (h.step, h.own) in
    record {
      answers = record {
        after = h.after;
        stands = record {
          grown = grows_along mounted past h.after grown (step_grows (turn_of past old middle) q o h.after h.step);
          stands = kept_past writer seq o h.after middle new kept h.stands;
        };
        step = step.0;
        fails = ap (λ (c : CoreState). c.failed) kept ∙ h.fails;
        faults = λ w. sym faults ∙ h.faults (sym (ap (λ (c : CoreState). c.failed) kept) ∙ w);
        in_hand = λ device.
            let b = h.in_hand device in
            subst (λ t. HasFailed (IsInHand t q h.after) h.after new) same
            (subst (HasFailed (IsInHand (turn_of past old middle) q h.after) h.after) (sym kept) (record { clean = b.clean; tree = b.tree; left = b.left; erasing = b.erasing }));
        programs = subst (λ t. ProgramsFor t q o past h.after old new) same
            (subst (λ (c : CoreState). ProgramsFor (turn_of past old middle) q o past h.after old c) (sym kept) h.programs);
        two = λ k e. subst (λ (c : CoreState). 2 ≤ (layout_in c.image c.index).erased) (sym kept) (h.two k e);
        same = λ none. kept_unchanged writer seq o old middle new kept (h.same (subst (λ t. DoesNothing o t q) (sym same) none));
      };
      own = step.1;
    }

pub unmounts_have_room : UnmountsHaveRoom
unmounts_have_room t q after u two step =
    let why = step.outcome.0 in
    let n = why.1.0 in
    let none = why.1.1 in
    let same = unmount_given t.past _ q.wish n u none.decided in
    both_ways (had_room t unmount_node) (ap (had_room t) same ∙ none.none) (or_right (leb 64 t.free) (leb 2 t.erased) (le-leb 2 t.erased two))
