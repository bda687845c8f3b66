-- What is copied and programmed for an answer.
use Rattle.std.proofs.Common.{◌≡◌, inl, inr, ⊎_elim, ℕ, ◌+◌, ◌≤◌, List, [], ◌∷◌, ◌++◌, length, refl, sym, ap, ◌∙◌, arith}
use Rattle.std.proofs.lemmas.Bool.{both_ways}
use Rattle.jffs_node.specs.declared.node.Node.{Node}
use Rattle.jffs_log.specs.Cleaning.{GcState, used, room_made}
use Rattle.jffs_log.specs.RoomLaws.{IsSound}
use Rattle.jffs_log.specs.Work.{copies, live_and_free}
use Rattle.jffs_log.proofs.rooms.Work.{newest_are}
use Rattle.jffs_log.proofs.rooms.Copied.{copies_take_over}
use Rattle.jffs_log.proofs.rooms.WorkOfTurns.{making_room_copies_little, each_long}
use Rattle.jffs_core.specs.CoreState.{CoreState}
use Rattle.jffs_core.specs.Past.{RepresentsWorking, gc_state}
use Rattle.jffs_core.specs.Cleaning.{HasMadeRoom}
use Rattle.jffs_core.specs.Work.{AnswersCopyLittle, AnswersProgramLittle, RefusedAddNothing}
use Rattle.jffs_core.specs.Answering.{ProgramsFor, turn_of}
use Rattle.jffs_core.specs.Calls.{written}
use Rattle.jffs_core.specs.Run.{is_failure}

pub answers_copy_little : AnswersCopyLittle
answers_copy_little t q o after step = record { bytes = step.copies_are_little; count = each_long step.copies }

written_both : (xs ys : List Node) → written (xs ++ ys) ≡ written xs + written ys
written_both [] ys = let none : written [] ≡ 0 = refl in omega arith
written_both (x ∷ xs) ys = let later = written_both xs ys in omega arith

pub answers_program_little : AnswersProgramLittle
answers_program_little mounted past old new q o answer works = by_hand answer.programs
  where
    own : List Node
    own = answer.step.own

    copies_of : List Node
    copies_of = answer.step.copies

    by_hand : ProgramsFor (turn_of past old new) q o past answer.after old new → new.wear.bytes ≤ old.wear.bytes + written (own ++ copies_of)
    by_hand (inl programs) =
        let all : written answer.after ≡ written (own ++ copies_of ++ past) = ap written answer.step.joined in
        let both = written_both (own ++ copies_of) past in
        omega (arith, all, both, programs)
    by_hand (inr hand) = absurd (both_ways new.failed works (answer.fails ∙ ap is_failure hand.1.0))

pub refused_add_nothing : RefusedAddNothing
refused_add_nothing t q cause after step no_room =
    let none : step.copies ≡ [] = ⊎_elim (λ e. e) (λ m. absurd (no_room m)) step.copies_make_room in
    step.joined ∙ ap (λ (own : List Node). own ++ step.copies ++ t.past) step.outcome.1 ∙ ap (λ (made : List Node). made ++ t.past) none

-- The copies of a whole turn are little.
pub turn_is_little : (sectors z len : ℕ) (s : GcState) (made : List Node) → IsSound sectors z s → (room_made z len (length s.log.sectors) s).past ≡ made ++ s.past → used made ≤ live_and_free s
turn_is_little sectors z len s made sound are =
    let after = room_made z len (length s.log.sectors) s in
    let little = making_room_copies_little copies_take_over sectors z len (length s.log.sectors) s sound (omega arith) in
    let bytes = little.bytes in
    let same : used (copies s after) ≡ used made = ap used (newest_are made s.past after.past are) in
    omega arith

pub made_is_little : (len : ℕ) (past after : List Node) (old new : CoreState) → RepresentsWorking past old → (h : HasMadeRoom len past after old new) → used h.copies.copies ≤ live_and_free (gc_state past old)
made_is_little len past after old new known h =
    turn_is_little old.index.sectors old.index.sector_size len (gc_state past old) h.copies.copies known.sound (sym (ap (λ (s : GcState). s.past) h.turn) ∙ h.copies.joined)

pub none_is_little : (s : GcState) → used [] ≤ live_and_free s
none_is_little s = omega arith
