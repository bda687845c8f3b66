use Rattle.std.proofs.Common.{rules, ◌≡◌, List, [], ◌∷◌, ◌++◌, map, true, sym, ◌∙◌, ap, refl, true≢false}
use Rattle.std.specs.Prelude.{is_ok}
use Rattle.jffs_line.specs.declared.request.Request.{Request}
use Rattle.jffs_line.specs.declared.rings.Ring.{Ring}
use Rattle.jffs_line.specs.declared.rings.RingHand.{RingHand}
use Rattle.jffs_line.specs.Rings.{ring_end, ring_accepted, ring_hand_end, taken_in}
use Rattle.jffs_line.specs.Settling.{all_hands, IsSettled}
use Rattle.jffs_line.proofs.Emptying.{AreEmptied, on_ok, ends_two, emptied_two, emptied_more, all_emptied}
use Rattle.jffs_line.proofs.rings.settling.empty_all.Goals as goal
use Rattle.jffs_line.proofs.rings.settling.empty_all.Goals.{then-is_ok, else-is_ok, In-Some-pop, After-empty, In_default-pop-2}

-- the last two rings are the cleaner's and the control's
rings_are : (c : In-Some-pop) → c.args.rings.items ≡ (c.pop-2.new.self.items ++ c.in-Some-pop.of_cleaner ∷ []) ++ c.in-Some.of_control ∷ []
rings_are c = c.in-Some.ensures.items ∙ ap (λ (l : List Ring). l ++ c.in-Some.of_control ∷ []) c.in-Some-pop.ensures.items

-- and so are their ends
ends_are : (c : In-Some-pop)
    → (ring_end c.in-Some.of_control ≡ ring_hand_end c.args.hands.control.hand) × (ring_end c.in-Some-pop.of_cleaner ≡ ring_hand_end c.args.hands.cleaner)
ends_are c =
    let hands = c.args.hands in
    ends_two c.pop-2.new.self.items _ _ hands.writers.items hands.cleaner hands.control.hand (ap (map ring_end) (sym (rings_are c)) ∙ c.requires.ends)

-- one ring more is empty
emptied : (c : After-empty)
    → AreEmptied c.args.rings.items (all_hands c.args.hands) c.pop-in-Some-pop-2.new.self.items c.pop-in-loop-hand.new.self.items (c.loop-hand.invariant.0 ++ c.empty.ensures.0)
emptied c =
    emptied_more c.args.rings.items (all_hands c.args.hands) c.requires.apart _ c.in-Some-pop-3.ring _ c.in-Some-pop-2.hand _ _
    (rw (c.in-Some-pop-3.ensures.items, c.in-Some-pop-2.ensures.items) at c.loop-hand.invariant.1) c.empty.ensures.1

-- no hand is left, so all rings are empty
settled : (c : In_default-pop-2)
    → IsSettled (λ (h : RingHand). h.number) ring_accepted (all_hands c.args.hands) (λ w. taken_in w c.args.rings.items) c.loop-hand.invariant.0
settled c =
    let none : c.loop-hand.writers.items ≡ [] = search rules in
    all_emptied c.args.rings.items c.loop-hand.rings.items (all_hands c.args.hands) _ c.requires.ends (rw none at c.loop-hand.invariant.1)

pub empty-first-requires : goal.empty-first-requires
empty-first-requires c = (ends_are (goal.at.empty-first-requires c).In-Some-pop).0 ∙ ap ring_hand_end (sym c.into_hand.ensures)

pub empty-second-requires : goal.empty-second-requires
empty-second-requires c = (ends_are (goal.at.empty-second-requires c).In-Some-pop).1

pub loop-hand-init : goal.loop-hand-init
loop-hand-init c =
    let hands = c.args.hands in
    let first = c.empty-first.ensures in
    let second = c.empty-second.ensures in (
      first.0 ++ second.0,
      emptied_two c.args.rings.items (all_hands hands) c.requires.apart c.pop-2.new.self.items c.in-Some-pop.of_cleaner c.in-Some.of_control
          hands.writers.items hands.cleaner hands.control.hand first.0 second.0 (rings_are (goal.at.loop-hand-init c).In-Some-pop) refl c.requires.ends
          (first.1 ∙ ap ring_accepted c.into_hand.ensures) second.1,
      elim c.if-is_ok.branch [
        | then-is_ok w ↦ λ whole.
            let one : is_ok c.empty-first.result ≡ true = search (rules, w, whole) in
            let two : is_ok c.empty-second.result ≡ true = search (rules, w, whole) in
            on_ok c.empty-second.result _ two second.2
            ∙ ap (λ (l : List Request). l ++ second.0) (on_ok c.empty-first.result _ one first.2 ∙ ap (λ (l : List Request). l ++ first.0) c.new-waiting.ensures.items)
        | else-is_ok w ↦ λ whole. absurd (search (rules, w, whole))
      ],
    )

pub loop-hand-preserved-then-is_err : goal.loop-hand-preserved-then-is_err
loop-hand-preserved-then-is_err c = (_, emptied (goal.at.loop-hand-preserved-then-is_err c).After-empty, λ no. absurd (true≢false (sym no)))

pub loop-hand-preserved : goal.loop-hand-preserved
loop-hand-preserved c =
    let old = c.loop-hand.invariant in
    let out = c.empty.ensures in
    let ok : is_ok c.empty.result ≡ true = search rules in
    (_, emptied (goal.at.loop-hand-preserved c).After-empty, λ whole. on_ok c.empty.result _ ok out.2 ∙ ap (λ (l : List Request). l ++ out.0) (old.2 whole))

pub returns-then-whole : goal.returns-then-whole
returns-then-whole c = (_, settled (goal.at.returns-then-whole c).In_default-pop-2, c.loop-hand.invariant.2 c.if-whole.true)

pub returns : goal.returns
returns c = (_, settled (goal.at.returns c).In_default-pop-2, tt)
