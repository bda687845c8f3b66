-- The end of a shared line.
use Rattle.std.proofs.Common.{◌≡◌, ℕ, zero, suc, ◌+◌, ◌-◌, ◌<◌, ◌≤◌, ◌⊎◌, Bool, true, List, [], ◌∷◌, ◌++◌, map, eqb, sym, refl, ap, ap₂, ◌∙◌, subst, inl, inr, ⊎_elim, append_assoc, append-nil, eq-or-lt_of_le, lt_of_not-le, lit<, arith}
use native.Mathlib.Decide.{dec_le}
use Rattle.std.specs.Prelude.{slice_index_or}
use Rattle.std.specs.List.{All, Contains, range_with_len}
use Rattle.std.proofs.lemmas.List.{map-append}
use Rattle.std.proofs.lemmas.List.Elements.{All-nil, All-cons, All-head, All-tail, All-weaker, filter-append, Contains-append_left, Contains-append_right}
use Rattle.std.proofs.lemmas.List.FromFn.{length-range_with_len, get_or-range_with_len}
use Rattle.crossbeam_channel.specs.Claims.{Pass, IsSeatAt, view}
use Rattle.crossbeam_channel.specs.Ends.{sends_on, receives_on}
use Rattle.crossbeam_channel.specs.declared.flavors.array.Rows.{Rows}
use Rattle.crossbeam_channel.specs.declared.flavors.array.Key.{Key}
use Rattle.crossbeam_channel.specs.declared.flavors.array.Doing.{Doing}
use Rattle.atomic_table.specs.declared.badge.Badge.{Badge}
use Rattle.jffs_line.specs.declared.request.Request.{Request}
use Rattle.jffs_line.specs.declared.knows.Sent.{Sent}
use Rattle.jffs_line.specs.declared.knows.Knows.{Knows}
use Rattle.jffs_line.specs.declared.shared.SharedHand.{SharedHand}
use Rattle.jffs_line.specs.Requests.{of}
use Rattle.jffs_line.specs.InOrder.{knows, sent_by, silent, joined, Told, Learned, IsStranger}
use Rattle.jffs_line.specs.Line.{Line, End, senders}
use Rattle.jffs_line.specs.declared.hand.Hands.{Hands}
use Rattle.jffs_line.specs.declared.shared.SharedTaker.{SharedTaker}
use Rattle.jffs_line.specs.Shared.{channel_line, shared_line, shared_end, shared_ends, shared_accepted, shared_taken, hand_sent}
use Rattle.jffs_line.specs.Numbered.{shared_numbered}
use Rattle.jffs_line.specs.Settling.{all_hands, WasSettled}
use Rattle.jffs_line.proofs.Lists.{All-left, All-right, All-mapped}
use Rattle.jffs_line.proofs.Making.{numbers_all}

-- a pass of one channel is a pass of another end's, where the two ends' lines have one name
pub same_seat : {Q M L A : Type 0} (c d : Rows (Badge (Key Request)) (Doing Request Knows) Q M (Key Request) L A) (s p : Pass Request Knows)
    → channel_line c ≡ channel_line d → IsSeatAt c s → IsSeatAt d p → IsSeatAt d s
same_seat c d s p e at own =
    let table : c.stamps.shared.table_id ≡ d.stamps.shared.table_id = cc in
    let key : c.stamps.shared.key ≡ d.stamps.shared.key = cc in
    (at.0 ∙ table, at.1 ∙ key, at.2, own.3)

pub lines_named : (line : Line) (hs : List SharedHand) (ws : List ℕ) → map (λ (w : ℕ). (w, line)) ws ≡ map shared_end hs → All (λ (h : SharedHand). shared_line h ≡ line) hs
lines_named line [] ws e = All-nil (λ (h : SharedHand). shared_line h ≡ line)
lines_named line (h ∷ hs) [] e = cc
lines_named line (h ∷ hs) (w ∷ ws) e =
    let first : (w, line) ≡ shared_end h = cc in
    let rest : map (λ (w : ℕ). (w, line)) ws ≡ map shared_end hs = cc in
    All-cons (λ (h : SharedHand). shared_line h ≡ line) h hs (sym (ap (λ (x : End). x.1) first)) (lines_named line hs ws rest)

-- the entries of all passes, once they have come together
pub entries : (spare : List Sent) (hs : List SharedHand) (cleaner control : SharedHand)
    → ((spare ++ map hand_sent hs) ++ (view cleaner.pass).sent) ++ (view control.pass).sent ≡ spare ++ map hand_sent (hs ++ cleaner ∷ control ∷ [])
entries spare hs cleaner control =
    let a : (view cleaner.pass).sent ≡ hand_sent cleaner ∷ [] = ap (λ (v : Knows). v.sent) cleaner.known in
    let b : (view control.pass).sent ≡ hand_sent control ∷ [] = ap (λ (v : Knows). v.sent) control.known in
    ap₂ (λ (x y : List Sent). ((spare ++ map hand_sent hs) ++ x) ++ y) a b
    ∙ append_assoc (spare ++ map hand_sent hs) (hand_sent cleaner ∷ []) (hand_sent control ∷ [])
    ∙ append_assoc spare (map hand_sent hs) (hand_sent cleaner ∷ hand_sent control ∷ [])
    ∙ ap (λ (l : List Sent). spare ++ l) (sym (map-append hand_sent hs (cleaner ∷ control ∷ [])))

-- the pass that all passes have come to
pub together : (t : Knows) (spare : List Sent) (hs : List SharedHand) (cleaner control : SharedHand) (a b e : Knows)
    → t ≡ knows true t.taken spare → a ≡ knows t.takes t.taken (t.sent ++ map hand_sent hs) → b ≡ joined a (view cleaner.pass) → e ≡ joined b (view control.pass)
    → e ≡ knows true t.taken (spare ++ map hand_sent (hs ++ cleaner ∷ control ∷ []))
together t spare hs cleaner control a b e is all_in cleaner_in control_in =
    let b' : b ≡ joined (knows t.takes t.taken (t.sent ++ map hand_sent hs)) (view cleaner.pass) = cleaner_in ∙ ap (λ (x : Knows). joined x (view cleaner.pass)) all_in in
    let sent : List Sent → List Sent = λ l. ((l ++ map hand_sent hs) ++ (view cleaner.pass).sent) ++ (view control.pass).sent in
    control_in ∙ ap (λ (x : Knows). joined x (view control.pass)) b'
    ∙ ap₂ (λ (takes : Bool) (l : List Sent). knows takes t.taken (sent l)) (ap (λ (v : Knows). v.takes) is) (ap (λ (v : Knows). v.sent) is)
    ∙ ap (knows true t.taken) (entries spare hs cleaner control)

-- where a number stands

silent_one : (from n w : ℕ) → from ≤ w → w < from + n → (P : Sent → Type 0) → All P (silent from n) → P (sent_by w [])
silent_one from zero w low high P h = absurd (omega arith)
silent_one from (suc n) w low high P h =
    ⊎_elim (λ (same : from ≡ w). subst (λ (k : ℕ). P (sent_by k [])) same (All-head P (sent_by from []) (silent (from + 1) n) h))
    (λ (less : from < w). silent_one (from + 1) n w (omega arith) (omega arith) P (All-tail P (sent_by from []) (silent (from + 1) n) h)) (eq-or-lt_of_le low)

writer_there : (n w : ℕ) → 1 ≤ w → w ≤ n → Contains (senders n) w
writer_there n w low high =
    Contains-append_left (range_with_len 1 n) (9 ∷ 10 ∷ []) w
    (w - 1, omega (arith, length-range_with_len 1 n), get_or-range_with_len 1 n (w - 1) w (omega arith) ∙ omega arith)

nine_or_ten : (w : ℕ) → 9 ≤ w → w ≤ 10 → Contains (9 ∷ 10 ∷ []) w
nine_or_ten w low high =
    ⊎_elim (λ (nine : 9 ≡ w). (0, lit< tt, nine)) (λ (ten : 9 < w). let is : 10 ≡ w = omega arith in (1, lit< tt, is)) (eq-or-lt_of_le low)

last_there : (n w : ℕ) → 9 ≤ w → w ≤ 10 → Contains (senders n) w
last_there n w low high =
    Contains-append_right (range_with_len 1 n) (9 ∷ 10 ∷ []) w (nine_or_ten w low high)

from_nine : (n w : ℕ) → 1 ≤ w → w ≤ 10 → n < w → Dec (w ≤ 8) → Contains (senders n) w ⊎ ((n + 1 ≤ w) × (w < 9))
from_nine n w low high above (yes small) = inr (omega arith, omega arith)
from_nine n w low high above (no big) = let more : 8 < w = lt_of_not-le big in inl (last_there n w (omega arith) high)

from_one : (n w : ℕ) → 1 ≤ w → w ≤ 10 → Dec (w ≤ n) → Contains (senders n) w ⊎ ((n + 1 ≤ w) × (w < 9))
from_one n w low high (yes small) = inl (writer_there n w low small)
from_one n w low high (no big) = from_nine n w low high (lt_of_not-le big) (dec_le w 8)

to_ten : (n w : ℕ) → 1 ≤ w → Dec (w ≤ 10) → IsStranger w ⊎ (Contains (senders n) w ⊎ ((n + 1 ≤ w) × (w < 9)))
to_ten n w low (yes high) = inr (from_one n w low high (dec_le w n))
to_ten n w low (no big) = inl (inr (lt_of_not-le big))

from_zero : (n w : ℕ) → Dec (1 ≤ w) → IsStranger w ⊎ (Contains (senders n) w ⊎ ((n + 1 ≤ w) × (w < 9)))
from_zero n w (yes low) = to_ten n w low (dec_le w 10)
from_zero n w (no none) = let less : w < 1 = lt_of_not-le none in inl (inl (omega arith))

range_of : (n w : ℕ) → IsStranger w ⊎ (Contains (senders n) w ⊎ ((n + 1 ≤ w) × (w < 9)))
range_of n w = from_zero n w (dec_le 1 w)

-- what a pass learns before it takes what waits, it would have learned after that
pub learned_before : (v : Knows) (waiting : List Request) → v.takes ≡ true → Learned v waiting → Learned (knows true (v.taken ++ waiting) v.sent) []
learned_before v waiting takes before =
    let all : List Request = before.taken ++ waiting in
    let same : all ++ [] ≡ all = append-nil all in
    record {
      taken = all;
      told = subst (λ (l : List Request). Told l v.sent) (sym same) before.told;
      strangers = λ w far. ap (of w) same ∙ before.strangers w far;
      same = λ _. ap (λ (l : List Request). l ++ waiting) (before.same takes);
    }

module _ (taken waiting : List Request) (spare : List Sent) (hs : List SharedHand) (last : Learned (knows true (taken ++ waiting) (spare ++ map hand_sent hs)) []) where
  all_is : last.taken ++ [] ≡ taken ++ waiting
  all_is = append-nil last.taken ∙ sym (last.same refl)

  abbrev Whole : Sent → Type 0
  Whole s = s.accepted ≡ of s.sender (taken ++ waiting)

  told : All Whole (spare ++ map hand_sent hs)
  told = subst (λ (l : List Request). Told l (spare ++ map hand_sent hs)) all_is last.told

  parts : (w : ℕ) → of w (taken ++ waiting) ≡ of w taken ++ of w waiting
  parts w = filter-append (λ (r : Request). eqb r.writer w) taken waiting

  pub settled : All (λ (h : SharedHand). of h.number taken ++ of h.number waiting ≡ shared_accepted h) hs
  settled =
      All-weaker (λ (h : SharedHand). Whole (hand_sent h)) (λ (h : SharedHand). of h.number taken ++ of h.number waiting ≡ shared_accepted h)
      (λ h is. sym (parts h.number) ∙ sym is) hs (All-mapped Whole hand_sent hs (All-right Whole spare (map hand_sent hs) told))

  pub of_strangers : (w : ℕ) → IsStranger w → of w taken ++ of w waiting ≡ []
  of_strangers w far = sym (parts w) ∙ ap (of w) (sym all_is) ∙ last.strangers w far

  pub of_silent : (n : ℕ) → spare ≡ silent (n + 1) (8 - n) → (w : ℕ) → n + 1 ≤ w → w < 9 → of w taken ++ of w waiting ≡ []
  of_silent n is w low high =
      let quiet : All Whole (silent (n + 1) (8 - n)) = subst (All Whole) is (All-left Whole spare (map hand_sent hs) told) in
      sym (parts w) ∙ sym (silent_one (n + 1) (8 - n) w low (omega arith) Whole quiet)

  pub others : (n : ℕ) → n ≤ 8 → spare ≡ silent (n + 1) (8 - n) → (w : ℕ) → ¬ (Contains (senders n) w) → of w taken ++ of w waiting ≡ []
  others n few is w none =
      ⊎_elim (of_strangers w) (⊎_elim (λ there. absurd (none there)) (λ (at : (n + 1 ≤ w) × (w < 9)). of_silent n is w at.0 at.1)) (range_of n w)

-- all ends of one line, where r is the control's hand
module _ (hands : Hands SharedHand) (taker : SharedTaker) (r : SharedHand) (is : r ≡ hands.control.hand) (ends : shared_ends taker ≡ map shared_end (all_hands hands)) where
  line : Line
  line = channel_line (receives_on taker.receives)

  abbrev IsHere : SharedHand → Type 0
  IsHere h = shared_line h ≡ channel_line (receives_on taker.receives)

  abbrev writers : List SharedHand
  writers = hands.writers.items

  here : All IsHere (writers ++ hands.cleaner ∷ r ∷ [])
  here =
      subst (λ (h : SharedHand). All IsHere (writers ++ hands.cleaner ∷ h ∷ [])) (sym is)
      (lines_named (channel_line (receives_on taker.receives)) (all_hands hands) (senders taker.writers) ends)

  last_two : All IsHere (hands.cleaner ∷ r ∷ [])
  last_two = All-right IsHere writers (hands.cleaner ∷ r ∷ []) here

  control_here : IsHere r
  control_here = All-head IsHere r [] (All-tail IsHere hands.cleaner (r ∷ []) last_two)

  pub writers_here : All (λ (h : SharedHand). shared_line h ≡ channel_line (sends_on r.sends)) writers
  writers_here =
      All-weaker IsHere (λ (h : SharedHand). shared_line h ≡ channel_line (sends_on r.sends)) (λ h e. e ∙ sym control_here) writers
      (All-left IsHere writers (hands.cleaner ∷ r ∷ []) here)

  pub cleaner_seat : IsSeatAt (sends_on r.sends) hands.cleaner.pass
  cleaner_seat =
      same_seat (sends_on hands.cleaner.sends) (sends_on r.sends) hands.cleaner.pass r.pass (All-head IsHere hands.cleaner (r ∷ []) last_two ∙ sym control_here) hands.cleaner.seat r.seat

  pub taker_seat : IsSeatAt (sends_on r.sends) taker.pass
  taker_seat = same_seat (receives_on taker.receives) (sends_on r.sends) taker.pass r.pass (sym control_here) taker.seat r.seat

  pub seat_back : (p : Pass Request Knows) → IsSeatAt (sends_on r.sends) p → IsSeatAt (receives_on taker.receives) p
  seat_back p at = same_seat (sends_on r.sends) (receives_on taker.receives) p taker.pass control_here at taker.seat

  module _ (waiting : List Request) (a b e : Knows)
      (all_in : a ≡ knows (view taker.pass).takes (view taker.pass).taken ((view taker.pass).sent ++ map hand_sent writers))
      (cleaner_in : b ≡ joined a (view hands.cleaner.pass)) (control_in : e ≡ joined b (view r.pass)) (last : Learned (knows true (e.taken ++ waiting) e.sent) []) where
    abbrev taken : List Request
    taken = (view taker.pass).taken

    abbrev spare : List Sent
    spare = silent (taker.writers + 1) (8 - taker.writers)

    learned : Learned (knows true (taken ++ waiting) (spare ++ map hand_sent (writers ++ hands.cleaner ∷ r ∷ []))) []
    learned =
        let v = together (view taker.pass) spare writers hands.cleaner r a b e taker.known all_in cleaner_in control_in in
        subst (λ (v : Knows). Learned (knows true (v.taken ++ waiting) v.sent) []) v last

    pub all_settled : All (λ (h : SharedHand). of h.number taken ++ of h.number waiting ≡ shared_accepted h) (all_hands hands)
    all_settled =
        subst (λ (h : SharedHand). All (λ (h : SharedHand). of h.number taken ++ of h.number waiting ≡ shared_accepted h) (writers ++ hands.cleaner ∷ h ∷ [])) is
        (settled taken waiting spare (writers ++ hands.cleaner ∷ r ∷ []) learned)

    pub others_settled : (w : ℕ) → ¬ (Contains (map (λ (h : SharedHand). h.number) (all_hands hands)) w) → of w taken ++ of w waiting ≡ []
    others_settled w none =
        let numbers = numbers_all (channel_line (receives_on taker.receives)) (all_hands hands) taker.writers (sym ends) in
        others taken waiting spare (writers ++ hands.cleaner ∷ r ∷ []) learned taker.writers taker.few refl w (subst (λ (l : List ℕ). ¬ (Contains l w)) numbers none)

  -- what was taken of each hand, and what the passes that came together learn to wait
  pub was_settled :
      (waiting : List Request) (a b e : Knows) → a ≡ knows (view taker.pass).takes (view taker.pass).taken ((view taker.pass).sent ++ map hand_sent writers)
      → b ≡ joined a (view hands.cleaner.pass) → e ≡ joined b (view r.pass) → Learned e waiting
      → WasSettled (λ (h : SharedHand). h.number) shared_accepted (all_hands hands) (shared_taken taker)
  was_settled waiting a b e all_in cleaner_in control_in before =
      let takes : Knows → Bool = λ v. v.takes in
      let may : e.takes ≡ true = ap takes control_in ∙ (ap takes cleaner_in ∙ (ap takes all_in ∙ ap takes taker.known)) in
      let last = learned_before e waiting may before in (
        waiting,
        record {
          each = all_settled waiting a b e all_in cleaner_in control_in last;
          numbered = λ k d below. shared_numbered (slice_index_or (all_hands hands) k d);
          others = others_settled waiting a b e all_in cleaner_in control_in last;
        },
      )
