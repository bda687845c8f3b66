-- Rings are emptied from the last one on.
use Rattle.std.proofs.Common.{◌≡◌, ◌≢◌, ℕ, suc, Bool, true, true≢false, Result, Ok, Err, cond, eqb, List, [], ◌∷◌, ◌++◌, map, get_or, sym, refl, ap, ap₂, ◌∙◌, subst, subst₂, append_assoc, append-nil, arith}
use Rattle.std.specs.Prelude.{slice_index_or, is_ok, OnOk}
use Rattle.std.specs.List.{All, Contains}
use Rattle.std.proofs.lemmas.Bool.{eq-eqb, ne_eqb, cond-true, cond-false, cond_both}
use Rattle.std.proofs.lemmas.List.{map-append}
use Rattle.std.proofs.lemmas.List.Elements.{All-nil, All-cons, All-head, All-tail, All-map, filter-append}
use mathlib.Core.List.{map-map}
use Rattle.jffs_line.specs.declared.request.Request.{Request}
use Rattle.jffs_line.specs.declared.rings.Note.{Note}
use Rattle.jffs_line.specs.declared.rings.Ring.{Ring}
use Rattle.jffs_line.specs.declared.rings.RingHand.{RingHand}
use Rattle.rtrb.specs.Ring.{sent, received}
use Rattle.jffs_line.specs.Line.{End}
use Rattle.jffs_line.specs.Requests.{of}
use Rattle.jffs_line.specs.Rings.{as_request, ring_end, ring_hand_end, ring_taken, ring_accepted, taken_in, Apart}
use Rattle.jffs_line.specs.Numbered.{ring_numbered}
use Rattle.jffs_line.specs.Settling.{IsSettled}
use Rattle.jffs_line.proofs.Lists.{All-right, All-mapped}
use Rattle.jffs_line.proofs.Ringing.{numbers}

abbrev pub hand_numbers : List RingHand → List ℕ
hand_numbers hs = map (λ (h : RingHand). h.number) hs

abbrev IsBy : ℕ → Request → Type 0
IsBy w x = x.writer ≡ w

abbrev pub IsNot : ℕ → RingHand → Type 0
IsNot w h = h.number ≢ w

all_by : (w : ℕ) (notes : List Note) → All (IsBy w) (map (as_request w) notes)
all_by w notes = All-map (IsBy w) (as_request w) notes (λ k d h. refl)

of_own : (w : ℕ) (rs : List Request) → All (IsBy w) rs → of w rs ≡ rs
of_own w [] h = refl
of_own w (r ∷ rs) h =
    ap₂ (λ (b : Bool) (l : List Request). cond b (r ∷ l) l) (eq-eqb r.writer w (All-head (IsBy w) r rs h)) (of_own w rs (All-tail (IsBy w) r rs h))

of_not : (w n : ℕ) (rs : List Request) → n ≢ w → All (IsBy n) rs → of w rs ≡ []
of_not w n [] other h = refl
of_not w n (r ∷ rs) other h =
    let is : r.writer ≡ n = All-head (IsBy n) r rs h in
    ap₂ (λ (b : Bool) (l : List Request). cond b (r ∷ l) l) (ne_eqb r.writer w (λ same. other (sym is ∙ same))) (of_not w n rs other (All-tail (IsBy n) r rs h))

of_both : (w : ℕ) (xs ys : List Request) → of w (xs ++ ys) ≡ of w xs ++ of w ys
of_both w xs ys = filter-append (λ (r : Request). eqb r.writer w) xs ys

-- the number in the middle stands nowhere else
apart_front : (ns : List ℕ) (n : ℕ) (ms : List ℕ) → Apart (ns ++ n ∷ ms) → All (λ (m : ℕ). m ≢ n) ns
apart_front [] n ms h = All-nil (λ (m : ℕ). m ≢ n)
apart_front (a ∷ ns) n ms h =
    let far : n ≢ a = All-head (λ (m : ℕ). m ≢ a) n ms (All-right (λ (m : ℕ). m ≢ a) ns (n ∷ ms) h.0) in
    All-cons (λ (m : ℕ). m ≢ n) a ns (λ same. far (sym same)) (apart_front ns n ms h.1)

apart_back : (ns : List ℕ) (n : ℕ) (ms : List ℕ) → Apart (ns ++ n ∷ ms) → All (λ (m : ℕ). m ≢ n) ms
apart_back [] n ms h = h.0
apart_back (a ∷ ns) n ms h = apart_back ns n ms h.1

-- the last of two lists of ends that are one
last_ends : (rs : List Ring) (r : Ring) (hs : List RingHand) (h : RingHand) → map ring_end (rs ++ r ∷ []) ≡ map ring_hand_end (hs ++ h ∷ [])
    → (map ring_end rs ≡ map ring_hand_end hs) × (ring_end r ≡ ring_hand_end h)
last_ends [] r [] h e = let same : ring_end r ≡ ring_hand_end h = cc in (refl, same)
last_ends [] r (g ∷ []) h e = cc
last_ends [] r (g ∷ (f ∷ hs)) h e = cc
last_ends (q ∷ []) r [] h e = cc
last_ends (q ∷ (p ∷ rs)) r [] h e = cc
last_ends (q ∷ rs) r (g ∷ hs) h e =
    let first : ring_end q ≡ ring_hand_end g = cc in
    let rest : map ring_end (rs ++ r ∷ []) ≡ map ring_hand_end (hs ++ h ∷ []) = cc in
    let more = last_ends rs r hs h rest in
    (ap₂ (λ (x : End) (l : List End). x ∷ l) first more.0, more.1)

-- what is so of an Ok
pub on_ok : {T E : Type 0} (r : Result T E) (P : Type 0) → is_ok r ≡ true → OnOk r P → P
on_ok (Ok x) P ok p = p
on_ok (Err e) P ok p = absurd (true≢false (sym ok))

-- the ends of the control's ring and of the cleaner's
pub ends_two : (rs : List Ring) (of_cleaner of_control : Ring) (hs : List RingHand) (cleaner control : RingHand)
    → map ring_end ((rs ++ of_cleaner ∷ []) ++ of_control ∷ []) ≡ map ring_hand_end (hs ++ cleaner ∷ control ∷ [])
    → (ring_end of_control ≡ ring_hand_end control) × (ring_end of_cleaner ≡ ring_hand_end cleaner)
ends_two rs of_cleaner of_control hs cleaner control e =
    let both = last_ends (rs ++ of_cleaner ∷ []) of_control (hs ++ cleaner ∷ []) control (e ∙ ap (map ring_hand_end) (sym (append_assoc hs (cleaner ∷ []) (control ∷ [])))) in
    (both.1, (last_ends rs of_cleaner hs cleaner both.0).1)

taken_there : (rs : List Ring) (r : Ring) (gone : List Ring) (hs : List RingHand) → map ring_end rs ≡ map ring_hand_end hs → All (λ (h : RingHand). h.number ≢ r.number) hs
    → taken_in r.number (rs ++ r ∷ gone) ≡ ring_taken r
taken_there [] r gone hs e apart = cond-true _ _ _ (eq-eqb r.number r.number refl)
taken_there (q ∷ rs) r gone [] e apart = cc
taken_there (q ∷ rs) r gone (g ∷ hs) e apart =
    let first : ring_end q ≡ ring_hand_end g = cc in
    let rest : map ring_end rs ≡ map ring_hand_end hs = cc in
    let P : RingHand → Type 0 = λ h. h.number ≢ r.number in
    let other : q.number ≢ r.number = λ same. All-head P g hs apart (sym (ap (λ (x : End). x.0) first) ∙ same) in
    cond-false _ _ _ (ne_eqb q.number r.number other) ∙ taken_there rs r gone hs rest (All-tail P g hs apart)

-- some rings are empty, those of the last hands, and what waited there is all of what waited of
-- these senders
pub record AreEmptied (all_rings : List Ring) (all_hands : List RingHand) (rings : List Ring) (hands : List RingHand) (waiting : List Request) : Type 0 where
  pub done : List RingHand
  pub gone : List Ring
  pub hands_are : all_hands ≡ hands ++ done
  pub rings_are : all_rings ≡ rings ++ gone
  pub ends : map ring_end rings ≡ map ring_hand_end hands
  pub settled : All (λ (h : RingHand). taken_in h.number all_rings ++ of h.number waiting ≡ ring_accepted h) done
  pub others : (w : ℕ) → All (IsNot w) done → of w waiting ≡ []

pub emptied_none : (all_rings : List Ring) (all_hands : List RingHand) → map ring_end all_rings ≡ map ring_hand_end all_hands → AreEmptied all_rings all_hands all_rings all_hands []
emptied_none all_rings all_hands e = record {
  done = [];
  gone = [];
  hands_are = sym (append-nil all_hands);
  rings_are = sym (append-nil all_rings);
  ends = e;
  settled = All-nil (λ (h : RingHand). taken_in h.number all_rings ++ of h.number [] ≡ ring_accepted h);
  others = λ _ _. refl;
}

module _ (all_rings : List Ring) (all_hands : List RingHand) (apart : Apart (hand_numbers all_hands)) where
  pub emptied_more : (rs : List Ring) (r : Ring) (hs : List RingHand) (h : RingHand) (waiting left : List Request)
      → AreEmptied all_rings all_hands (rs ++ r ∷ []) (hs ++ h ∷ []) waiting → ring_taken r ++ left ≡ ring_accepted h → AreEmptied all_rings all_hands rs hs (waiting ++ left)
  emptied_more rs r hs h waiting left old is =
      let ends = last_ends rs r hs h old.ends in
      let number : r.number ≡ h.number = ap (λ (x : End). x.0) ends.1 in
      let done : List RingHand = h ∷ old.done in
      let gone : List Ring = r ∷ old.gone in
      let hands_are : all_hands ≡ hs ++ done = old.hands_are ∙ append_assoc hs (h ∷ []) old.done in
      let rings_are : all_rings ≡ rs ++ gone = old.rings_are ∙ append_assoc rs (r ∷ []) old.gone in
      let split : Apart (hand_numbers hs ++ h.number ∷ hand_numbers old.done) = subst Apart (ap hand_numbers hands_are ∙ map-append (λ (g : RingHand). g.number) hs done) apart in
      let before : All (IsNot h.number) hs = All-mapped (λ (m : ℕ). m ≢ h.number) (λ (g : RingHand). g.number) hs (apart_front (hand_numbers hs) h.number (hand_numbers old.done) split) in
      let after : All (IsNot h.number) old.done = All-mapped (λ (m : ℕ). m ≢ h.number) (λ (g : RingHand). g.number) old.done (apart_back (hand_numbers hs) h.number (hand_numbers old.done) split) in
      let own : All (IsBy h.number) left = All-right (IsBy h.number) (ring_taken r) left (subst (All (IsBy h.number)) (sym is) (all_by h.number (sent h.producer))) in
      let P : RingHand → Type 0 = λ g. taken_in g.number all_rings ++ of g.number waiting ≡ ring_accepted g in
      let Q : RingHand → Type 0 = λ g. taken_in g.number all_rings ++ of g.number (waiting ++ left) ≡ ring_accepted g in
      let taken : taken_in h.number all_rings ≡ ring_taken r =
      ap₂ taken_in (sym number) rings_are ∙ taken_there rs r old.gone hs ends.0 (subst (λ (w : ℕ). All (IsNot w) hs) (sym number) before) in
      let mine : Q h =
      ap₂ (λ (a b : List Request). a ++ b) taken (of_both h.number waiting left ∙ ap₂ (λ (a b : List Request). a ++ b) (old.others h.number after) (of_own h.number left own)) ∙ is in
      let kept : (w : ℕ) → h.number ≢ w → of w (waiting ++ left) ≡ of w waiting =
      λ w other. of_both w waiting left ∙ ap (λ (l : List Request). of w waiting ++ l) (of_not w h.number left other own) ∙ append-nil (of w waiting) in
      record {
        done = done;
        gone = gone;
        hands_are = hands_are;
        rings_are = rings_are;
        ends = ends.0;
        settled = All-cons Q h old.done mine
            (λ k d in'. ap (λ (l : List Request). taken_in (get_or old.done k d).number all_rings ++ l) (kept (get_or old.done k d).number (λ same. after k d in' (sym same))) ∙ old.settled k d in');
        others = λ w none. kept w (All-head (IsNot w) h old.done none) ∙ old.others w (All-tail (IsNot w) h old.done none);
      }

  -- the control's ring is emptied first, and then the cleaner's
  pub emptied_two : (rs : List Ring) (of_cleaner of_control : Ring) (hs : List RingHand) (cleaner control : RingHand) (first second : List Request)
      → all_rings ≡ (rs ++ of_cleaner ∷ []) ++ of_control ∷ [] → all_hands ≡ hs ++ cleaner ∷ control ∷ [] → map ring_end all_rings ≡ map ring_hand_end all_hands
      → ring_taken of_control ++ first ≡ ring_accepted control → ring_taken of_cleaner ++ second ≡ ring_accepted cleaner
      → AreEmptied all_rings all_hands rs hs (first ++ second)
  emptied_two rs of_cleaner of_control hs cleaner control first second rings_are hands_are ends of_first of_second =
      let before : AreEmptied all_rings all_hands ((rs ++ of_cleaner ∷ []) ++ of_control ∷ []) ((hs ++ cleaner ∷ []) ++ control ∷ []) [] =
      subst₂ (λ (a : List Ring) (b : List RingHand). AreEmptied all_rings all_hands a b []) rings_are
      (hands_are ∙ sym (append_assoc hs (cleaner ∷ []) (control ∷ []))) (emptied_none all_rings all_hands ends) in
      emptied_more rs of_cleaner hs cleaner first second (emptied_more (rs ++ of_cleaner ∷ []) of_control (hs ++ cleaner ∷ []) control [] first before of_first) of_second

pub not_there : (hs : List RingHand) (w : ℕ) → ¬ (Contains (hand_numbers hs) w) → All (IsNot w) hs
not_there [] w none = All-nil (IsNot w)
not_there (h ∷ hs) w none =
    All-cons (IsNot w) h hs (λ same. none (0, omega arith, same)) (not_there hs w (λ there. let k : ℕ = there.0 in let below = there.1 in none (suc k, omega arith, there.2)))

pub none_taken : (rs : List Ring) (hs : List RingHand) (w : ℕ) → map ring_end rs ≡ map ring_hand_end hs → All (IsNot w) hs → taken_in w rs ≡ []
none_taken [] hs w e none = refl
none_taken (r ∷ rs) [] w e none = cc
none_taken (r ∷ rs) (h ∷ hs) w e none =
    let first : ring_end r ≡ ring_hand_end h = cc in
    let rest : map ring_end rs ≡ map ring_hand_end hs = cc in
    let other : r.number ≢ w = λ same. All-head (IsNot w) h hs none (sym (ap (λ (x : End). x.0) first) ∙ same) in
    cond-false _ _ _ (ne_eqb r.number w other) ∙ none_taken rs hs w rest (All-tail (IsNot w) h hs none)

-- where all rings are empty, all is settled
pub all_emptied : (all_rings rs : List Ring) (all_hands : List RingHand) (waiting : List Request) → map ring_end all_rings ≡ map ring_hand_end all_hands
    → AreEmptied all_rings all_hands rs [] waiting → IsSettled (λ (h : RingHand). h.number) ring_accepted all_hands (λ w. taken_in w all_rings) waiting
all_emptied all_rings rs all_hands waiting ends emptied = record {
  each = subst (All (λ (h : RingHand). taken_in h.number all_rings ++ of h.number waiting ≡ ring_accepted h)) (sym emptied.hands_are) emptied.settled;
  numbered = λ k d below. ring_numbered (slice_index_or all_hands k d);
  others = λ w none.
      let far = not_there all_hands w none in
      ap₂ (λ (a b : List Request). a ++ b) (none_taken all_rings all_hands w ends far) (emptied.others w (subst (All (IsNot w)) emptied.hands_are far));
}

-- a ring's two ends: what waits there is what was handed in beyond what was taken
pub left_in : (r : Ring) (h : RingHand) (notes : List Note) → r.number ≡ h.number → received r.consumer ++ notes ≡ sent h.producer
    → ring_taken r ++ map (as_request r.number) notes ≡ ring_accepted h
left_in r h notes number whole =
    sym (map-append (as_request r.number) (received r.consumer) notes)
    ∙ (ap (map (as_request r.number)) whole ∙ ap (λ (w : ℕ). map (as_request w) (sent h.producer)) number)

pub numbers_are : (rs : List Ring) (hs : List RingHand) → map ring_end rs ≡ map ring_hand_end hs → numbers rs ≡ hand_numbers hs
numbers_are rs hs e = sym (map-map (λ (x : End). x.0) ring_end rs) ∙ ap (map (λ (x : End). x.0)) e ∙ map-map (λ (x : End). x.0) ring_hand_end hs

pub taken_of_fresh : (rs : List Ring) (w : ℕ) → All (λ (r : Ring). ring_taken r ≡ []) rs → taken_in w rs ≡ []
taken_of_fresh [] w h = refl
taken_of_fresh (r ∷ rs) w h =
    let P : Ring → Type 0 = λ q. ring_taken q ≡ [] in
    cond_both (eqb r.number w) (ring_taken r) (taken_in w rs) (λ (l : List Request). l ≡ []) (λ _. All-head P r rs h) (λ _. taken_of_fresh rs w (All-tail P r rs h))
