-- Each step on the shared line keeps its rule.
use Rattle.std.proofs.Common.{◌≡◌, ◌≢◌, ℕ, zero, suc, ◌+◌, ◌<◌, ◌≤◌, Bool, true, false, true≢false, List, [], ◌∷◌, ◌++◌, length, set, cond, eqb, sym, refl, ap, ◌∙◌, subst, ⊎_elim, ◌⊎◌, inl, inr, append_assoc, append-nil, arith}
use Rattle.std.specs.List.{All}
use Rattle.std.proofs.lemmas.Bool.{eq-eqb, ne_eqb, cond-true, cond-false}
use Rattle.std.proofs.lemmas.List.Elements.{All-nil, All-cons, All-head, All-tail, All-append, All-weaker, filter-append}
use mathlib.Core.Option.{some, some-injective, some-ne-none}
use lib.ListN.{get_elem?}
use Rattle.crossbeam_channel.specs.Fifo.{Pushes, Pops, Forks, Merges, Learns, Held}
use Rattle.atomic_table.proofs.Lists.{at_set}
use Rattle.jffs_line.specs.declared.request.Request.{Request}
use Rattle.jffs_line.specs.declared.knows.Sent.{Sent}
use Rattle.jffs_line.specs.declared.knows.Knows.{Knows}
use Rattle.jffs_line.specs.Requests.{of}
use Rattle.jffs_line.specs.InOrder.{sent_by, knows, hand_knows, silent, maker_knows, Told, Fits, InOrder, Learned, IsStranger, HandsIn, Takes, without_first, first_alone, joined, accepted_of}
use Rattle.jffs_line.specs.Shared.{WasFull}

-- lists of views

each_set : (F : ℕ → Knows → Type 0) (views : List Knows) (pass : ℕ) (u : Knows) → F pass u → ((j : ℕ) (v : Knows) → j ≢ pass → get_elem? views j ≡ some v → F j v)
    → (j : ℕ) (v : Knows) → get_elem? (set views pass u) j ≡ some v → F j v
each_set F views pass u mine others j v e =
    ⊎_elim (λ (x : (j ≡ pass) × (u ≡ v)). subst (λ (y : ℕ × Knows). F y.0 y.1) (λ i. (sym x.0 i, x.1 i)) mine)
    (λ (x : (j ≢ pass) × (get_elem? views j ≡ some v)). others j v x.0 x.1) (at_set views pass j u v e)

at_end : (l : List Knows) (a b : Knows) (j : ℕ) → get_elem? (l ++ a ∷ []) j ≡ some b → (get_elem? l j ≡ some b) ⊎ ((j ≡ length l) × (a ≡ b))
at_end [] a b zero e = inr (refl, some-injective a b e)
at_end [] a b (suc j) e = absurd (some-ne-none b (sym e))
at_end (x ∷ xs) a b zero e = inl e
at_end (x ∷ xs) a b (suc j) e = ⊎_elim inl (λ t. inr (ap suc t.0, t.1)) (at_end xs a b j e)

abbrev HeldBy : (ℕ → ℕ) → ℕ → Sent → Type 0
HeldBy holder pass s = holder s.sender ≡ pass

abbrev IsAllOf : List Request → Sent → Type 0
IsAllOf all s = s.accepted ≡ of s.sender all

each_of : (P Q R : Sent → Type 0) (sent : List Sent) → All P sent → All Q sent → ((s : Sent) → P s → Q s → R s) → All R sent
each_of P Q R sent p q f k d h = f _ (p k d h) (q k d h)

-- a pass fits still, where the senders that it has are with it still
fits_still : (holder holder' : ℕ → ℕ) (taker : ℕ) (taken items : List Request) (pass : ℕ) (v : Knows) → ((w : ℕ) → holder w ≡ pass → holder' w ≡ pass)
    → Fits holder taker taken items pass v → Fits holder' taker taken items pass v
fits_still holder holder' taker taken items pass v still fits = (All-weaker (HeldBy holder pass) (HeldBy holder' pass) (λ s is. still s.sender is) v.sent fits.0, fits.1, fits.2)

-- the requests of one sender

pub of_more : (w : ℕ) (rs : List Request) (x : Request) → x.writer ≡ w → of w (rs ++ x ∷ []) ≡ of w rs ++ x ∷ []
of_more w rs x e = filter-append (λ (r : Request). eqb r.writer w) rs (x ∷ []) ∙ ap (λ b. of w rs ++ cond b (x ∷ []) []) (eq-eqb x.writer w e)

pub of_other : (w : ℕ) (rs : List Request) (x : Request) → x.writer ≢ w → of w (rs ++ x ∷ []) ≡ of w rs
of_other w rs x n =
    filter-append (λ (r : Request). eqb r.writer w) rs (x ∷ []) ∙ ap (λ b. of w rs ++ cond b (x ∷ []) []) (ne_eqb x.writer w n) ∙ append-nil (of w rs)

known : (w : ℕ) → 0 < w → w ≤ 10 → IsStranger w → ⊥
known w low high (inl e) = omega arith
known w low high (inr far) = omega arith

-- the steps

pub hands_in : (n pass w : ℕ) (rs : List Request) (x : Request) → x.writer ≡ w → 0 < w → w ≤ 10 → Pushes InOrder n pass (hand_knows w rs) x (HandsIn (hand_knows w rs) x)
hands_in n pass w rs x by low high items views _ h at =
    let u : Knows = hand_knows w (rs ++ x ∷ []) in
    let holder : ℕ → ℕ = h.holder in
    let now : List Request = h.taken ++ items in
    let next : List Request = h.taken ++ (items ++ x ∷ []) in
    let longer : now ++ x ∷ [] ≡ next = append_assoc h.taken items (x ∷ []) in
    let mine = h.passes pass (hand_knows w rs) at in
    let held : holder w ≡ pass = All-head (HeldBy holder pass) (sent_by w rs) [] mine.0 in
    let told : rs ≡ of w now = All-head (IsAllOf now) (sent_by w rs) [] mine.1 in
    let told' : rs ++ x ∷ [] ≡ of w next = ap (λ l. l ++ x ∷ []) told ∙ sym (of_more w now x by) ∙ ap (of w) longer in (
      u,
      record {
        holder = holder;
        taker = h.taker;
        taken = h.taken;
        strangers = λ o far. ap (of o) (sym longer) ∙ of_other o now x (λ same. known w low high (subst IsStranger (sym same ∙ by) far)) ∙ h.strangers o far;
        passes = each_set (Fits holder h.taker h.taken (items ++ x ∷ [])) views pass u
            (All-cons (HeldBy holder pass) (sent_by w (rs ++ x ∷ [])) [] held (All-nil (HeldBy holder pass)), All-cons (IsAllOf next) (sent_by w (rs ++ x ∷ [])) [] told' (All-nil (IsAllOf next)), λ t. absurd (true≢false (sym t)))
            (λ j v other e. let its = h.passes j v e in (
              its.0,
              each_of (HeldBy holder j) (IsAllOf now) (IsAllOf next) v.sent its.0 its.1 (λ s holds is. is ∙ sym (of_other s.sender now x (λ same. other (sym holds ∙ ap holder (sym same ∙ by) ∙ held))) ∙ ap (of s.sender) longer),
              its.2,
            ));
      },
      refl,
    )

moved : (taken items : List Request) (x : Request) (sent : List Sent) → Told (taken ++ x ∷ items) sent → Told ((taken ++ x ∷ []) ++ items) sent
moved taken items x sent t = subst (λ l. Told l sent) (sym (append_assoc taken (x ∷ []) items)) t

pub takes : (pass : ℕ) (v : Knows) → v.takes ≡ true → Pops InOrder pass v (Takes v)
takes pass v may x items views h at =
    let u : Knows = knows v.takes (v.taken ++ x ∷ []) v.sent in
    let taken : List Request = h.taken ++ x ∷ [] in
    let mine = h.passes pass v at in (
      u,
      record {
        holder = h.holder;
        taker = h.taker;
        taken = taken;
        strangers = λ o far. ap (of o) (append_assoc h.taken (x ∷ []) items) ∙ h.strangers o far;
        passes = each_set (Fits h.holder h.taker taken items) views pass u
            (mine.0, moved h.taken items x v.sent mine.1, λ _. ((mine.2 may).0, ap (λ l. l ++ x ∷ []) (mine.2 may).1))
            (λ j y other e. let its = h.passes j y e in (its.0, moved h.taken items x y.sent its.1, λ t. absurd (other ((its.2 t).0 ∙ sym (mine.2 may).0))));
      },
      refl,
    )

parts : (pass : ℕ) (may : Bool) (taken : List Request) (s : Sent) (rest : List Sent) → All (λ (t : Sent). t.sender ≢ s.sender) rest
    → Forks InOrder pass (knows may taken (s ∷ rest)) (knows may taken rest) (knows false [] (s ∷ []))
parts pass may taken s rest apart items views h at =
    let v : Knows = knows may taken (s ∷ rest) in
    let left : Knows = knows may taken rest in
    let right : Knows = knows false [] (s ∷ []) in
    let vs : List Knows = set views pass left in
    let all : List Request = h.taken ++ items in
    let holder : ℕ → ℕ = h.holder in
    let holder' : ℕ → ℕ = λ w. cond (eqb w s.sender) (length vs) (holder w) in
    let other : (w : ℕ) → w ≢ s.sender → holder' w ≡ holder w = λ w n. cond-false _ _ _ (ne_eqb w s.sender n) in
    let mine = h.passes pass v at in
    let held : holder s.sender ≡ pass = All-head (HeldBy holder pass) s rest mine.0 in
    let told : s.accepted ≡ of s.sender all = All-head (IsAllOf all) s rest mine.1 in
    let new : Fits holder' h.taker h.taken items (length vs) right = (
      All-cons (HeldBy holder' (length vs)) s [] (cond-true _ _ _ (eq-eqb s.sender s.sender refl)) (All-nil (HeldBy holder' (length vs))),
      All-cons (IsAllOf all) s [] told (All-nil (IsAllOf all)),
      λ t. absurd (true≢false (sym t)),
    ) in
    record {
      holder = holder';
      taker = h.taker;
      taken = h.taken;
      strangers = h.strangers;
      passes = λ j y e. ⊎_elim
          (each_set (Fits holder' h.taker h.taken items) views pass left (
            each_of (λ (t : Sent). t.sender ≢ s.sender) (HeldBy holder pass) (HeldBy holder' pass) rest apart (All-tail (HeldBy holder pass) s rest mine.0) (λ t n is. other t.sender n ∙ is),
            All-tail (IsAllOf all) s rest mine.1,
            mine.2,
          )
          (λ j y else e. fits_still holder holder' h.taker h.taken items j y (λ w is. other w (λ same. else (sym is ∙ ap holder same ∙ held)) ∙ is) (h.passes j y e)) j y)
          (λ (is : (j ≡ length vs) × (right ≡ y)). subst (λ (z : ℕ × Knows). Fits holder' h.taker h.taken items z.0 z.1) (λ i. (sym is.0 i, is.1 i)) new) (at_end vs right y j e);
    }

pub forks : (pass : ℕ) (v : Knows) (s : Sent) (rest : List Sent) → v ≡ knows v.takes v.taken (s ∷ rest) → All (λ (t : Sent). t.sender ≢ s.sender) rest
    → Forks InOrder pass v (without_first v) (first_alone v)
forks pass v s rest is apart = subst (λ (x : Knows). Forks InOrder pass x (without_first x) (first_alone x)) (sym is) (parts pass v.takes v.taken s rest apart)

pub merges : (pass : ℕ) (v : Knows) (other : ℕ) (u : Knows) → Merges InOrder pass v other u (joined v u) (knows false [] [])
merges pass v other u items views h at two at' =
    let both : Knows = joined v u in
    let spent : Knows = knows false [] [] in
    let vs : List Knows = set views pass both in
    let holder : ℕ → ℕ = h.holder in
    let holder' : ℕ → ℕ = λ w. cond (eqb (holder w) other) pass (holder w) in
    let apart : (w : ℕ) → holder w ≢ other → holder' w ≡ holder w = λ w n. cond-false _ _ _ (ne_eqb (holder w) other n) in
    let came : (w : ℕ) → holder w ≡ other → holder' w ≡ pass = λ w is. cond-true _ _ _ (eq-eqb (holder w) other is) in
    let was : get_elem? views other ≡ some u = ⊎_elim (λ x. absurd (two x.0)) (λ x. x.1) (at_set views pass other both u at') in
    let mine = h.passes pass v at in
    let theirs = h.passes other u was in
    let F : ℕ → Knows → Type 0 = Fits holder' h.taker h.taken items in
    let Now : ℕ → Knows → Type 0 = λ j y. j ≢ other → F j y in
    let all : List Request = h.taken ++ items in
    let of_both : F pass both = (
      All-append (HeldBy holder' pass) v.sent u.sent (All-weaker (HeldBy holder pass) (HeldBy holder' pass) (λ t is. apart t.sender (λ same. two (sym same ∙ is)) ∙ is) v.sent mine.0)
          (All-weaker (HeldBy holder other) (HeldBy holder' pass) (λ t is. came t.sender is) u.sent theirs.0),
      All-append (IsAllOf all) v.sent u.sent mine.1 theirs.1,
      mine.2,
    ) in
    record {
      holder = holder';
      taker = h.taker;
      taken = h.taken;
      strangers = h.strangers;
      passes = each_set F vs other spent (All-nil (HeldBy holder' other), All-nil (IsAllOf all), λ t. absurd (true≢false (sym t)))
          (λ j y n e. each_set Now views pass both (λ _. of_both)
          (λ j y _ e n. fits_still holder holder' h.taker h.taken items j y (λ w is. apart w (λ same. n (sym is ∙ same)) ∙ is) (h.passes j y e)) j y e n);
    }

pub learns : (pass : ℕ) (v : Knows) → Learns InOrder pass v (Learned v)
learns pass v items views h at = let mine = h.passes pass v at in record { taken = h.taken; told = mine.1; strangers = h.strangers; same = λ t. (mine.2 t).1 }

-- the beginning

pub silent_told : (w n : ℕ) → Told [] (silent w n)
silent_told w zero = All-nil (IsAllOf [])
silent_told w (suc n) = All-cons (IsAllOf []) (sent_by w []) (silent (w + 1) n) refl (silent_told (w + 1) n)

alone : (v w : Knows) (j : ℕ) → get_elem? (v ∷ []) j ≡ some w → (j ≡ 0) × (v ≡ w)
alone v w zero e = (refl, some-injective v w e)
alone v w (suc j) e = absurd (some-ne-none w (sym e))

pub begins : InOrder [] (maker_knows ∷ [])
begins =
    let P : Sent → Type 0 = λ t. t.accepted ≡ of t.sender [] in
    let rest : List Sent = silent 1 8 in
    let mine : Fits (λ _. 0) 0 [] [] 0 maker_knows = ((λ k d h. refl), All-cons P (sent_by 9 []) (sent_by 10 [] ∷ rest) refl (All-cons P (sent_by 10 []) rest refl (silent_told 1 8)), λ _. (refl, refl)) in
    record {
      holder = λ _. 0;
      taker = 0;
      taken = [];
      strangers = λ _ _. refl;
      passes = λ j v e. let is = alone maker_knows v j e in subst (λ (z : ℕ × Knows). Fits (λ _. 0) 0 [] [] z.0 z.1) (λ i. (sym is.0 i, is.1 i)) mine;
    }

-- what a hand learns where its line is full
pub was_full : (capacity w : ℕ) (v : Knows) → v ≡ hand_knows w (accepted_of v) → Held capacity (Learned v) → WasFull capacity w (accepted_of v)
was_full capacity w v is h =
    let all : List Request = h.2.taken ++ h.0 in
    let told : Told all (hand_knows w (accepted_of v)).sent = subst (λ (u : Knows). Told all u.sent) is h.2.told in
    (h.2.taken, h.0, h.1, All-head (IsAllOf all) (sent_by w (accepted_of v)) [] told)

-- a hand's pass may hand in
pub may_hand_in : (n pass w : ℕ) (v : Knows) (x : Request) → v ≡ hand_knows w (accepted_of v) → x.writer ≡ w → (0 < w) × (w ≤ 10) → Pushes InOrder n pass v x (HandsIn v x)
may_hand_in n pass w v x is by range = subst (λ (u : Knows). Pushes InOrder n pass u x (HandsIn u x)) (sym is) (hands_in n pass w (accepted_of v) x by range.0 range.1)
