-- A step on one ring of several.
use Rattle.std.proofs.Common.{◌≡◌, ◌≢◌, ℕ, zero, suc, ◌+◌, ◌-◌, ◌<◌, ◌≤◌, Bool, true, false, cond, eqb, List, [], ◌∷◌, ◌++◌, map, length, get_or, set, sym, refl, ap, ap₂, ◌∙◌, subst, ⊎_elim, append-nil, arith, Option, Some, None, IfNone, vec_len}
use Rattle.std.specs.List.{All, range_with_len}
use Rattle.std.proofs.lemmas.Bool.{ne_eqb, cond-true, cond-false}
use Rattle.std.proofs.lemmas.Bool.Decides.{eqb_tells}
use Rattle.std.proofs.lemmas.List.Elements.{All-nil, All-cons, All-weaker, All-append, All-get_or}
use mathlib.Core.List.{map-map}
use Rattle.jffs_line.specs.declared.request.Request.{Request}
use Rattle.jffs_line.specs.declared.rings.Ring.{Ring}
use Rattle.jffs_line.specs.declared.rings.RingTaker.{RingTaker}
use Rattle.jffs_line.specs.Line.{End, senders}
use Rattle.jffs_line.specs.Requests.{of}
use Rattle.jffs_line.specs.Rings.{ring_end, ring_taken, taken_in, Apart}
use Rattle.jffs_line.proofs.Lists.{All-mapped}

later : (k n : ℕ) → All (λ (m : ℕ). k < m) (range_with_len (k + 1) n)
later k zero = All-nil (λ (m : ℕ). k < m)
later k (suc n) =
    All-cons (λ (m : ℕ). k < m) (k + 1) (range_with_len (k + 1 + 1) n) (omega arith)
    (All-weaker (λ (m : ℕ). k + 1 < m) (λ (m : ℕ). k < m) (λ m h. omega arith) (range_with_len (k + 1 + 1) n) (later (k + 1) n))

apart_from : (k n : ℕ) → k + n ≤ 9 → Apart (range_with_len k n ++ 9 ∷ 10 ∷ [])
apart_from k zero h = (All-cons (λ (m : ℕ). m ≢ 9) 10 [] (λ e. omega arith) (All-nil (λ (m : ℕ). m ≢ 9)), (All-nil (λ (m : ℕ). m ≢ 10), tt))
apart_from k (suc n) h =
    let P : ℕ → Type 0 = λ m. m ≢ k in
    let front : All P (range_with_len (k + 1) n) = All-weaker (λ (m : ℕ). k < m) P (λ m more same. omega arith) (range_with_len (k + 1) n) (later k n) in
    let back : All P (9 ∷ 10 ∷ []) = All-cons P 9 (10 ∷ []) (λ e. omega arith) (All-cons P 10 [] (λ e. omega arith) (All-nil P)) in
    (All-append P (range_with_len (k + 1) n) (9 ∷ 10 ∷ []) front back, apart_from (k + 1) n (omega arith))

pub apart_senders : (n : ℕ) → n ≤ 8 → Apart (senders n)
apart_senders n h = apart_from 1 n (omega arith)

abbrev pub numbers : List Ring → List ℕ
numbers rs = map (λ (r : Ring). r.number) rs

pub ends_kept : (rs : List Ring) (i : ℕ) (r new : Ring) → i < length rs → r ≡ get_or rs i r → ring_end new ≡ ring_end r → map ring_end (set rs i new) ≡ map ring_end rs
ends_kept [] i r new h is e = refl
ends_kept (x ∷ rs) zero r new h is e = ap (λ (y : End). y ∷ map ring_end rs) (e ∙ ap ring_end is)
ends_kept (x ∷ rs) (suc i) r new h is e = ap (λ (l : List End). ring_end x ∷ l) (ends_kept rs i r new (omega arith) is e)

pub numbers_kept : (rs : List Ring) (i : ℕ) (r new : Ring) → i < length rs → r ≡ get_or rs i r → ring_end new ≡ ring_end r → numbers (set rs i new) ≡ numbers rs
numbers_kept rs i r new h is e =
    sym (map-map (λ (y : End). y.0) ring_end (set rs i new)) ∙ ap (map (λ (y : End). y.0)) (ends_kept rs i r new h is e) ∙ map-map (λ (y : End). y.0) ring_end rs

pub taken_kept : (rs : List Ring) (i : ℕ) (r new : Ring) → i < length rs → r ≡ get_or rs i r → ring_end new ≡ ring_end r → ring_taken new ≡ ring_taken r
    → (w : ℕ) → taken_in w (set rs i new) ≡ taken_in w rs
taken_kept [] i r new h is e t w = refl
taken_kept (x ∷ rs) zero r new h is e t w =
    ap₂ (λ (n : ℕ) (l : List Request). cond (eqb n w) l (taken_in w rs)) (ap (λ (y : End). y.0) e ∙ ap (λ (y : Ring). y.number) is) (t ∙ ap ring_taken is)
taken_kept (x ∷ rs) (suc i) r new h is e t w = ap (cond (eqb x.number w) (ring_taken x)) (taken_kept rs i r new (omega arith) is e t w)

at_head : (b : Bool) (old : List Request) (rest : List Request) (x : Request) → cond b (old ++ x ∷ []) rest ≡ cond b old rest ++ cond b (x ∷ []) []
at_head true old rest x = refl
at_head false old rest x = sym (append-nil rest)

pub taken_more : (rs : List Ring) (i : ℕ) (r new : Ring) (x : Request) → Apart (numbers rs) → i < length rs → r ≡ get_or rs i r → ring_end new ≡ ring_end r
    → x.writer ≡ r.number → ring_taken new ≡ ring_taken r ++ x ∷ [] → (w : ℕ) → taken_in w (set rs i new) ≡ taken_in w rs ++ of w (x ∷ [])
taken_more [] i r new x apart h is e by t w = absurd (omega arith)
taken_more (y ∷ rs) zero r new x apart h is e by t w =
    let number : new.number ≡ y.number = ap (λ (z : End). z.0) e ∙ ap (λ (z : Ring). z.number) is in
    let writer : x.writer ≡ y.number = by ∙ ap (λ (z : Ring). z.number) is in
    let more : ring_taken new ≡ ring_taken y ++ x ∷ [] = t ∙ ap (λ (z : Ring). ring_taken z ++ x ∷ []) is in
    ap₂ (λ (n : ℕ) (l : List Request). cond (eqb n w) l (taken_in w rs)) number more
    ∙ at_head (eqb y.number w) (ring_taken y) (taken_in w rs) x
    ∙ ap (λ (n : ℕ). taken_in w (y ∷ rs) ++ cond (eqb n w) (x ∷ []) []) (sym writer)
taken_more (y ∷ rs) (suc i) r new x apart h is e by t w =
    let P : Ring → Type 0 = λ z. z.number ≢ y.number in
    let other : r.number ≢ y.number = subst P (sym is) (All-get_or P rs i r (omega arith) (All-mapped (λ (m : ℕ). m ≢ y.number) (λ (z : Ring). z.number) rs apart.0)) in
    let rest = taken_more rs i r new x apart.1 (omega arith) is e by t w in
    ⊎_elim (λ (here : (eqb y.number w ≡ true) × (y.number ≡ w)).
    let not_x : eqb x.writer w ≡ false = ne_eqb x.writer w (λ same. other (sym by ∙ same ∙ sym here.1)) in
    cond-true _ _ _ here.0
    ∙ sym (append-nil (ring_taken y))
    ∙ ap₂ (λ b c. cond b (ring_taken y) (taken_in w rs) ++ cond c (x ∷ []) []) (sym here.0) (sym not_x))
    (λ (there : (eqb y.number w ≡ false) × (y.number ≢ w)).
    cond-false _ _ _ there.0 ∙ rest
    ∙ ap (λ b. cond b (ring_taken y) (taken_in w rs) ++ of w (x ∷ [])) (sym there.0))
    (eqb_tells y.number w)

pub if_none : (P Q : Type 0) (o : Option Request) → (P → Q) → IfNone o P → IfNone o Q
if_none P Q (Some r) f h = h
if_none P Q None f h = f h

pub within : (t : RingTaker) (i : ℕ) → i < vec_len t.rings → i < length t.rings.items
within t i h = omega (arith, t.rings.ok.0)

pub apart : (t : RingTaker) → Apart (numbers t.rings.items)
apart t = let few = t.few in subst Apart (sym t.known) (apart_senders (vec_len t.rings - 2) (omega arith))
