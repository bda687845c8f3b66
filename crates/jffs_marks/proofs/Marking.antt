-- Marks, one change after another.
use Rattle.std.proofs.Common.{◌≡◌, ℕ, zero, suc, ◌+◌, ◌<◌, ◌≤◌, Bool, true, false, cond, ◌&&◌, eqb, ◌⊎◌, inl, inr, Option, refl, sym, ap, subst, ◌∙◌, arith, ⊎_elim, nat_cmp}
use Rattle.std.specs.Option.{unwrap_or}
use Rattle.std.specs.Ordering.{is_eq, is_gt, ordering_then}
use Rattle.std.specs.declared.cmp.Ordering.TheVariants.{Less, Equal, Greater}
use Rattle.std.specs.Cmp.{tied_then, tied_itself, nat_cmp_total, unsigned_tied}
use Rattle.std.specs.Map.{lookup}
use Rattle.std.specs.BTreeMap.{is_at}
use Rattle.std.proofs.lemmas.Bool.{cases_Bool, cases_eq, and_parts, eqb-true, eq-eqb, lt-ltb}
use Rattle.std.proofs.lemmas.Bool.Decides.{nat_tests}
use Rattle.jffs_marks.specs.Marks.{MarkKey, Counts, mark_key, mark_cmp, mark_of, HaveMore, SameMarks}
use Rattle.jffs_marks.proofs.Order.{then_low, nat_low, zero_low}

pub same_either_way : (a b : ℕ) → eqb a b ≡ eqb b a
same_either_way a b = grind (arith, nat_tests)

-- two keys are one where their parts are
pub mark_tied : (a b : MarkKey) → is_at (mark_cmp a) b ≡ (eqb b.0.0 a.0.0 && eqb b.1 a.1)
mark_tied a b =
    sym (tied_then (nat_cmp b.0.0 a.0.0) (nat_cmp a.1 b.1))
    ∙ ap (λ t. t && is_eq (nat_cmp a.1 b.1)) (unsigned_tied b.0.0 a.0.0)
    ∙ ap (λ t. eqb b.0.0 a.0.0 && t) (unsigned_tied a.1 b.1 ∙ same_either_way a.1 b.1)

unwrapped : (b : Bool) (x y : Option ℕ) → unwrap_or (cond b x y) 0 ≡ cond b (unwrap_or x 0) (unwrap_or y 0)
unwrapped true x y = refl
unwrapped false x y = refl

-- what is said of one version in one inode, and at all others
pub at_one : (P : Bool → ℕ → ℕ → Type 0) (v0 i0 : ℕ) → P true v0 i0 → ((v i : ℕ) → (eqb v v0 && eqb i i0) ≡ false → P false v i) → (v i : ℕ) → P (eqb v v0 && eqb i i0) v i
at_one P v0 i0 here others v i = ⊎_elim
    (λ same.
    let at = and_parts (eqb v v0) (eqb i i0) same in
    let a : v0 ≡ v = sym (eqb-true v v0 at.0) in
    let b : i0 ≡ i = sym (eqb-true i i0 at.1) in
    subst (λ t. P t v i) (sym same) (subst (λ k. P true v k) b (subst (λ k. P true k i0) a here)))
    (λ other. subst (λ t. P t v i) (sym other) (others v i other))
    (cases_Bool (eqb v v0 && eqb i i0))

module _ (m n : Counts) (v0 i0 : ℕ) (w : Option ℕ) (updates : (q : MarkKey) → lookup (is_at (mark_cmp q)) n ≡ cond (is_at (mark_cmp (mark_key v0 i0)) q) w (lookup (is_at (mark_cmp q)) m)) where
  set_mark : (v i : ℕ) → mark_of n v i ≡ cond (eqb v v0 && eqb i i0) (unwrap_or w 0) (mark_of m v i)
  set_mark v i =
      ap (λ o. unwrap_or o 0) (updates (mark_key v i))
      ∙ ap (λ b. unwrap_or (cond b w (lookup (is_at (mark_cmp (mark_key v i))) m)) 0) (mark_tied (mark_key v0 i0) (mark_key v i))
      ∙ unwrapped (eqb v v0 && eqb i i0) w (lookup (is_at (mark_cmp (mark_key v i))) m)

  here : mark_of n v0 i0 ≡ unwrap_or w 0
  here = set_mark v0 i0 ∙ ap (λ b. cond (b && eqb i0 i0) (unwrap_or w 0) (mark_of m v0 i0)) (eq-eqb v0 v0 refl) ∙ ap (λ b. cond b (unwrap_or w 0) (mark_of m v0 i0)) (eq-eqb i0 i0 refl)

  elsewhere : (v i : ℕ) → (eqb v v0 && eqb i i0) ≡ false → mark_of n v i ≡ mark_of m v i
  elsewhere v i other = set_mark v i ∙ ap (λ b. cond b (unwrap_or w 0) (mark_of m v i)) other

  pub added : (c : ℕ) → unwrap_or w 0 ≡ mark_of m v0 i0 + c → HaveMore m n v0 i0 c
  added c is = at_one (λ t v i. mark_of m v i + cond t c 0 ≡ mark_of n v i) v0 i0 (omega (arith, here, is)) (λ v i other. omega (arith, elsewhere v i other))

  pub taken : (c : ℕ) → unwrap_or w 0 + c ≡ mark_of m v0 i0 → HaveMore n m v0 i0 c
  taken c is = at_one (λ t v i. mark_of n v i + cond t c 0 ≡ mark_of m v i) v0 i0 (omega (arith, here, is)) (λ v i other. omega (arith, elsewhere v i other))

-- The same marks before or after.
pub raised_from : (a m n : Counts) (v i c : ℕ) → SameMarks a m → HaveMore m n v i c → HaveMore a n v i c
raised_from a m n v i c same more w j = ap (λ x. x + cond (eqb w v && eqb j i) c 0) (sym (same w j)) ∙ more w j

pub lowered_to : (m n f : Counts) (v i c : ℕ) → HaveMore n m v i c → SameMarks n f → HaveMore f m v i c
lowered_to m n f v i c more same w j = ap (λ x. x + cond (eqb w v && eqb j i) c 0) (same w j) ∙ more w j

pub none_more : (m : Counts) (v i c : ℕ) → c ≡ 0 → HaveMore m m v i c
none_more m v i c none w j = ap (λ x. mark_of m w j + cond (eqb w v && eqb j i) x 0) none ∙ nothing (eqb w v && eqb j i) (mark_of m w j)
  where
    nothing : (b : Bool) (x : ℕ) → x + cond b 0 0 ≡ x
    nothing true x = omega arith
    nothing false x = omega arith

-- More marks of a version in an inode, seen from that inode and from another.
module _ (m n : Counts) (v0 i0 c : ℕ) (more : HaveMore m n v0 i0 c) where
  pub more_here : (v : ℕ) → mark_of m v i0 + cond (eqb v v0) c 0 ≡ mark_of n v i0
  more_here v = sym (own (eqb v v0) (eqb i0 i0) (eq-eqb i0 i0 refl)) ∙ more v i0
    where
      own : (b t : Bool) → t ≡ true → mark_of m v i0 + cond (b && t) c 0 ≡ mark_of m v i0 + cond b c 0
      own true t e = ap (λ x. mark_of m v i0 + cond x c 0) e
      own false t e = refl

  pub more_elsewhere : (v i : ℕ) → eqb i i0 ≡ false → mark_of m v i ≡ mark_of n v i
  more_elsewhere v i other = sym (none (eqb v v0) (eqb i i0) other) ∙ more v i
    where
      none : (b t : Bool) → t ≡ false → mark_of m v i + cond (b && t) c 0 ≡ mark_of m v i
      none true t e = ap (λ x. mark_of m v i + cond x c 0) e ∙ omega arith
      none false t e = omega arith

-- The order of keys.
pub mark_low : (a b : MarkKey) → is_gt (mark_cmp a b) ≡ false → b.0.0 ≤ a.0.0
mark_low a b h = nat_low b.0.0 a.0.0 (then_low (nat_cmp b.0.0 a.0.0) (nat_cmp a.1 b.1) h)

pub mark_second : (a b : MarkKey) → a.0.0 ≡ b.0.0 → is_gt (mark_cmp a b) ≡ false → a.1 ≤ b.1
mark_second a b e h = nat_low a.1 b.1 (sym (ap (λ o. is_gt (ordering_then o (nat_cmp a.1 b.1))) (ap (λ x. nat_cmp b.0.0 x) e ∙ tied_itself nat_cmp_total b.0.0)) ∙ h)

pub mark_from : (v : ℕ) (q : MarkKey) → q.0.0 ≤ v → is_gt (mark_cmp (mark_key v 0) q) ≡ false
mark_from v q l = ⊎_elim
    (λ same. ap (λ x. is_gt (ordering_then (nat_cmp q.0.0 x) (nat_cmp 0 q.1))) same ∙ ap (λ o. is_gt (ordering_then o (nat_cmp 0 q.1))) (tied_itself nat_cmp_total q.0.0) ∙ zero_low q.1)
    (λ apart. ap (λ t. is_gt (ordering_then (cond t Less (cond (eqb q.0.0 v) Equal Greater)) (nat_cmp 0 q.1))) (lt-ltb q.0.0 v (omega (arith, l, apart))))
    (cases_eq v q.0.0)

pub mark_newer : (a b : MarkKey) → b.0.0 < a.0.0 → mark_cmp a b ≡ Less
mark_newer a b l = ap (λ t. ordering_then (cond t Less (cond (eqb b.0.0 a.0.0) Equal Greater)) (nat_cmp a.1 b.1)) (lt-ltb b.0.0 a.0.0 l)

pub zero_or_more : (n : ℕ) → (n ≡ 0) ⊎ (0 < n)
zero_or_more zero = inl refl
zero_or_more (suc n) = inr (omega arith)
