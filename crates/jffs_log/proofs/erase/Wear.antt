-- Erases go around the ring of sectors.
use Rattle.std.proofs.Common.{◌≡◌, ◌≢◌, inl, inr, ℕ, zero, suc, ◌+◌, ◌-◌, ◌^◌, ◌<◌, ◌≤◌, eqb, ltb, min, refl, ap, subst, ◌∙◌, arith}
use Rattle.std.proofs.lemmas.Bool.{cond-true, cond-false, cases_eq, cases_lt, eq-eqb, ne_eqb, lt-ltb, le-ltb}
use Rattle.jffs_log.specs.Ring.{IsAt, IsNext}
use Rattle.jffs_log.specs.declared.log_index.LogIndex.{LogIndex}
use Rattle.jffs_log.proofs.ring.Ring.{at_once}
use Rattle.jffs_log.specs.Wear.{sector_after, sector_after_each, erases_of, ErasedInTurn, WearIsEven, TurnsGoOn}

-- the last sector is followed by the first, each other by the next
after_last : (count k : ℕ) → count ≤ k + 1 → sector_after count k ≡ 0
after_last count k last = cond-false (ltb (k + 1) count) (k + 1) 0 (le-ltb (k + 1) count last)

after_other : (count k : ℕ) → k + 1 < count → sector_after count k ≡ k + 1
after_other count k other = cond-true (ltb (k + 1) count) (k + 1) 0 (lt-ltb (k + 1) count other)

-- one step around the ring
pub next_after : (first count : ℕ) → first < count → IsNext first count (sector_after count first)
next_after first count inside = elim (cases_lt (first + 1) count) [
  | inl below ↦ let e = after_other count first below in inl (e, omega arith)
  | inr last ↦ inr (omega arith, after_last count first last)
]

-- So far `rounds` rounds are over, and in the next one those sectors were erased that are less than
-- `steps` after the first.
record Around (count first many : ℕ) : Type 0 where
  rounds : ℕ
  steps : ℕ
  short : steps < count
  at : IsAt first count steps (sector_after_each count first many)
  done : (e k : ℕ) → e < steps → IsAt first count e k → erases_of count first many k ≡ rounds + 1
  rest : (e k : ℕ) → steps ≤ e → e < count → IsAt first count e k → erases_of count first many k ≡ rounds

-- each sector is some steps after the first
steps_to : (first count k : ℕ) → first < count → k < count → (e : ℕ) × (e < count) × IsAt first count e k
steps_to first count k inside below = elim (cases_lt k first) [
  | inl before ↦ (k + count - first, omega arith, inr (omega arith, before))
  | inr there ↦ (k - first, omega arith, inl (omega arith, below))
]

-- and others aren't
other_steps : (first count d e k : ℕ) → d < count → e < count → d ≢ e → IsAt first count d k → IsAt first count e k → ⊥
other_steps first count d e k u v other (inl a) (inl b) = other (omega arith)
other_steps first count d e k u v other (inl a) (inr b) = omega arith
other_steps first count d e k u v other (inr a) (inl b) = omega arith
other_steps first count d e k u v other (inr a) (inr b) = other (omega arith)

-- the step after this one
step_on : (first count d c : ℕ) → first < count → d + 1 < count → IsAt first count d c → IsAt first count (d + 1) (sector_after count c)
step_on first count d c inside short (inl at) = elim (cases_lt (c + 1) count) [
  | inl other ↦ inl (let e = after_other count c other in omega arith, let e = after_other count c other in omega arith)
  | inr last ↦ inr (let e = after_last count c last in omega arith, let e = after_last count c last in omega arith)
]
step_on first count d c inside short (inr at) =
    let e = after_other count c (omega arith) in inr (omega arith, omega arith)

step_round : (first count d c : ℕ) → first < count → d + 1 ≡ count → IsAt first count d c → IsAt first count 0 (sector_after count c)
step_round first count d c inside full (inl at) = let e = after_last count c (omega arith) in inl (omega arith, omega arith)
step_round first count d c inside full (inr at) = let e = after_other count c (omega arith) in inl (omega arith, omega arith)

-- one erase more of the sector itself, none of another
one_more : (count first many k : ℕ) → sector_after_each count first many ≡ k → erases_of count first (suc many) k ≡ 1 + erases_of count first many k
one_more count first many k same =
    ap (λ (n : ℕ). n + erases_of count first many k) (cond-true (eqb (sector_after_each count first many) k) 1 0 (eq-eqb _ _ same))

none_more : (count first many k : ℕ) → sector_after_each count first many ≢ k → erases_of count first (suc many) k ≡ erases_of count first many k
none_more count first many k other =
    let none : erases_of count first (suc many) k ≡ 0 + erases_of count first many k =
    ap (λ (n : ℕ). n + erases_of count first many k) (cond-false (eqb (sector_after_each count first many) k) 1 0 (ne_eqb _ _ other)) in
    omega arith

around_more : (count first many : ℕ) → first < count → Around count first many → Around count first (suc many)
around_more count first many inside a = elim (cases_eq (a.steps + 1) count) [
  | inl full ↦ record {
    rounds = a.rounds + 1;
    steps = 0;
    short = omega arith;
    at = step_round first count a.steps c inside full a.at;
    done = λ e k low there. absurd (omega arith);
    rest = λ e k low high there. elim (cases_eq a.steps e) [
      | inl last ↦ let more = more_of e k last there in let before = a.rest e k (omega arith) high there in omega arith
      | inr other ↦ let none = none_of e k high other there in let before = a.done e k (short_of e high other full) there in none ∙ before
    ];
  }
  | inr going ↦ let short = a.short in record {
    rounds = a.rounds;
    steps = a.steps + 1;
    short = not_last short going;
    at = step_on first count a.steps c inside (not_last short going) a.at;
    done = λ e k low there. elim (cases_eq a.steps e) [
      | inl last ↦ let more = more_of e k last there in let before = a.rest e k (omega arith) (omega arith) there in omega arith
      | inr other ↦ none_of e k (omega arith) other there ∙ a.done e k (below_of e low other) there
    ];
    rest = λ e k low high there. none_of e k high (λ same. omega arith) there ∙ a.rest e k (omega arith) high there;
  }
]
  where
    c : ℕ
    c = sector_after_each count first many

    more_of : (e k : ℕ) → a.steps ≡ e → IsAt first count e k → erases_of count first (suc many) k ≡ 1 + erases_of count first many k
    more_of e k last there = one_more count first many k (at_once first count e c k (subst (λ (n : ℕ). IsAt first count n c) last a.at) there)

    none_of : (e k : ℕ) → e < count → a.steps ≢ e → IsAt first count e k → erases_of count first (suc many) k ≡ erases_of count first many k
    none_of e k below other there =
        none_more count first many k (λ same. other_steps first count a.steps e k a.short below other (subst (IsAt first count a.steps) same a.at) there)

    not_last : a.steps < count → a.steps + 1 ≢ count → a.steps + 1 < count
    not_last short going = elim (cases_lt (a.steps + 1) count) [ inl low ↦ low | inr high ↦ absurd (going (omega arith)) ]

    short_of : (e : ℕ) → e < count → a.steps ≢ e → a.steps + 1 ≡ count → e < a.steps
    short_of e high other full = elim (cases_lt e a.steps) [ inl low ↦ low | inr up ↦ absurd (other (omega arith)) ]

    below_of : (e : ℕ) → e < a.steps + 1 → a.steps ≢ e → e < a.steps
    below_of e low other = elim (cases_lt e a.steps) [ inl low ↦ low | inr up ↦ absurd (other (omega arith)) ]

around : (count first many : ℕ) → first < count → Around count first many
around count first zero inside = record {
  rounds = 0;
  steps = 0;
  short = omega arith;
  at = inl (omega arith, inside);
  done = λ e k low there. absurd (omega arith);
  rest = λ e k low high there. refl;
}
around count first (suc many) inside = around_more count first many inside (around count first many inside)

pub wear_even : WearIsEven
wear_even count first many j k inside low high =
    let a = around count first many inside in
    let from = steps_to first count j inside low in
    let to = steps_to first count k inside high in
    let most : erases_of count first many j ≤ a.rounds + 1 = elim (cases_lt from.0 a.steps) [
      | inl before ↦ let e = a.done from.0 j before from.2 in omega arith
      | inr later ↦ let e = a.rest from.0 j later from.1 from.2 in omega arith
    ] in
    let least : a.rounds ≤ erases_of count first many k = elim (cases_lt to.0 a.steps) [
      | inl before ↦ let e = a.done to.0 k before to.2 in omega arith
      | inr later ↦ let e = a.rest to.0 k later to.1 to.2 in omega arith
    ] in
    omega arith

pub after_both : (count first more many : ℕ) → sector_after_each count (sector_after_each count first many) more ≡ sector_after_each count first (many + more)
after_both count first zero many =
    let same : many ≡ many + 0 = omega arith in ap (sector_after_each count first) same
after_both count first (suc more) many =
    let same : suc (many + more) ≡ many + suc more = omega arith in
    ap (sector_after count) (after_both count first more many) ∙ ap (sector_after_each count first) same

unfoldable pub turns_go_on : TurnsGoOn
turns_go_on old middle new a b = record {
  many = a.many + b.many;
  sectors = b.sectors ∙ a.sectors;
  counted = let one = a.counted in let two = b.counted in omega arith;
  first = b.first
      ∙ ap (λ (count : ℕ). sector_after_each count middle.first b.many) a.sectors
      ∙ ap (λ (k : ℕ). sector_after_each old.sectors k b.many) a.first
      ∙ after_both old.sectors old.first b.many a.many;
}

-- nothing was erased
pub in_turn_none : (old new : LogIndex) → new.sectors ≡ old.sectors → new.first ≡ old.first → new.erases ≡ old.erases → ErasedInTurn old new
in_turn_none old new sectors first erases = record { many = 0; sectors = sectors; counted = omega arith; first = first }

-- the oldest sector was
unfoldable pub in_turn_one : (old new : LogIndex) → new.sectors ≡ old.sectors → new.first ≡ sector_after old.sectors old.first → new.erases ≡ min (old.erases + 1) (2 ^ 64 - 1) → ErasedInTurn old new
in_turn_one old new sectors first erases = record { many = 1; sectors = sectors; counted = omega arith; first = first }
