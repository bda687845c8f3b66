use Rattle.std.proofs.Common.{◌≡◌, ◌≤◌, ◌+◌, ℕ, List, [], ◌∷◌, ◌++◌, vec_len, ap, ap₂, ◌∙◌, sym, subst, arith}
use Rattle.std.specs.List.{All, range_with_len}
use Rattle.std.proofs.lemmas.List.{map-append}
use Rattle.std.proofs.lemmas.List.Elements.{All-nil, All-cons, All-append, All-push}
use Rattle.jffs_line.specs.declared.rings.Ring.{Ring}
use Rattle.jffs_line.specs.declared.rings.RingHand.{RingHand}
use Rattle.jffs_line.specs.Line.{End, senders}
use Rattle.jffs_line.specs.Rings.{ring_accepted, ring_capacity, ring_taken}
use Rattle.jffs_line.proofs.RingMaking.{numbers_all, length_all}
use Rattle.jffs_line.proofs.Emptying.{numbers_are, taken_of_fresh}
use Rattle.jffs_line.proofs.rings.make.line.Goals as goal

pub invariant_of-result : goal.invariant_of-result
invariant_of-result c =
    let all = c.push-2.new.self in
    let a = c.in_ok-cleaner in
    let b = c.in_ok-control in
    let is : all.items ≡ (c.in_ok-hands.rings.items ++ a.of_cleaner ∷ []) ++ b.of_control ∷ [] =
    c.in_ok-push-2.ensures.items ∙ ap (λ (l : List Ring). l ++ b.of_control ∷ []) c.in_ok-push.ensures.items in
    let nine : a.of_cleaner.number ≡ 9 = ap (λ (e : End). e.0) (sym a.ensures.ends.0) ∙ a.ensures.ends.1 in
    let ten : b.of_control.number ≡ 10 = ap (λ (e : End). e.0) (sym b.ensures.ends.0) ∙ b.ensures.ends.1 in
    let n : ℕ = c.args.writers in
    let few : n ≤ 8 = c.requires.few in
    let len : vec_len all ≡ n + 2 = all.ok.0 ∙ length_all c.in_ok-hands.rings.items a.of_cleaner b.of_control n all.items is c.in_ok-hands.ensures.numbers nine ten in
    record {
      some = omega arith;
      few = omega arith;
      near = omega arith;
      known = numbers_all c.in_ok-hands.rings.items a.of_cleaner b.of_control n all.items is c.in_ok-hands.ensures.numbers nine ten ∙ ap senders (omega arith);
    }

pub returns-clause-senders : goal.returns-clause-senders
returns-clause-senders c =
    let hs = c.in_ok-hands.hands.items in
    let f = c.in_ok-cleaner.cleaner in
    let g = c.new-2.result.hand in
    let first = sym (numbers_are c.in_ok-hands.rings.items hs (sym c.in_ok-hands.ensures.fresh.ends)) ∙ c.in_ok-hands.ensures.numbers in
    let ten : g.number ≡ 10 = ap (λ (h : RingHand). h.number) c.new-2.ensures ∙ c.in_ok-control.ensures.ends.1 in
    map-append (λ (h : RingHand). h.number) hs (f ∷ g ∷ []) ∙ ap (λ (l : List ℕ). l ++ f.number ∷ g.number ∷ []) first
    ∙ ap₂ (λ (m k : ℕ). range_with_len 1 c.args.writers ++ m ∷ k ∷ []) c.in_ok-cleaner.ensures.ends.1 ten

pub returns-clause-fresh : goal.returns-clause-fresh
returns-clause-fresh c =
    let P : RingHand → Type 0 = λ h. (ring_accepted h ≡ []) × (ring_capacity h ≡ c.args.capacity) in
    let f = c.in_ok-cleaner in
    let g = c.in_ok-control in
    let last : P c.new-2.result.hand = subst P (sym c.new-2.ensures) (g.ensures.fresh.0, g.ensures.fresh.1) in
    let rest : List RingHand = c.new-2.result.hand ∷ [] in
    All-append P c.in_ok-hands.hands.items (f.cleaner ∷ rest) c.in_ok-hands.ensures.fresh.none_accepted
    (All-cons P f.cleaner rest (f.ensures.fresh.0, f.ensures.fresh.1) (All-cons P c.new-2.result.hand [] last (All-nil P)))

pub returns-clause-taken : goal.returns-clause-taken
returns-clause-taken c = λ w.
    let P : Ring → Type 0 = λ r. ring_taken r ≡ [] in
    let a = c.in_ok-cleaner in
    let b = c.in_ok-control in
    let one : All P c.push.new.self.items = subst (All P) (sym c.in_ok-push.ensures.items) (All-push P c.in_ok-hands.rings.items a.of_cleaner c.in_ok-hands.ensures.fresh.none_taken a.ensures.fresh.2) in
    let two : All P c.push-2.new.self.items = subst (All P) (sym c.in_ok-push-2.ensures.items) (All-push P c.push.new.self.items b.of_control one b.ensures.fresh.2) in
    taken_of_fresh c.push-2.new.self.items w two
