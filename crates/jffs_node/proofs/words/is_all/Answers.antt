use Rattle.std.proofs.Common.{◌≡◌, ℕ, ◌&&◌, ◌==◌, List, [], ◌∷◌, length, take, refl, sym, ap, ⊎_elim, ◌∙◌}
use Rattle.std.proofs.lemmas.Bool.{cases_Bool, eqb-true, eq-eqb}
use Rattle.std.specs.List.{list_all}
use Rattle.std.specs.Prelude.{bytes_eq}
use Rattle.jffs_node.proofs.words.is_all.Goals as goal

-- Each is as the one before it, where all are as the first.
as_before : (b : ℕ) (xs : List ℕ) → bytes_eq xs (take (length xs) (b ∷ xs)) ≡ list_all (λ x. x == b) xs
as_before b [] = refl
as_before b (x ∷ xs) = ⊎_elim
    (λ same.
    ap (λ r. (x == b) && r) (as_before x xs ∙ ap (λ k. list_all (λ y. y == k) xs) (eqb-true x b same)))
    (λ apart. ap (λ t. t && bytes_eq xs (take (length xs) (x ∷ xs))) apart ∙ sym (ap (λ t. t && list_all (λ y. y == b) xs) apart))
    (cases_Bool (x == b))

pub returns-then-first-byte : goal.returns-then-first-byte
returns-then-first-byte c =
    let byte = c.args.byte in
    let first = c.in-Some.first.now in
    let rest = c.in-Some.rest.now in
    let is : c.args.bytes.now ≡ first ∷ rest = c.in-Some.ensures.cases.0 in
    let same : first ≡ byte = c.if-first-byte.true in
    c.eq.ensures
    ∙ ap (λ (xs : List ℕ). bytes_eq rest (take (length rest) xs)) is
    ∙ as_before first rest
    ∙ ap (λ k. list_all (λ b. b == k) rest) same
    ∙ sym (ap (λ (xs : List ℕ). list_all (λ b. b == byte) xs) is ∙ ap (λ t. t && list_all (λ b. b == byte) rest) (eq-eqb first byte same))
