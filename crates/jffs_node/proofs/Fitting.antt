-- Tests that types give, and what tests say.
use Rattle.std.proofs.Common.{◌≡◌, ℕ, suc, ◌<◌, ◌^◌, Bool, true, false, ◌&&◌, ◌||◌, leb, ltb, List, [], ◌∷◌, get_or, arith, ⊎_elim, refl, sym, ◌∙◌}
use Rattle.std.specs.List.{list_all}
use Rattle.std.proofs.Math.Bool.{and-true}
use Rattle.std.proofs.lemmas.Bool.{and_from, lt-ltb, le-ltb, le-leb, lt-leb, cases_lt, false≢true}

pub small_bytes : (xs : List ℕ) → ((k : ℕ) → get_or xs k 0 < 256) → list_all (λ b. ltb b 256) xs ≡ true
small_bytes [] h = refl
small_bytes (x ∷ xs) h = and_from (ltb x 256) (list_all (λ b. ltb b 256) xs) (lt-ltb x 256 (h 0)) (small_bytes xs (λ k. h (suc k)))

pub or_second : (a b : Bool) → (a || b) ≡ true → a ≡ false → b ≡ true
or_second true b h e = absurd (false≢true (sym e))
or_second false b h e = h

pub same_limit : (n : ℕ) → leb n 4294967295 ≡ ltb n (2 ^ 32)
same_limit n = ⊎_elim
    (λ less. le-leb n 4294967295 (omega arith) ∙ sym (lt-ltb n (2 ^ 32) less))
    (λ more. lt-leb n 4294967295 (omega arith) ∙ sym (le-ltb n (2 ^ 32) more))
    (cases_lt n (2 ^ 32))

pub all_but : {a b c d e f g s l : Bool} → a ≡ true → b ≡ true → c ≡ true → d ≡ true → e ≡ true → f ≡ true → g ≡ true → (x : Bool) → s ≡ true → l ≡ true
    → x ≡ (a && b && c && d && e && f && g && x && s && l)
all_but a b c d e f g x s l = sym ((λ i. a i && b i && c i && d i && e i && f i && g i && x && s i && l i) ∙ and-true (x && true) ∙ and-true x)
