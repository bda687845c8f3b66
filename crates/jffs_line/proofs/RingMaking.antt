-- The making of all rings.
use Rattle.std.proofs.Common.{◌≡◌, ℕ, ◌+◌, List, [], ◌∷◌, ◌++◌, length, ap, ap₂, ◌∙◌, append_assoc, length-append, arith}
use Rattle.std.specs.List.{range_with_len}
use Rattle.std.proofs.lemmas.List.{map-append, length-map}
use Rattle.std.proofs.lemmas.List.FromFn.{length-range_with_len}
use Rattle.jffs_line.specs.declared.rings.Ring.{Ring}
use Rattle.jffs_line.specs.Line.{senders}
use Rattle.jffs_line.proofs.Ringing.{numbers}

module _ (rs : List Ring) (a b : Ring) (n : ℕ) (all : List Ring) (is : all ≡ (rs ++ a ∷ []) ++ b ∷ []) (first : numbers rs ≡ range_with_len 1 n) (cleaner : a.number ≡ 9) (control : b.number ≡ 10) where
  pub numbers_all : numbers all ≡ senders n
  numbers_all =
      ap numbers (is ∙ append_assoc rs (a ∷ []) (b ∷ [])) ∙ map-append (λ (r : Ring). r.number) rs (a ∷ b ∷ [])
      ∙ ap (λ (l : List ℕ). l ++ a.number ∷ b.number ∷ []) first ∙ ap₂ (λ (m k : ℕ). range_with_len 1 n ++ m ∷ k ∷ []) cleaner control

  pub length_all : length all ≡ n + 2
  length_all =
      let e = ap (λ (l : List ℕ). length l) numbers_all in
      omega (arith, length-map all (λ (r : Ring). r.number), length-append (range_with_len 1 n) (9 ∷ 10 ∷ []), length-range_with_len 1 n)
