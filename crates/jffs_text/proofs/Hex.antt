-- Hex in pieces.
use Rattle.std.proofs.Common.{◌≡◌, ℕ, ◌+◌, ◌/◌, ◌%◌, List, [], ◌∷◌, ◌++◌, take, drop, take-add, Option, sym, ap, subst, ◌∙◌}
use Rattle.std.specs.Io.KnownBytes.{Appends}
use Rattle.std.proofs.KnownBytes.{Appends-trans}
use Rattle.std.proofs.lemmas.Grind.{flat_map-append}
use Rattle.std.proofs.lemmas.List.{take-append-drop}
use Rattle.jffs_text.specs.Added.{IsBegun}
use Rattle.jffs_text.specs.Dump.{hex, hex_digit}
use Rattle.jffs_text.proofs.Adding.{begun_then, begun_more}

abbrev digits : ℕ → List ℕ
digits b = hex_digit (b / 16) ∷ hex_digit (b % 16) ∷ []

hex_both : (front back : List ℕ) → hex (front ++ back) ≡ hex front ++ hex back
hex_both = flat_map-append digits

-- The text x is the hex of n bytes from the o-th on, and that of the bytes before them was added.
module _ (bytes : List ℕ) (o n : ℕ) (x : List ℕ) (it : x ≡ hex (take n (drop o bytes))) (a b c : Option (List ℕ)) (so_far : Appends a b (hex (take o bytes))) where
  both : hex (take o bytes) ++ x ≡ hex (take (o + n) bytes)
  both = ap (λ l. hex (take o bytes) ++ l) it ∙ sym (ap hex (take-add o n bytes) ∙ hex_both (take o bytes) (take n (drop o bytes)))

  pub part_told : Appends b c x → Appends a c (hex (take (o + n) bytes))
  part_told h = subst (λ l. Appends a c l) both (Appends-trans a b c (hex (take o bytes)) x so_far h)

  pub part_begun : IsBegun b c x → IsBegun a c (hex bytes)
  part_begun h =
      let here = subst (λ l. IsBegun a c l) both (begun_then a b c (hex (take o bytes)) x so_far h) in
      subst (λ l. IsBegun a c l)
      (sym (hex_both (take (o + n) bytes) (drop (o + n) bytes)) ∙ ap hex (take-append-drop (o + n) bytes))
      (begun_more a c (hex (take (o + n) bytes)) (hex (drop (o + n) bytes)) here)
