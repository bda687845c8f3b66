-- What the parts of a file that were written make together.
use Rattle.std.proofs.Common.{◌≡◌, ℕ, ◌+◌, ◌-◌, ◌≤◌, List, ◌++◌, length, take, drop, take_at, length-drop, length-take-le, Option, sym, ap, subst, ◌∙◌, arith}
use Rattle.std.specs.Io.KnownBytes.{Appends}
use Rattle.std.proofs.KnownBytes.{Appends-trans}
use Rattle.std.proofs.lemmas.List.{take_all}
use Rattle.std.proofs.Math.Seq.{take-add}

-- n more bytes were read into a chunk, with other bytes after them, and written
pub shown_more : (bytes : List ℕ) (o n next : ℕ) (behind chunk : List ℕ) (a b c : Option (List ℕ))
    → chunk ≡ take n (drop o bytes) ++ behind → n ≤ length bytes - o → next ≡ o + n
    → Appends a b (take o bytes) → Appends b c (take n chunk)
    → Appends a c (take next bytes)
shown_more bytes o n next behind chunk a b c read inside is before then =
    let long = length-take-le n (drop o bytes) (omega (arith, length-drop o bytes)) in
    let part : take n chunk ≡ take n (drop o bytes) = ap (take n) read ∙ take_at (take n (drop o bytes)) behind n long in
    let both : take o bytes ++ take n chunk ≡ take next bytes =
    ap (λ (l : List ℕ). take o bytes ++ l) part ∙ sym (take-add o n bytes) ∙ ap (λ k. take k bytes) (sym is) in
    subst (λ (l : List ℕ). Appends a c l) both (Appends-trans a b c (take o bytes) (take n chunk) before then)

-- nothing is left
pub shown_all : (bytes : List ℕ) (o : ℕ) (a b : Option (List ℕ)) → length bytes ≤ o → Appends a b (take o bytes) → Appends a b bytes
shown_all bytes o a b end before = subst (λ (l : List ℕ). Appends a b l) (take_all o bytes end) before
