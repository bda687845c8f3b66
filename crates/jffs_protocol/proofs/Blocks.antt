-- What is taken from the block of a reader.
use Rattle.std.proofs.Common.{◌≡◌, ◌≢◌, ◌≤◌, ◌<◌, ◌∙◌, ℕ, Bool, true, false, List, ◌++◌, length, Option, None, Some, get_or, sym, ap, subst, take, drop, take-append-drop, arith}
use Rattle.std.specs.Prelude.{All, if◌then◌else◌}
use Rattle.std.specs.Io.KnownBytes.{Consumes, prepend_known}
use Rattle.std.specs.Io.BufRead.{DropsConsumable}
use Rattle.std.proofs.lemmas.List.{take-append-le, get_or-take, length-take-le}
use Rattle.std.proofs.lemmas.List.Elements.{All-from_get_or}

front_known : (rest b : Option (List ℕ)) (block : List ℕ) (count : ℕ) → count ≤ length block
    → DropsConsumable (prepend_known block rest) b (Some (length block)) count
    → Consumes (prepend_known block rest) b (take count block)
front_known None b block count h d = tt
front_known (Some ys) b block count h d =
    let e : b ≡ Some (drop count (block ++ ys)) = d h in
    let same : block ++ ys ≡ take count block ++ drop count (block ++ ys) =
    sym (take-append-drop count (block ++ ys)) ∙ ap (λ l. l ++ drop count (block ++ ys)) (take-append-le count block ys h) in
    subst (λ (o : Option (List ℕ)). Consumes (Some (block ++ ys)) o (take count block)) (sym e) same

-- the first bytes of a block, whatever is known of what follows it
pub taken_front : (empty : Bool) (rest b : Option (List ℕ)) (block : List ℕ) (count : ℕ) → count ≤ length block
    → DropsConsumable (if empty then None else prepend_known block rest) b (Some (length block)) count
    → Consumes (if empty then None else prepend_known block rest) b (take count block)
taken_front true rest b block count h d = tt
taken_front false rest b block count h d = front_known rest b block count h d

-- no line feed stands before the first one
pub none_before : (block : List ℕ) (count : ℕ) → count ≤ length block → ((k : ℕ) → k < count → get_or block k 0 ≢ 10)
    → All (λ b. b ≢ 10) (take count block)
none_before block count h f =
    All-from_get_or (λ b. b ≢ 10) (take count block) 0 (λ i l e.
    let lt : i < count = omega (arith, l, length-take-le count block h) in
    f i lt (sym (get_or-take count block i 0 lt) ∙ e))
