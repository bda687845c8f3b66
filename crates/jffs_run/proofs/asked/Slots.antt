-- Lemmas on facts about each element of a list, at its slot.
use Rattle.std.proofs.Common.{◌≡◌, ℕ, ◌+◌, ◌<◌, zero, suc, List, [], ◌∷◌, ◌++◌, length, map, refl, ap, ◌∙◌, subst, arith, get_or, append_assoc}
use Rattle.std.proofs.lemmas.List.{map-append}
use Rattle.jffs_text.specs.declared.script.Writer.{Writer}
use Rattle.jffs_run.specs.Ends.{EachFrom, commands_of}

-- an element more
EachFrom-push : {X : Type 0} (P : ℕ → X → Type 0) (n : ℕ) (xs : List X) (x : X) → EachFrom P n xs → P (n + length xs) x → EachFrom P n (xs ++ x ∷ [])
EachFrom-push {X} P n [] x each here = let e : n + length {A = X} [] ≡ n = omega arith in (subst (λ (k : ℕ). P k x) e here, tt)
EachFrom-push P n (y ∷ ys) x each here =
    let e : n + length (y ∷ ys) ≡ (n + 1) + length ys = omega arith in
    (each.0, EachFrom-push P (n + 1) ys x each.1 (subst (λ (k : ℕ). P k x) e here))

-- an element more, whose slot is written in another way
pub EachFrom-more : {X : Type 0} (P : ℕ → X → Type 0) (xs : List X) (x : X) (slot : ℕ) → slot ≡ length xs → EachFrom P 0 xs → P slot x → EachFrom P 0 (xs ++ x ∷ [])
EachFrom-more P xs x slot last each here = let at : slot ≡ 0 + length xs = omega arith in EachFrom-push P 0 xs x each (subst (λ (k : ℕ). P k x) at here)

-- the commands of a writer, whatever stands for one that isn't there
pub commands-at : (writers : List Writer) (i : ℕ) (d : Writer) → i < length writers → get_or (commands_of writers) i [] ≡ (get_or writers i d).commands.items
commands-at [] i d below = absurd (omega arith)
commands-at (writer ∷ writers) zero d below = refl
commands-at (writer ∷ writers) (suc i) d below = commands-at writers i d (omega arith)

-- an element moves from the front of one list to the end of another, and what both show stays
pub moved : {X Y E : Type 0} (f : X → E) (k : Y → E) (xs : List X) (x : X) (y : Y) (rest : List Y) → f x ≡ k y → map f (xs ++ x ∷ []) ++ map k rest ≡ map f xs ++ map k (y ∷ rest)
moved {E = E} f k xs x y rest same =
    ap (λ (l : List E). l ++ map k rest) (map-append f xs (x ∷ []))
    ∙ (append_assoc (map f xs) (f x ∷ []) (map k rest) ∙ ap (λ (e : E). map f xs ++ e ∷ map k rest) same)
