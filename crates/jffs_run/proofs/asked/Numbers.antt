-- Lemmas on the requests that a sender makes of its wishes.
use Rattle.std.proofs.Common.{◌≡◌, ℕ, ◌+◌, ◌<◌, List, [], ◌∷◌, ◌++◌, length, take, ap, ◌∙◌, arith, length-take, get_or}
use Rattle.std.proofs.lemmas.List.{take_more, length-map, get_or-map}
use Rattle.jffs_text.specs.declared.command.Command.{Command}
use Rattle.jffs_tree.specs.declared.wish.Wish.{Wish}
use Rattle.jffs_line.specs.declared.request.Request.{Request}
use Rattle.jffs_line.specs.Requests.{request}
use Rattle.jffs_text.specs.Wishes.{wish_of, wishes_of}
use Rattle.jffs_run.specs.Numbered.{numbered}

-- a wish more
pub numbered-push : (sender n : ℕ) (xs : List Wish) (x : Wish) → numbered sender n (xs ++ x ∷ []) ≡ numbered sender n xs ++ request sender (n + length xs) x ∷ []
numbered-push sender n [] x = ap (λ (k : ℕ). request sender k x ∷ []) (omega arith)
numbered-push sender n (y ∷ ys) x =
    let e : (n + 1) + length ys ≡ n + length (y ∷ ys) = omega arith in
    ap (λ (rest : List Request). request sender n y ∷ rest) (numbered-push sender (n + 1) ys x ∙ ap (λ (k : ℕ). numbered sender (n + 1) ys ++ request sender k x ∷ []) e)

-- one wish more of a list
numbered-next : (sender n : ℕ) (xs : List Wish) (i : ℕ) (x : Wish) → i < length xs → get_or xs i x ≡ x → numbered sender n (take (i + 1) xs) ≡ numbered sender n (take i xs) ++ request sender (n + i) x ∷ []
numbered-next sender n xs i x below here =
    let count : length (take i xs) ≡ i = omega (arith, length-take {A = Wish}) in
    ap (numbered sender n) (take_more xs i x below)
    ∙ (ap (λ (y : Wish). numbered sender n (take i xs ++ y ∷ [])) here
    ∙ (numbered-push sender n (take i xs) x
    ∙ ap (λ (k : ℕ). numbered sender n (take i xs) ++ request sender (n + k) x ∷ []) count))

-- one command more
pub numbered-more : (sender n : ℕ) (commands : List Command) (i : ℕ) (command : Command) → i < length commands → get_or commands i command ≡ command → numbered sender n (take (i + 1) (wishes_of commands)) ≡ numbered sender n (take i (wishes_of commands)) ++ request sender (n + i) (wish_of command) ∷ []
numbered-more sender n commands i command below here =
    let many : length (wishes_of commands) ≡ length commands = length-map commands wish_of in
    numbered-next sender n (wishes_of commands) i (wish_of command) (omega arith) (get_or-map wish_of commands i command (wish_of command) below ∙ ap wish_of here)
