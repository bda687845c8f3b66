-- The lines of a run, one more at a time.
use Rattle.std.proofs.Common.{◌≡◌, ℕ, suc, ◌+◌, ◌<◌, List, [], ◌∷◌, ◌++◌, length, take, get_or, length-take-le, refl, sym, ap, subst, ◌∙◌, arith, append-nil, append_assoc}
use Rattle.std.proofs.lemmas.List.{take_more}
use Rattle.jffs_core.specs.declared.answer.Answer.{Answer}
use Rattle.jffs_run.specs.declared.reader.ReaderEnd.{ReaderEnd}
use Rattle.jffs_program.specs.Printed.{lines_of, lines_up_to, reader_line, readers_from}

pub up_to_none : (answers : List Answer) → lines_up_to 0 answers ≡ []
unfolding lines_up_to
up_to_none answers = refl

pub up_to_next : (n : ℕ) (answers : List Answer) → lines_up_to (n + 1) answers ≡ lines_up_to n answers ++ lines_of (n + 1) answers
unfolding lines_up_to
up_to_next n answers =
    let is : suc n ≡ n + 1 = omega arith in
    subst (λ m. lines_up_to m answers ≡ lines_up_to n answers ++ lines_of m answers) is refl

pub readers_none : (n : ℕ) → readers_from n [] ≡ []
unfolding readers_from
readers_none n = refl

pub readers_more : (n : ℕ) (ends : List ReaderEnd) (end : ReaderEnd) → readers_from n (ends ++ end ∷ []) ≡ readers_from n ends ++ reader_line (n + length ends) end
unfolding readers_from
readers_more n [] end =
    let is : n ≡ n + 0 = omega arith in
    append-nil (reader_line n end) ∙ ap (λ m. reader_line m end) is
readers_more n (e ∷ ends) end =
    let is : n + 1 + length ends ≡ n + suc (length ends) = omega arith in
    ap (λ t. reader_line n e ++ t) (readers_more (n + 1) ends end)
    ∙ sym (append_assoc (reader_line n e) (readers_from (n + 1) ends) (reader_line (n + 1 + length ends) end))
    ∙ ap (λ m. (reader_line n e ++ readers_from (n + 1) ends) ++ reader_line m end) is

pub readers_next : (readers : List ReaderEnd) (i : ℕ) (d : ReaderEnd) → i < length readers → readers_from 1 (take (i + 1) readers) ≡ readers_from 1 (take i readers) ++ reader_line (i + 1) (get_or readers i d)
readers_next readers i d inside =
    let long : length (take i readers) ≡ i = length-take-le i readers (omega (arith, inside)) in
    ap (readers_from 1) (take_more readers i d inside)
    ∙ readers_more 1 (take i readers) (get_or readers i d)
    ∙ ap (λ n. readers_from 1 (take i readers) ++ reader_line n (get_or readers i d)) (ap (λ n. 1 + n) long ∙ omega arith)
