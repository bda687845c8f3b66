-- The lines that tell what became of a run.
use Rattle.std.specs.Prelude.{ℕ, zero, suc, ◌+◌, ◌==◌, List, [], ◌∷◌, ◌++◌, codes, decimal}
use Rattle.std.specs.Prelude.{Option, Some, None, option_map}
use Rattle.std.specs.List.{filter, flat_map, find}
use Rattle.jffs_tree.specs.declared.wish.Cause.{Cause}
use Rattle.jffs_tree.specs.declared.wish.Outcome.{Outcome}
use Rattle.jffs_tree.specs.declared.wish.Outcome.TheVariants as outcome
use Rattle.jffs_core.specs.declared.answer.Answer.{Answer}
use Rattle.jffs_line.specs.declared.hand.TheConstants.{CONTROL}
use Rattle.jffs_run.specs.declared.reader.ReaderEnd.{ReaderEnd}
use Rattle.jffs_run.specs.declared.reader.ReaderEnd.TheVariants as reader_end
use Rattle.jffs_text.specs.Causes.{cause_text}
use Rattle.jffs_text.specs.Dump.{line_end, shown_bytes}
use Rattle.jffs_text.specs.declared.script.TheConstants.{WRITERS_MAX}

-- what became of a request
abbrev pub outcome_text : Outcome → List ℕ
outcome_text (outcome.Refused cause) = codes "refused " ++ cause_text cause
outcome_text _ = codes "appended"

-- an answered request: `W.N appended` or `W.N refused CAUSE`
abbrev pub answer_line : Answer → List ℕ
answer_line a = decimal a.writer
    ++ (codes "." ++ (decimal a.seq ++ (codes " " ++ (outcome_text a.outcome ++ line_end))))

-- the answered requests of one writer
abbrev pub lines_of : ℕ → List Answer → List ℕ
lines_of writer answers = flat_map answer_line (filter (λ (a : Answer). a.writer == writer) answers)

-- those of the writers 1 to n, one writer after another
unfoldable pub lines_up_to : ℕ → List Answer → List ℕ
lines_up_to zero answers = []
lines_up_to (suc n) answers = lines_up_to n answers ++ lines_of (suc n) answers

abbrev pub answers_text : List Answer → List ℕ
answers_text answers = lines_up_to WRITERS_MAX answers

-- what a reader saw
abbrev pub seen_text : ReaderEnd → List ℕ
seen_text reader_end.NotSeen = codes "not seen"
seen_text reader_end.NoFile = codes "none"
seen_text (reader_end.Bytes bytes) = shown_bytes bytes.items

abbrev pub reader_line : ℕ → ReaderEnd → List ℕ
reader_line number end =
    codes "reader " ++ (decimal number ++ (codes " " ++ (seen_text end ++ line_end)))

-- the readers, the first of which has this number
unfoldable pub readers_from : ℕ → List ReaderEnd → List ℕ
readers_from number [] = []
readers_from number (end ∷ ends) = reader_line number end ++ readers_from (number + 1) ends

abbrev pub readers_text : List ReaderEnd → List ℕ
readers_text ends = readers_from 1 ends

-- how the control's Unmount was answered, if it was
abbrev pub ending_of : List Answer → Option Outcome
ending_of answers =
    option_map (λ (a : Answer). a.outcome) (find (λ (a : Answer). a.writer == CONTROL) answers)

abbrev pub not_closed_line : Cause → List ℕ
not_closed_line cause = codes "not closed " ++ (cause_text cause ++ line_end)

-- the line of how it was answered; Ended where nothing answered it
abbrev pub line_of_ending : Option Outcome → List ℕ
line_of_ending None = codes "not closed Ended" ++ line_end
line_of_ending (Some (outcome.Refused cause)) = not_closed_line cause
line_of_ending (Some _) = codes "closed" ++ line_end

abbrev pub ending_line : List Answer → List ℕ
ending_line answers = line_of_ending (ending_of answers)
