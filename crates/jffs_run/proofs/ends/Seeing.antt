-- Lemmas on the readers that were joined.
use Rattle.std.proofs.Common.{◌≡◌, ◌⊎◌, ◌+◌, inl, inr, ℕ, List, [], ◌∷◌, ◌++◌, map, refl, sym, ap, ap₂, ◌∙◌, subst, Option, Some, None}
use Rattle.std.specs.declared.thread.PromisedHandle.{PromisedHandle}
use Rattle.jffs_text.specs.declared.script.ReaderStatement.{ReaderStatement}
use Rattle.jffs_index.specs.declared.rule.History.{History}
use Rattle.jffs_index.specs.declared.rule.Index.{Index}
use Rattle.jffs_index.specs.Histories.{view_of, BeginsWith}
use Rattle.jffs_index.specs.Ends.{known}
use Rattle.jffs_index.proofs.Kept.{begins_self}
use Rattle.jffs_run.specs.declared.reader.ReaderEnd.{ReaderEnd}
use Rattle.jffs_run.specs.declared.reader.ReaderEnd.TheVariants.{NotSeen, NoFile, Bytes}
use Rattle.jffs_run.specs.declared.reader.ReaderStop.{ReaderStop}
use Rattle.jffs_run.specs.declared.promise.Looks.{Looks}
use Rattle.jffs_run.specs.Looking.{FitsView, FitsPath, ShowsAnswer, SeenIn, HasSeen, IsWhole}
use Rattle.jffs_run.specs.Ends.{EachFrom}
use Rattle.jffs_run.specs.Seen.{SawReply, SawReplyOrNone, ReadersSeeAnswers, history_of}
use Rattle.jffs_inodes.specs.Inodes.{Tree}
use Rattle.jffs_tree.specs.declared.wish.Outcome.{Outcome}
use Rattle.jffs_index.specs.declared.step.Step.{Step}
use Rattle.jffs_index.specs.Outcomes.{outcome_at}
use Rattle.jffs_index.specs.Seen.{ShowsStep}
use Rattle.jffs_index.proofs.Seen.{answers_show_their_nodes}
use Rattle.jffs_serve.specs.Replies.{Reply}
use Rattle.jffs_run.specs.Started.{IsLooking}

-- what is left of a reader's end after the last look is what its path reads in a beginning of the
-- history
pub has_seen :
    (published history told : History) (answered : ℕ) (index : Index) (statements : List ReaderStatement) (slot : ℕ)
    (handle : PromisedHandle ReaderStop Looks) (stop : ReaderStop) (result : ReaderEnd)
    → IsLooking index statements slot handle
    → FitsView (view_of (known stop.reader)) handle.promise.statement.now stop.end
    → told ≡ published → IsWhole published answered history
    → (result ≡ NotSeen) ⊎ ((result ≡ stop.end) × BeginsWith told (known stop.reader) × ((view_of told).answered ≡ answered))
    → HasSeen history statements slot result
has_seen published history told answered index statements slot handle stop result looking fits is whole ends =
    let statement : ReaderStatement = handle.promise.statement.now in
    elim ends [
      | inl unseen ↦ (statement, looking.1, subst (SeenIn history statement) (sym unseen) (history, begins_self history, tt))
      | inr seen ↦
          let same : history ≡ told = whole (subst (λ (h : History). (view_of h).answered ≡ answered) is seen.2) ∙ sym is in (
            statement,
            looking.1,
            subst (SeenIn history statement) (sym seen.0)
                (known stop.reader, subst (λ (h : History). BeginsWith h (known stop.reader)) (sym same) seen.1, fits),
          )
    ]

-- what makes a list in two parts is in two parts
cut : {X Y : Type 0} (f : X → Y) (xs : List X) (ys zs : List Y) → map f xs ≡ ys ++ zs → (first : List X) × (rest : List X) × (xs ≡ first ++ rest) × (map f first ≡ ys) × (map f rest ≡ zs)
cut f xs [] zs same = ([], xs, refl, refl, same)
cut f [] (y ∷ ys) zs same = absurd (cc)
cut {X} {Y} f (x ∷ xs) (y ∷ ys) zs same =
    let head : f x ≡ y = cc in
    let tail : map f xs ≡ ys ++ zs = cc in
    let more = cut f xs ys zs tail in (
      x ∷ more.0,
      more.1,
      ap (λ (l : List X). x ∷ l) more.2,
      ap₂ (λ (b : Y) (l : List Y). b ∷ l) head more.3,
      more.4,
    )

-- what makes a list with a first element has one
cut_first : {X Y : Type 0} (f : X → Y) (xs : List X) (y : Y) (zs : List Y) → map f xs ≡ y ∷ zs → (x : X) × (rest : List X) × (xs ≡ x ∷ rest) × (f x ≡ y)
cut_first f [] y zs same = absurd (cc)
cut_first f (x ∷ xs) y zs same = let head : f x ≡ y = cc in (x, xs, refl, head)

-- the replies whose steps are these
steps_cut :
    (opening : Tree) (replies : List Reply) (first : History) (statement : ReaderStatement) (end : ReaderEnd) (outcome : Outcome)
    → BeginsWith (history_of opening replies) first → ShowsStep first statement.writer statement.seq outcome → FitsPath (view_of first) statement.path end
    → SawReply opening replies statement end
steps_cut opening replies first statement end outcome begins shows fits =
    let step : Reply → Step = λ r. r.step in
    let all = cut step replies first.steps begins.0 (ap (λ (h : History). h.steps) begins.1) in
    let parts = cut step all.0 shows.before (shows.step ∷ shows.after) (all.3 ∙ shows.steps_are) in
    let one = cut_first step parts.1 shows.step shows.after parts.4 in
    let seen : all.0 ≡ parts.0 ++ one.0 ∷ one.1 = rw one.2 at parts.2 in
    let steps_are : first.steps ≡ map step (parts.0 ++ one.0 ∷ one.1) = rw seen at (sym all.3) in
    let tree_is : first.opening ≡ opening = sym (ap (λ (h : History). h.opening) begins.1) in
    let same : first ≡ history_of opening (parts.0 ++ one.0 ∷ one.1) = λ i. record { opening = tree_is i; steps = steps_are i } in
    record {
      before = parts.0;
      reply = one.0;
      after = one.1;
      rest = all.1;
      replies_are = rw seen at all.2;
      writer_is = ap (λ (s : Step). s.writer) one.3 ∙ shows.sender_is;
      number_is = ap (λ (s : Step). s.seq) one.3 ∙ shows.number_is;
      read = rw same at fits;
    }

-- a view that shows the awaited answer shows its reply
saw_reply :
    (opening : Tree) (replies : List Reply) (first : History) (statement : ReaderStatement) (end : ReaderEnd)
    → BeginsWith (history_of opening replies) first → ShowsAnswer (view_of first) statement → FitsPath (view_of first) statement.path end
    → SawReply opening replies statement end
saw_reply opening replies first statement end begins shows fits = by_outcome (outcome_at (view_of first).outcomes statement.writer statement.seq) refl
  where
    by_outcome : (o : Option Outcome) → outcome_at (view_of first).outcomes statement.writer statement.seq ≡ o → SawReply opening replies statement end
    by_outcome None is = absurd (shows is)
    by_outcome (Some o) is = steps_cut opening replies first statement end o begins (answers_show_their_nodes first statement.writer statement.seq o is) fits

-- what one reader saw
saw_one : (opening : Tree) (replies : List Reply) (statements : List ReaderStatement) (slot : ℕ) (end : ReaderEnd) → HasSeen (history_of opening replies) statements slot end → SawReplyOrNone opening replies statements slot end
saw_one opening replies statements slot NotSeen seen = inl refl
saw_one opening replies statements slot NoFile seen =
    let in_first = seen.2 in
    inr (seen.0, seen.1, saw_reply opening replies in_first.0 seen.0 NoFile in_first.1 in_first.2.0 in_first.2.1)
saw_one opening replies statements slot (Bytes bytes) seen =
    let in_first = seen.2 in
    inr (seen.0, seen.1, saw_reply opening replies in_first.0 seen.0 (Bytes bytes) in_first.1 in_first.2.0 in_first.2.1)

saw_each : (opening : Tree) (replies : List Reply) (statements : List ReaderStatement) (slot : ℕ) (ends : List ReaderEnd) → EachFrom (HasSeen (history_of opening replies) statements) slot ends → EachFrom (SawReplyOrNone opening replies statements) slot ends
saw_each opening replies statements slot [] each = tt
saw_each opening replies statements slot (end ∷ ends) each = (saw_one opening replies statements slot end each.0, saw_each opening replies statements (slot + 1) ends each.1)

pub readers_see_answers : ReadersSeeAnswers
readers_see_answers start account run = saw_each start.tree run.replies account.statements 0 account.ends run.seen.each
