-- Lemmas that put a run together.
use Rattle.std.proofs.Common.{◌≡◌, ◌≤◌, ℕ, ◌+◌, List, [], ◌∷◌, ◌++◌, length, map, sym, ◌∙◌, ap, ap₂, subst, arith, append_assoc, length-append, get_or, Option, None, Some}
use Rattle.std.specs.List.{All, Contains, range_with_len}
use Rattle.std.proofs.lemmas.List.{length-map}
use Rattle.std.proofs.lemmas.List.FromFn.{length-range_with_len}
use Rattle.std.proofs.lemmas.List.Elements.{All-head, All-tail}
use mathlib.Core.List.{map-map}
use Rattle.jffs_line.specs.Line.{End, senders}
use Rattle.jffs_line.specs.declared.request.Request.{Request}
use Rattle.jffs_line.specs.Requests.{of, IsNumbered}
use Rattle.jffs_line.specs.declared.hand.Hand as Hand
use Rattle.jffs_line.specs.declared.hand.Hands.{Hands}
use Rattle.jffs_line.specs.Settling.{all_hands}
use Rattle.jffs_line.proofs.Lists.{All-left, All-right}
use Rattle.jffs_core.specs.CoreState.{CoreState}
use Rattle.jffs_inodes.specs.Inodes.{Tree}
use Rattle.jffs_index.specs.declared.step.Step.{Step}
use Rattle.jffs_index.specs.declared.rule.History.{History}
use Rattle.jffs_index.specs.Histories.{view_of}
use Rattle.jffs_index.specs.Shown.{opened}
use Rattle.jffs_index.proofs.Fronts.{prefix_whole}
use Rattle.jffs_index.proofs.Kept.{answered-fold}
use Rattle.jffs_serve.specs.declared.session.PendingStep.{PendingStep}
use Rattle.jffs_serve.specs.PendingStep.{unput}
use Rattle.jffs_serve.specs.declared.session.Served.{Served}
use Rattle.jffs_serve.specs.Replies.{Reply, answer_in}
use Rattle.jffs_serve.specs.Stopping.{ending_in, StopsAt}
use Rattle.jffs_serve.proofs.Stopping.{stopped_in_order, stopped_fits_served, ends_as}
use Rattle.jffs_serve.specs.Answered.{Start, HasReplied}
use Rattle.jffs_core.specs.declared.answer.Answer.{Answer}
use Rattle.jffs_text.specs.declared.script.Writer.{Writer}
use Rattle.jffs_text.specs.declared.script.ReaderStatement.{ReaderStatement}
use Rattle.jffs_run.specs.declared.reader.ReaderEnd.{ReaderEnd}
use Rattle.jffs_run.specs.declared.crew.Crew.{Crew}
use Rattle.jffs_run.specs.Ends.{end_of}
use Rattle.jffs_run.specs.Crew.{HasHandedIn, UnmountsLast, crew_hands}
use Rattle.jffs_run.specs.Looking.{HaveSeen, IsWhole}
use Rattle.jffs_flash.specs.Device.{Device}
use Rattle.jffs_flash.specs.Wear.{Wear}
use Rattle.jffs_core.specs.Past.{IsLeftBy}
use Rattle.jffs_run.specs.Headline.{IsRun, requests_in}
use Rattle.jffs_run.proofs.promises.Headlines.{account_with, is_run}

module _ {H : Type 0} (g : Hand.Ghosts H) where
  -- hands with the same ends have the same senders
  pub same_senders : (hands before : List H) → map (end_of g) hands ≡ map (end_of g) before → map g.sender hands ≡ map g.sender before
  same_senders hands before same =
      sym (map-map (λ (e : End). e.0) (end_of g) hands) ∙ (ap (map (λ (e : End). e.0)) same ∙ map-map (λ (e : End). e.0) (end_of g) before)

  -- how many writers there are
  pub count_writers : (hands : List H) (cleaner control : H) (writers : ℕ) → map g.sender (hands ++ cleaner ∷ control ∷ []) ≡ senders writers → length hands ≡ writers
  count_writers hands cleaner control writers numbers =
      let a : length (map g.sender (hands ++ cleaner ∷ control ∷ [])) ≡ length (senders writers) = ap (length {A = ℕ}) numbers in
      let b : length (map g.sender (hands ++ cleaner ∷ control ∷ [])) ≡ length (hands ++ cleaner ∷ control ∷ []) = length-map (hands ++ cleaner ∷ control ∷ []) g.sender in
      let c : length (hands ++ cleaner ∷ control ∷ []) ≡ length hands + 2 = length-append hands (cleaner ∷ control ∷ []) in
      let d : length (senders writers) ≡ length (range_with_len 1 writers) + 2 = length-append (range_with_len 1 writers) (9 ∷ 10 ∷ []) in
      let e : length (range_with_len 1 writers) ≡ writers = length-range_with_len 1 writers in
      omega arith

  -- no hand of a new line handed anything in
  pub new_hands : (hands : Hands H) → All (λ hand. g.accepted hand ≡ []) (all_hands hands) → All (λ hand. g.accepted hand ≡ []) hands.writers.items × (g.accepted hands.cleaner ≡ []) × (g.accepted hands.control.hand ≡ [])
  new_hands hands fresh =
      let P : H → Type 0 = λ hand. g.accepted hand ≡ [] in
      let tail = All-right P hands.writers.items (hands.cleaner ∷ hands.control.hand ∷ []) fresh in (
        All-left P hands.writers.items (hands.cleaner ∷ hands.control.hand ∷ []) fresh,
        All-head P hands.cleaner (hands.control.hand ∷ []) tail,
        All-head P hands.control.hand [] (All-tail P hands.cleaner (hands.control.hand ∷ []) tail),
      )

  -- what was handed in, answered, seen and settled is a run
  pub whole_run :
      (script : List Writer) (rounds : Option ℕ) (statements : List ReaderStatement) (crew : Crew H) (hands : Hands H)
      (core : CoreState) (unsent : Option PendingStep) (published : History) (pending : List Step)
      (start : Start) (taken : ℕ → List Request) (replies : List Reply) (waiting : List Request) (ends : List ReaderEnd) (served : Served) (device : Device) (wear : Wear)
      → length script ≤ 8 → map g.sender (crew_hands g crew) ≡ senders (length script)
      → HasHandedIn g script rounds crew hands → UnmountsLast g script hands
      → ((w : ℕ) → start.taken w ≡ []) → start.core.answers ≡ [] → start.put ≡ [] → published.opening ≡ start.core.tree
      → HasReplied start core unsent (published.steps ++ pending) taken replies
      → All (λ hand. taken (g.sender hand) ++ of (g.sender hand) waiting ≡ g.accepted hand) (all_hands hands)
      → All (λ hand. IsNumbered (g.accepted hand)) (all_hands hands)
      → ((w : ℕ) → (Contains (map g.sender (all_hands hands)) w → ⊥) → taken w ++ of w waiting ≡ [])
      → ((history : History) → IsWhole published (length core.answers) history → HaveSeen history statements ends)
      → IsLeftBy core device → wear ≡ core.wear
      → StopsAt None replies (ending_in (Some served) core unsent)
      → IsRun start.core (account_with g script rounds statements hands core.answers waiting ends served device wear)
  whole_run script rounds statements crew hands core unsent published pending start taken replies waiting ends served device wear eight numbers handed whole_handed untaken unanswered unput_before opened_is has settled numbered others seen left worn stops =
      let answers_are : core.answers ≡ map answer_in replies = has.answered ∙ ap (λ (l : List Answer). l ++ map answer_in replies) unanswered in
      let taken_is : (w : ℕ) → taken w ≡ of w (requests_in replies) = λ w. has.all_taken w ∙ ap (λ (l : List Request). l ++ of w (requests_in replies)) (untaken w) in
      let now = same_senders (all_hands hands) (crew_hands g crew) handed.ends ∙ numbers in
      let steps : List Step = map (λ (r : Reply). r.step) replies in
      let history : History = record { opening = start.core.tree; steps = steps } in
      let put : published.steps ++ (pending ++ unput unsent) ≡ steps =
      sym (append_assoc published.steps pending (unput unsent)) ∙ (has.sent ∙ ap (λ (l : List Step). l ++ steps) unput_before) in
      let whole : IsWhole published (length core.answers) history = λ counted.
      let many : (view_of published).answered ≡ 0 + length published.steps = answered-fold (opened published.opening) published.steps in
      let answers : length core.answers ≡ length (map answer_in replies) = ap (length {A = Answer}) answers_are in
      let replies_many : length (map answer_in replies) ≡ length replies = length-map replies answer_in in
      let steps_many : length steps ≡ length replies = length-map replies (λ (r : Reply). r.step) in
      ap₂ (λ (t : Tree) (l : List Step). let h : History = record { opening = t; steps = l } in h) (sym opened_is) (sym (prefix_whole published.steps steps (pending ++ unput unsent, put) (omega arith))) in
      subst (λ (answers : List Answer). IsRun start.core (account_with g script rounds statements hands answers waiting ends served device wear)) (sym answers_are)
      (is_run g start.core core script rounds statements hands replies waiting ends served device wear eight
      (count_writers hands.writers.items hands.cleaner hands.control.hand (length script) now) now
      handed.first whole_handed handed.cleaner handed.control (stopped_in_order replies _ stops has.reply)
      (λ k d below. let w : ℕ = g.sender (get_or (all_hands hands) k d) in ap (λ (l : List Request). l ++ of w waiting) (sym (taken_is w)) ∙ settled k d below)
      numbered
      (λ w none. ap (λ (l : List Request). l ++ of w waiting) (sym (taken_is w)) ∙ others w none)
      (seen history whole) has.sizes has.erases left worn has.lawful
      (stopped_fits_served served replies core unsent stops) (ends_as served replies core unsent stops))
