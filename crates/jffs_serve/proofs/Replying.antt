-- Replies that are made and sent.
use Rattle.std.proofs.Common.{◌≡◌, ℕ, Bool, true, false, ◌||◌, List, [], ◌∷◌, ◌++◌, length, map, refl, sym, ap, subst, ◌∙◌, append_assoc, append-nil, length-append, Option, Some, None}
use Rattle.std.proofs.lemmas.List.{map-append}
use Rattle.std.proofs.lemmas.List.Elements.{filter-append}
use Rattle.std.proofs.lemmas.List.Folds.{list_any-append}
use Rattle.std.proofs.Math.Bool.{or-false}
use Rattle.jffs_node.proofs.Each.{each_append}
use Rattle.jffs_node.specs.declared.node.Node.{Node}
use Rattle.jffs_tree.specs.declared.wish.Outcome.{Outcome}
use Rattle.jffs_line.specs.declared.request.Request.{Request}
use Rattle.jffs_line.specs.Requests.{of}
use Rattle.jffs_log.specs.LogIndex.{HasSizes}
use Rattle.jffs_index.specs.declared.step.Step.{Step}
use Rattle.jffs_core.specs.CoreState.{CoreState, IsSameButCapacity}
use Rattle.jffs_core.specs.Past.{Represents}
use Rattle.jffs_core.specs.Answering.{AnswersWith, KeepsAnswer, is_closed}
use Rattle.jffs_core.specs.Erases.{ErasesAtMost}
use Rattle.jffs_core.specs.Nodes.{HasNode}
use Rattle.jffs_core.specs.declared.answer.Answer.{Answer}
use Rattle.jffs_serve.specs.declared.session.PendingStep.{PendingStep}
use Rattle.jffs_serve.specs.declared.session.PendingStep.TheVariants.{Unput, Unpublished}
use Rattle.jffs_serve.specs.declared.session.Unmounted.{Unmounted}
use Rattle.jffs_serve.specs.declared.session.Served.{Served}
use Rattle.jffs_serve.specs.declared.session.Session.{Session}
use Rattle.jffs_serve.specs.PendingStep.{unput}
use Rattle.jffs_serve.specs.Stopping.{owed, ending_in, StopsAt}
use Rattle.jffs_serve.specs.Replies.{Reply, Replies, answer_in, any_closed}
use Rattle.jffs_serve.specs.Chain.{KeepsHistory, IsReplied}
use Rattle.jffs_serve.specs.Answered.{Start, start_of, ErasesSince, HasReplied, RepliesMore, HasSameReplies, SessionsGoOn}
use Rattle.jffs_serve.proofs.Keeping.{same_but_capacity}
use Rattle.jffs_serve.proofs.Stopping.{stops_at_once, stops_along, still_owed}
use Rattle.jffs_serve.proofs.Erasing.{since_start, since_answer, since_same, since_along}
use Rattle.jffs_serve.proofs.Chains.{chain_stands, runs_more, runs_along, runs_same, runs_from}

-- the step of a request
abbrev pub step_of : Request → Outcome → Option Node → Step
step_of request outcome node = record { writer = request.writer; seq = request.seq; outcome = outcome; node = node }

abbrev pub reply_of : Request → Outcome → Option Node → Reply
reply_of request outcome node = record { request = request; step = step_of request outcome node }

-- a mapped list with more elements
map_more : {A B : Type 0} (f : A → B) (xs ys : List A) (front : List B) → (front ++ map f xs) ++ map f ys ≡ front ++ map f (xs ++ ys)
map_more f xs ys front = append_assoc front (map f xs) (map f ys) ∙ ap (λ l. front ++ l) (sym (map-append f xs ys))

or_more : (a b c : Bool) → ((a || b) || c) ≡ (a || (b || c))
or_more true b c = refl
or_more false b c = refl

-- of a sender, the requests of more replies
of_more : (w : ℕ) (first second : List Reply) (front : List Request)
    → (front ++ of w (map (λ (q : Reply). q.request) first)) ++ of w (map (λ (q : Reply). q.request) second) ≡ front ++ of w (map (λ (q : Reply). q.request) (first ++ second))
of_more w first second front =
    let request_in : Reply → Request = λ (q : Reply). q.request in
    append_assoc front (of w (map request_in first)) (of w (map request_in second))
    ∙ ap (λ (l : List Request). front ++ l) (sym (ap (of w) (map-append request_in first second) ∙ filter-append _ (map request_in first) (map request_in second)))

-- whether more replies closed the session
closed_more : (before : Bool) (first second : List Reply)
    → ((before || any_closed (map answer_in first)) || any_closed (map answer_in second)) ≡ (before || any_closed (map answer_in (first ++ second)))
closed_more before first second =
    or_more before (any_closed (map answer_in first)) (any_closed (map answer_in second))
    ∙ ap (λ (b : Bool). before || b)
    (sym (ap any_closed (map-append answer_in first second) ∙ list_any-append (λ (a : Answer). is_closed a.outcome) (map answer_in first) (map answer_in second)))

-- one request more is taken and answered
pub replied_more :
    (start : Start) (old new : CoreState) (request : Request) (outcome : Outcome) (node : Option Node) (ending : Option Unmounted)
    (put : List Step) (before now : ℕ → List Request) (replies : List Reply)
    → old.closed ≡ false
    → new.answers ≡ old.answers ++ record { writer = request.writer; seq = request.seq; outcome = outcome } ∷ []
    → new.closed ≡ (old.closed || is_closed outcome)
    → HasNode outcome node
    → ((w : ℕ) → now w ≡ before w ++ of w (request ∷ []))
    → HasSizes old.index.sectors old.index.sector_size new.index
    → ((mounted past : List Node) → Represents mounted past old → AnswersWith mounted past old new request outcome node)
    → (old.failed ≡ true → KeepsAnswer request.writer request.seq outcome old new)
    → ErasesAtMost old.index.sectors old new
    → HasReplied start old None put before replies
    → HasReplied start new (Some (Unput (step_of request outcome node) ending)) put now (replies ++ reply_of request outcome node ∷ [])
replied_more start old new request outcome node ending put before now replies opened answers closed made took sizes acts same erased was =
    let r : Reply = reply_of request outcome node in
    record {
      all_taken = λ w. took w ∙ (ap (λ (l : List Request). l ++ of w (request ∷ [])) (was.all_taken w) ∙ of_more w replies (r ∷ []) (start.taken w));
      answered = answers ∙ (ap (λ (l : List Answer). l ++ answer_in r ∷ []) was.answered ∙ map_more answer_in replies (r ∷ []) start.core.answers);
      sent = ap (λ (l : List Step). l ++ r.step ∷ []) (sym (append-nil put) ∙ was.sent) ∙ map_more (λ (q : Reply). q.step) replies (r ∷ []) start.put;
      reply = each_append Replies replies (r ∷ []) was.reply ((refl, refl, made), tt);
      closed = closed
          ∙ (ap (λ (b : Bool). b || is_closed outcome) was.closed
          ∙ (ap (λ (b : Bool). (start.core.closed || any_closed (map answer_in replies)) || b) (sym (or-false (is_closed outcome)))
          ∙ closed_more start.core.closed replies (r ∷ [])));
      failed = λ fails.
          let had = was.failed fails in
          let kept = same had.0 in
          (ap (λ (c : CoreState). c.failed) kept ∙ had.0, ap (λ (c : CoreState). c.index) kept ∙ had.1);
      sizes = (was.sizes.0 ∙ sizes.0, was.sizes.1 ∙ sizes.1);
      erases = since_answer start.core old new replies r request.writer request.seq outcome was.sizes.0 same was.erases erased;
      lawful = λ mounted past stands.
          let run = was.lawful mounted past stands in
          let replied : IsReplied mounted run.after old r new = record {
            answer = acts mounted run.after (chain_stands mounted past run.after start.core old replies stands run.chain);
            opened = opened;
            closed = closed ∙ ap (λ b. b || is_closed outcome) opened;
            kept = same;
            sizes = sizes;
            erases = erased;
          } in
          runs_more start.core old new mounted past replies r run replied;
    }

-- nothing that replies speak of has changed
replied_same :
    (start : Start) (old new : CoreState) (unsent : Option PendingStep) (put : List Step) (before now : ℕ → List Request) (replies : List Reply)
    → new.answers ≡ old.answers → new.closed ≡ old.closed → KeepsHistory old new → ((w : ℕ) → now w ≡ before w)
    → HasReplied start old unsent put before replies → HasReplied start new unsent put now replies
replied_same start old new unsent put before now replies answers closed keeps taken was = record {
  all_taken = λ w. taken w ∙ was.all_taken w;
  answered = answers ∙ was.answered;
  sent = was.sent;
  reply = was.reply;
  closed = closed ∙ was.closed;
  failed = λ fails.
      let had = was.failed fails in
      let kept = keeps.failed had.0 in
      (ap (λ (c : CoreState). c.failed) kept ∙ had.0, ap (λ (c : CoreState). c.index) kept ∙ had.1);
  sizes = (was.sizes.0 ∙ keeps.sizes.0, was.sizes.1 ∙ keeps.sizes.1);
  erases = since_same start.core old new (length replies) keeps was.erases;
  lawful = λ mounted past stands. runs_same start.core old new mounted past replies keeps (was.lawful mounted past stands);
}

-- nothing but the capacity for answers was changed
pub replied_capacity :
    (start : Start) (old new : CoreState) (unsent : Option PendingStep) (put : List Step) (before now : ℕ → List Request) (replies : List Reply)
    → IsSameButCapacity old new → ((w : ℕ) → now w ≡ before w)
    → HasReplied start old unsent put before replies → HasReplied start new unsent put now replies
replied_capacity start old new unsent put before now replies same taken was =
    replied_same start old new unsent put before now replies (ap (λ (s : CoreState). s.answers) same) (ap (λ (s : CoreState). s.closed) same) (same_but_capacity old new same) taken was

-- the unsent step is put
pub replied_put :
    (start : Start) (core : CoreState) (step : Step) (ending : Option Unmounted) (put now : List Step) (taken : ℕ → List Request) (replies : List Reply)
    → now ≡ put ++ step ∷ []
    → HasReplied start core (Some (Unput step ending)) put taken replies → HasReplied start core (Some (Unpublished ending)) now taken replies
replied_put start core step ending put now taken replies is was = record {
  all_taken = was.all_taken;
  answered = was.answered;
  sent = append-nil now ∙ (is ∙ was.sent);
  reply = was.reply;
  closed = was.closed;
  failed = was.failed;
  sizes = was.sizes;
  erases = was.erases;
  lawful = was.lawful;
}

-- nothing is unsent any more of what was put
pub replied_sent :
    (start : Start) (core : CoreState) (unsent : Option PendingStep) (put : List Step) (taken : ℕ → List Request) (replies : List Reply)
    → unput unsent ≡ []
    → HasReplied start core unsent put taken replies → HasReplied start core None put taken replies
replied_sent start core unsent put taken replies is was = record {
  all_taken = was.all_taken;
  answered = was.answered;
  sent = ap (λ (l : List Step). put ++ l) (sym is) ∙ was.sent;
  reply = was.reply;
  closed = was.closed;
  failed = was.failed;
  sizes = was.sizes;
  erases = was.erases;
  lawful = was.lawful;
}

-- no reply more
pub nothing_more :
    {from : Option Unmounted} (start : Start) (core : CoreState) (unsent : Option PendingStep) (put : List Step) (taken : ℕ → List Request) (ending : Option Served)
    → HasReplied start core unsent put taken [] → from ≡ ending_in ending core unsent
    → (replies : List Reply) × HasReplied start core unsent put taken replies × StopsAt from replies (ending_in ending core unsent)
nothing_more start core unsent put taken ending has owes = ([], has, stops_at_once _ _ owes)

pub sessions_go_on : SessionsGoOn
sessions_go_on start old new unsent unsent' put put' taken taken' first second here there = record {
  all_taken = λ w. there.all_taken w
      ∙ (ap (λ (l : List Request). l ++ of w (map (λ (q : Reply). q.request) second)) (here.all_taken w) ∙ of_more w first second (start.taken w));
  answered = there.answered ∙ (ap (λ (l : List Answer). l ++ map answer_in second) here.answered ∙ map_more answer_in first second start.core.answers);
  sent = there.sent ∙ (ap (λ (l : List Step). l ++ map (λ (q : Reply). q.step) second) here.sent ∙ map_more (λ (q : Reply). q.step) first second start.put);
  reply = each_append Replies first second here.reply there.reply;
  closed = there.closed ∙ (ap (λ (b : Bool). b || any_closed (map answer_in second)) here.closed ∙ closed_more start.core.closed first second);
  failed = λ fails.
      let had = here.failed fails in
      let kept = there.failed had.0 in
      (kept.0, kept.1 ∙ had.1);
  sizes = (here.sizes.0 ∙ there.sizes.0, here.sizes.1 ∙ there.sizes.1);
  erases = subst (λ (k : ℕ). ErasesSince start.core k new) (sym (length-append first second))
      (since_along start.core old new (length first) (length second) here.sizes.0 there.failed here.erases there.erases);
  lawful = λ mounted past stands.
      let run = here.lawful mounted past stands in
      runs_along start.core old new mounted past first second run
      (there.lawful mounted run.after (chain_stands mounted past run.after start.core old first stands run.chain));
}

module _ {F : Type 0} where
  -- the beginning: no reply yet
  pub nothing_replied :
      (session : Session F) (put : List Step) (taken : ℕ → List Request)
      → HasReplied (start_of session put taken) session.core session.unsent put taken []
  nothing_replied session put taken = record {
    all_taken = λ w. sym (append-nil (taken w));
    answered = sym (append-nil session.core.answers);
    sent = sym (append-nil (put ++ unput session.unsent));
    reply = tt;
    closed = sym (or-false session.core.closed);
    failed = λ fails. (fails, refl);
    sizes = (refl, refl);
    erases = since_start session.core;
    lawful = λ mounted past stands. runs_from session.core mounted past;
  }

  -- nothing happened
  pub no_reply : (session : Session F) (put : List Step) (taken : ℕ → List Request) → RepliesMore session put taken session put taken None
  no_reply session put taken =
      nothing_more (start_of session put taken) session.core session.unsent put taken None (nothing_replied session put taken) refl

  -- nothing but the capacity for answers was changed
  pub reserved :
      (session : Session F) (core : CoreState) (put : List Step) (taken : ℕ → List Request)
      → IsSameButCapacity session.core core → RepliesMore session put taken (record session { core = core }) put taken None
  reserved session core put taken same =
      nothing_more (start_of session put taken) core session.unsent put taken None
      (replied_capacity (start_of session put taken) session.core core session.unsent put taken taken [] same (λ w. refl) (nothing_replied session put taken))
      (still_owed None session.core core session.unsent session.unsent (ap (λ (s : CoreState). s.closed) same) refl)

  -- two stretches of replies are one, where the first leaves what is owed
  pub then_more :
      (a b c : Session F) (put_a put_b put_c : List Step) (taken_a taken_b taken_c : ℕ → List Request) (between ending : Option Served)
      → ending_in between b.core b.unsent ≡ owed b.core b.unsent
      → RepliesMore a put_a taken_a b put_b taken_b between → RepliesMore b put_b taken_b c put_c taken_c ending → RepliesMore a put_a taken_a c put_c taken_c ending
  then_more a b c put_a put_b put_c taken_a taken_b taken_c between ending owes first second = (
    first.0 ++ second.0,
    sessions_go_on (start_of a put_a taken_a) b.core c.core b.unsent c.unsent put_b put_c taken_b taken_c first.0 second.0 first.1 second.1,
    stops_along _ _ _ first.0 second.0 (subst (StopsAt (owed a.core a.unsent) first.0) owes first.2) second.2,
  )

  -- what follows changes nothing that replies speak of
  pub then_same :
      (a b c : Session F) (put_a put_b : List Step) (taken_a taken_b : ℕ → List Request) (ending : Option Served)
      → RepliesMore a put_a taken_a b put_b taken_b ending → HasSameReplies b c → RepliesMore a put_a taken_a c put_b taken_b ending
  then_same a b c put_a put_b taken_a taken_b ending first same =
      let start = start_of a put_a taken_a in (
        first.0,
        replied_same start b.core c.core c.unsent put_b taken_b taken_b first.0 same.0 same.1 same.3 (λ _. refl)
            (subst (λ (k : Option PendingStep). HasReplied start b.core k put_b taken_b first.0) (sym same.2) first.1),
        subst (StopsAt (owed a.core a.unsent) first.0) (still_owed ending b.core c.core b.unsent c.unsent same.1 same.2) first.2,
      )
