-- What the end of a run tells of what was accepted.
use Rattle.std.proofs.Common.{◌≡◌, ◌≢◌, ℕ, ◌+◌, inl, inr, ⊎_elim, Bool, true, List, [], ◌∷◌, ◌++◌, length, take, map, refl, sym, ◌∙◌, ap, subst, arith, cond, zero, suc}
use Rattle.std.specs.List.{AllByRecursion}
use Rattle.std.proofs.lemmas.Bool.{cases_lt, cond-true, cond-false, or_cases}
use Rattle.std.proofs.lemmas.Bool.Decides.{eqb_tells}
use Rattle.std.proofs.lemmas.List.{length-map}
use Rattle.std.proofs.Math.Seq.{take-length}
use mathlib.Core.List.{append-eq-nil_iff}
use Rattle.jffs_node.specs.declared.node.Node.{Node}
use Rattle.jffs_tree.specs.declared.wish.Wish.{Wish}
use Rattle.jffs_tree.specs.declared.wish.Wish.TheVariants.{Unmount}
use Rattle.jffs_tree.specs.declared.wish.Outcome.{Outcome}
use Rattle.jffs_tree.specs.declared.wish.Outcome.TheVariants.{Appended, Copied, Closed, Refused}
use Rattle.jffs_tree.specs.declared.wish.Cause.{Cause}
use Rattle.jffs_tree.proofs.decisions.Wishes.{unmount_wish}
use Rattle.jffs_line.specs.declared.request.Request.{Request}
use Rattle.jffs_line.specs.Requests.{of, request}
use Rattle.jffs_log.specs.Image.{past_of}
use Rattle.jffs_core.specs.CoreState.{CoreState}
use Rattle.jffs_core.specs.Answering.{is_closed}
use Rattle.jffs_core.specs.Step.{Volume, Turn, OutcomeIs}
use Rattle.jffs_core.specs.Run.{AreAnswered}
use Rattle.jffs_serve.specs.declared.session.Served.{Served}
use Rattle.jffs_serve.specs.declared.session.Served.TheVariants as ending
use Rattle.jffs_serve.specs.Copies.{IsCopy}
use Rattle.jffs_serve.specs.ChainLaws.{volume_of}
use Rattle.jffs_serve.specs.Replies.{Reply, answer_in, any_closed, RefusesUnmount, FitsServed}
use Rattle.jffs_serve.proofs.ChainLaws.{replies_are_lawful}
use Rattle.jffs_text.specs.declared.command.Command.{Command}
use Rattle.jffs_text.specs.declared.command.Command.TheVariants as command
use Rattle.jffs_text.specs.Wishes.{wish_of, wishes_of}
use Rattle.jffs_run.specs.Numbered.{numbered}
use Rattle.jffs_run.specs.Ends.{AreCopies, commands_at}
use Rattle.jffs_run.specs.Account.{Account}
use Rattle.jffs_run.specs.Headline.{IsRun, requests_in}
use Rattle.jffs_run.specs.Unmounted.{TookAll, AnswersUnmount, FitsEnd, RunsEndUnmounted}

-- a request for an Unmount is the control's only one
abbrev IsControls : Request → Type 0
IsControls q = q.wish ≡ Unmount → q ≡ request 10 1 Unmount

-- no command asks for an Unmount
no_command : (c : Command) → wish_of c ≡ Unmount → ⊥
no_command (command.MakeDir path) is = cc
no_command (command.Create path) is = cc
no_command (command.Write path offset bytes) is = cc
no_command (command.Fill path offset count byte) is = cc
no_command (command.Truncate path size) is = cc
no_command (command.Rename from to) is = cc
no_command (command.Remove path) is = cc

-- nor do the first of a writer's requests
of_commands : (sender n k : ℕ) (commands : List Command) → AllByRecursion IsControls (numbered sender n (take k (wishes_of commands)))
of_commands sender n zero commands = tt
of_commands sender n (suc k) [] = tt
of_commands sender n (suc k) (c ∷ commands) = ((λ is. absurd (no_command c is)), of_commands sender (n + 1) k commands)

-- nor do copies
of_copies : (requests : List Request) → AreCopies requests → AllByRecursion IsControls requests
of_copies [] copies = tt
of_copies (q ∷ requests) copies = ((λ is. absurd (subst IsCopy is copies.0)), of_copies requests copies.1)

front : (P : Request → Type 0) (xs ys : List Request) → AllByRecursion P (xs ++ ys) → AllByRecursion P xs
front P [] ys all = tt
front P (x ∷ xs) ys all = (all.0, front P xs ys all.1)

-- what holds of the requests of each sender holds of all
of_each : (P : Request → Type 0) (requests : List Request) → ((sender : ℕ) → AllByRecursion P (of sender requests)) → AllByRecursion P requests
of_each P [] each = tt
of_each P (q ∷ requests) each =
    let Q : ℕ → Bool → Type 0 = λ sender mine. AllByRecursion P (cond mine (q ∷ of sender requests) (of sender requests)) in (
      elim (eqb_tells q.writer q.writer) [
        | inl same ↦ (subst (Q q.writer) same.0 (each q.writer)).0
        | inr other ↦ absurd (other.1 refl)
      ],
      of_each P requests (λ sender. elim (eqb_tells q.writer sender) [
        | inl same ↦ (subst (Q sender) same.0 (each sender)).1
        | inr other ↦ subst (Q sender) other.0 (each sender)
      ]),
    )

-- an Unmount that was refused is the control's
refused_one : (replies : List Reply) (cause : Cause) → AllByRecursion IsControls (requests_in replies) → RefusesUnmount replies cause → AnswersUnmount replies (Refused cause)
refused_one [] cause all refuses = refuses
refused_one (r ∷ []) cause all refuses = inl (all.0 refuses.0, refuses.1)
refused_one (r ∷ q ∷ replies) cause all refuses = inr (refused_one (q ∷ replies) cause all.1 refuses)

-- only an Unmount is answered Closed
closes_unmount : (o : Outcome) (t : Turn) (q : Request) (copies own : List Node) → OutcomeIs o t q copies own → is_closed o ≡ true → (q.wish ≡ Unmount) × (o ≡ Closed)
closes_unmount (Appended inode version) t q copies own so closed = absurd (cc)
closes_unmount (Copied version) t q copies own so closed = absurd (cc)
closes_unmount Closed t q copies own so closed = (unmount_wish q.wish so.wish, refl)
closes_unmount (Refused cause) t q copies own so closed = absurd (cc)

closed_one :
    (volume : Volume) (past after : List Node) (replies : List Reply)
    → AreAnswered volume past (requests_in replies) (map answer_in replies) after
    → AllByRecursion IsControls (requests_in replies) → any_closed (map answer_in replies) ≡ true → AnswersUnmount replies Closed
closed_one volume past after [] lawful all closed = absurd (cc)
closed_one volume past after (r ∷ replies) lawful all closed =
    let step = lawful.1.step in
    let here : is_closed r.step.outcome ≡ true → AnswersUnmount (r ∷ replies) Closed = λ is.
    let so = closes_unmount r.step.outcome lawful.1.turn r.request step.copies step.own step.outcome is in
    inl (all.0 so.0, so.1) in
    let later : any_closed (map answer_in replies) ≡ true → AnswersUnmount (r ∷ replies) Closed = λ is. inr (closed_one volume lawful.0 after replies lawful.2 all.1 is) in
    ⊎_elim here later (or_cases (is_closed r.step.outcome) (any_closed (map answer_in replies)) closed)

-- where the Unmount was answered, the control has handed it in
asked : (replies : List Reply) (outcome : Outcome) → AnswersUnmount replies outcome → of 10 (requests_in replies) ≡ [] → ⊥
asked [] outcome answers none = answers
asked (r ∷ replies) outcome answers none = elim answers [
  | inl here ↦
      let mine : of 10 (request 10 1 Unmount ∷ requests_in replies) ≡ [] = ap (λ (q : Request). of 10 (q ∷ requests_in replies)) (sym here.0) ∙ none in
      cc
  | inr later ↦ asked replies outcome later (others r.request (requests_in replies) none)
]
  where
    others : (q : Request) (requests : List Request) → of 10 (q ∷ requests) ≡ [] → of 10 requests ≡ []
    others q requests none = elim (eqb_tells q.writer 10) [
      | inl same ↦ absurd (let mine : q ∷ of 10 requests ≡ [] = sym (cond-true _ _ _ same.0) ∙ none in cc)
      | inr other ↦ sym (cond-false _ _ _ other.0) ∙ none
    ]

module _ {start : CoreState} {account : Account} (run : IsRun start account) where
  -- each request for an Unmount that was accepted is the control's
  accepted_unmounts : (sender : ℕ) → AllByRecursion IsControls (account.accepted sender)
  accepted_unmounts sender =
      elim (eqb_tells sender 9) [
        | inl nine ↦ subst (λ (s : ℕ). AllByRecursion IsControls (account.accepted s)) (sym nine.1) (of_copies (account.accepted 9) run.cleaner.0)
        | inr not_nine ↦ elim (eqb_tells sender 10) [
          | inl ten ↦ subst (λ (s : ℕ). AllByRecursion IsControls (account.accepted s)) (sym ten.1) (elim run.control [
            | inl none ↦ subst (AllByRecursion IsControls) (sym none) tt
            | inr one ↦ subst (AllByRecursion IsControls) (sym one) ((λ is. refl), tt)
          ])
          | inr not_ten ↦ of_writers sender not_nine.1 not_ten.1
        ]
      ]
    where
      of_writers : (sender : ℕ) → sender ≢ 9 → sender ≢ 10 → AllByRecursion IsControls (account.accepted sender)
      of_writers zero not_nine not_ten = subst (AllByRecursion IsControls) (sym (run.others zero (λ slot below is. absurd (omega arith)) not_nine not_ten)) tt
      of_writers (suc slot) not_nine not_ten = elim (cases_lt slot (length account.script)) [
        | inl below ↦
            let same : slot + 1 ≡ suc slot = omega arith in
            subst (λ (s : ℕ). AllByRecursion IsControls (account.accepted s)) same
            (subst (AllByRecursion IsControls) (sym (run.writers slot below)) (of_commands (slot + 1) 1 (length (account.accepted (slot + 1))) (commands_at account.script slot)))
        | inr beyond ↦ subst (AllByRecursion IsControls) (sym (run.others (suc slot) (λ other below is. absurd (omega arith)) not_nine not_ten)) tt
      ]

  answered_unmounts : AllByRecursion IsControls (requests_in run.replies)
  answered_unmounts = of_each IsControls (requests_in run.replies)
      (λ sender. front IsControls (of sender (requests_in run.replies)) (of sender account.waiting) (subst (AllByRecursion IsControls) (sym (run.each sender)) (accepted_unmounts sender)))

  -- where the Unmount was answered, all commands were accepted
  took_all : (outcome : Outcome) → AnswersUnmount run.replies outcome → TookAll account.script account.accepted
  took_all outcome answers = elim run.offered [
    | inl idle ↦ absurd (asked run.replies outcome answers (append-eq-nil_iff.0 (run.each 10 ∙ idle)).0)
    | inr all ↦ λ slot below.
        let wishes : List Wish = wishes_of (commands_at account.script slot) in
        let many : length (account.accepted (slot + 1)) ≡ length wishes = all slot below ∙ sym (length-map (commands_at account.script slot) wish_of) in
        run.writers slot below ∙ ap (numbered (slot + 1) 1) (ap (λ (k : ℕ). take k wishes) many ∙ take-length wishes)
  ]

pub runs_end_unmounted : RunsEndUnmounted
runs_end_unmounted before start account fresh run =
    elim account.served as (λ (s : Served). FitsServed s (any_closed account.answers) run.replies → FitsEnd s account.script account.accepted run.replies) [
      | ending.Closed ↦ λ closed.
          let mounted = past_of fresh.scanned.log in
          let ran = run.lawful mounted mounted fresh.stands in
          let lawful = replies_are_lawful start run.core mounted mounted run.replies run.each_replies ran in
          let now : any_closed (map answer_in run.replies) ≡ true = sym (ap any_closed run.answers_are) ∙ closed in
          let answered = closed_one (volume_of start) mounted ran.after run.replies lawful.each (answered_unmounts run) now in
          (answered, took_all run Closed answered)
      | ending.NotClosed cause ↦ λ refuses.
          let answered = refused_one run.replies cause (answered_unmounts run) refuses in
          (answered, took_all run (Refused cause) answered)
      | ending.Ended ↦ λ ended. tt
      | ending.Memory ↦ λ refused. tt
    ] run.ending
