use Rattle.std.proofs.Common.{rules, inl, inr, ◌≡◌, List, ◌++◌, sym, ◌∙◌, ap, ap₂, subst, arith, vec_len, Option, Some, None, IfSome}
use Rattle.jffs_line.specs.Line.{senders}
use Rattle.jffs_core.specs.CoreState.{CoreState}
use Rattle.jffs_index.specs.declared.step.Step.{Step}
use Rattle.jffs_index.specs.declared.rule.History.{History}
use Rattle.jffs_index.specs.Histories.{opening_of}
use Rattle.jffs_index.specs.Ends.{published, pending, all_put}
use Rattle.jffs_serve.specs.declared.session.PendingStep.{PendingStep}
use Rattle.jffs_serve.specs.PendingStep.{unput}
use Rattle.jffs_serve.specs.Answered.{Start, start_of}
use Rattle.jffs_serve.specs.declared.session.Unmounted.{Unmounted}
use Rattle.jffs_serve.specs.Stopping.{ending_in, StopsAt}
use Rattle.jffs_log.proofs.Results.{err_from}
use Rattle.jffs_serve.proofs.Stopping.{nothing_owed}
use Rattle.jffs_serve.proofs.Showing.{can_begin}
use Rattle.jffs_run.proofs.ends.Runs.{whole_run, new_hands, count_writers}
use Rattle.jffs_run.specs.Faults.{GivesBack, LeftByRun}
use Rattle.jffs_run.specs.Why.{IsOfThreads}
use Rattle.jffs_run.specs.declared.fault.RunWhy.{RunWhy}
use Rattle.jffs_run.proofs.asked.Asked.{given_up_at_once, left_by_run}
use Rattle.jffs_run.proofs.ends.Faults.{gives_back_so, threads_later, index_mounted}
use Rattle.jffs_run.proofs.run.run_over.Goals as goal
use Rattle.jffs_run.proofs.run.run_over.Goals.{After-run_all-finished}

-- nothing was owed when serving began, so it stopped with the first answer by which it ends
stops : (g : _) (c : After-run_all-finished g) → let log = c.run_all-finished.result.log in
    StopsAt None c.run_all-finished.ensures.finished.served.replies.0 (ending_in (Some log.served) log.side.session.core log.side.session.unsent)
stops g c =
    let log = c.run_all-finished.result.log in
    let more = c.run_all-finished.ensures.finished.served.replies in
    let opened = ap (λ (s : CoreState). s.closed) c.new.ensures.core ∙ c.requires.core.1 in
    subst (λ (from : Option Unmounted). StopsAt from more.0 (ending_in (Some log.served) log.side.session.core log.side.session.unsent))
    (nothing_owed c.new.result.core c.new.result.unsent c.new.ensures.unsent opened) more.2

pub run_all-finished-requires-clause-crew : goal.run_all-finished-requires-clause-crew
run_all-finished-requires-clause-crew g c κs within =
    let line = c.requires.line in
    let hands = c.args.line.hands in
    let fresh = new_hands g.T.Of.Hand hands line.fresh in
    let many = count_writers g.T.Of.Hand hands.writers.items hands.cleaner hands.control.hand (vec_len c.args.script.now.writers) line.numbers in
    let same : vec_len hands.writers ≡ vec_len c.args.script.now.writers = let ok = hands.writers.ok in omega (arith, many) in
    record {
      writers = record {
        fresh = fresh.0;
        count = same;
        eight = let eight = line.eight in omega (arith, same);
      };
      unused = fresh.1;
      idle = fresh.2;
      readers = search rules;
      looking = c.in-Ok.ensures.looking;
    }

pub run_all-finished-requires-clause-ready : goal.run_all-finished-requires-clause-ready
run_all-finished-requires-clause-ready g c κs within =
    let opened = c.in-Ok.ensures.published in
    can_begin c.new.result c.in-Ok.opened.publisher c.new.ensures.unsent (opened.0 ∙ ap (λ (s : CoreState). opening_of s.tree) (sym c.new.ensures.core)) opened.1

pub settle_all-requires : goal.settle_all-requires
settle_all-requires g c =
    let ran = c.run_all-finished.ensures.finished in
    record { ends = ran.ends ∙ (c.requires.line.ends_are ∙ sym ran.hands.ends) }

pub returns-clause-run : goal.returns-clause-run
returns-clause-run g c =
    let line = c.requires.line in
    let script = c.args.script.now in
    let finished = c.run_all-finished.result in
    let ran = c.run_all-finished.ensures.finished in
    let settled = c.in_ok-run.ensures in
    let taken = g.T.Taker.taken c.args.line.taker in
    let put : List Step = (all_put c.in-Ok.opened.publisher).steps in
    let start : Start = start_of c.new.result put taken in
    let more = ran.served.replies in
    let no_fault = settled.rest.3 in
    let opened = c.in-Ok.ensures.published in
    let run = whole_run g.T.Of.Hand script.writers.items script.cleaner script.readers.items _ finished.hands
    finished.log.side.session.core finished.log.side.session.unsent (published finished.log.side.publisher) (pending finished.log.side.publisher)
    start (g.T.Taker.taken finished.log.side.taker) more.0 c.in_ok-run.run'.waiting.items finished.readers.items finished.log.served _ _
    (let eight = line.eight in omega (arith, script.writers.ok.0)) (line.numbers ∙ ap senders script.writers.ok.0) ran.hands (ran.whole no_fault)
    line.untaken (ap (λ (s : CoreState). s.answers) c.new.ensures.core ∙ c.requires.core.0)
    (ap₂ (λ (s : List Step) (k : Option PendingStep). s ++ unput k) (ap₂ (λ (h : History) (s : List Step). h.steps ++ s) opened.0 opened.1) c.new.ensures.unsent)
    (ran.served.opening ∙ (ap (λ (h : History). h.opening) opened.0 ∙ sym (ap (λ (s : CoreState). s.tree) c.new.ensures.core)))
    more.1 settled.settled.each settled.settled.numbered settled.settled.others (ran.readers no_fault) settled.left.0 settled.left.1 (stops g (goal.at.returns-clause-run g c).After-run_all-finished) in
    rw (← c.new.ensures.core, c.of-accepted.ensures, settled.rest.0, settled.rest.1, settled.rest.2) run

pub returns-in-Err-clause-fault : goal.returns-in-Err-clause-fault
returns-in-Err-clause-fault g c =
    given_up_at_once g.F.Flash c.args.script.now.writers.items c.args.script.now.cleaner c.args.core _ _ (index_mounted _ c.in-Err.ensures.refused) c.requires.core.0 c.given_up.ensures

pub returns-in_err-run-clause-fault : goal.returns-in_err-run-clause-fault
returns-in_err-run-clause-fault g c =
    let line = c.requires.line in
    let script = c.args.script.now in
    let finished = c.run_all-finished.result in
    let ran = c.run_all-finished.ensures.finished in
    let settled = c.in_err-run.ensures in
    let start : Start = start_of c.new.result (all_put c.in-Ok.opened.publisher).steps (g.T.Taker.taken c.args.line.taker) in
    let more = ran.served.replies in
    let turned = gives_back_so g.F.Flash _ (LeftByRun script.writers.items script.cleaner c.args.core) _
    (λ why rest given.
    let later = threads_later why (elim given.0 [ inl threads ↦ inl (subst (λ (o : Option RunWhy). IfSome o IsOfThreads) threads ran.named) | inr settle ↦ inr settle ]) in
    left_by_run g.T.Of.Hand script.writers.items _ finished.hands c.args.core finished.log.side.session.core _ _ start _ more.0 _ why rest c.new.ensures.core
    (ap (λ (s : CoreState). s.answers) c.new.ensures.core ∙ c.requires.core.0) (line.numbers ∙ ap senders script.writers.ok.0) ran.hands line.untaken more.1 settled.taken (stops g (goal.at.returns-in_err-run-clause-fault g c).After-run_all-finished) later given.1)
    settled.fault in
    err_from c.from_residual.result _ (GivesBack g.F.Flash (LeftByRun script.writers.items script.cleaner c.args.core)) c.from_residual.ensures.1 turned
