use Rattle.std.proofs.Common.{◌∙◌, inl, sym, ap, subst}
use Rattle.std.proofs.lemmas.Result.{IfOk-weaker, IfErr-weaker}
use Rattle.jffs_core.specs.CoreState.{CoreState}
use Rattle.jffs_core.specs.Past.{RepresentsWorking}
use Rattle.jffs_core.proofs.answers.Refusing.{works_past}
use Rattle.jffs_core.proofs.puts.Trees.{tree_kept}
use Rattle.jffs_core.proofs.room.Called.{erased_keeps, device_stop}
use Rattle.jffs_core.proofs.mounted_core.Core.erase_dead.Goals as goal

pub returns-clause-erased : goal.returns-clause-erased
returns-clause-erased g c =
    let works = ap (λ (v : CoreState). v.failed) (sym c.self.view_is) ∙ sym c.failed.ensures ∙ c.if-failed.false in
    IfOk-weaker c.erase_while_dead.result _ _
    (λ count h mounted past s.
    let e = h past (let k = s.stands in k.working works) in
    record {
      works = works;
      still_works = e.stands.works;
      faults = e.stands.faults;
      programs = e.stands.programs;
      stands = record { grown = s.grown; stands = works_past past _ e.stands.works e.stands.represents };
      log = e.log;
      dead = e.dead;
      last = e.last;
      two = erased_keeps count c.args.self.now c.erase_while_dead.new.self e.log;
    }) c.erase_while_dead.ensures.erased

pub returns-clause-stopped : goal.returns-clause-stopped
returns-clause-stopped g c =
    let works = ap (λ (v : CoreState). v.failed) (sym c.self.view_is) ∙ sym c.failed.ensures ∙ c.if-failed.false in
    IfErr-weaker c.erase_while_dead.result _ _
    (λ cause h. record {
      either = inl h.cause_is;
      history = λ mounted past s. device_stop mounted past cause c.args.self.now c.erase_while_dead.new.self works s h.cause_is (h.history past (let k = s.stands in k.working works));
    }) c.erase_while_dead.ensures.stopped

pub returns-clause-tree : goal.returns-clause-tree
returns-clause-tree g c =
    let works = ap (λ (v : CoreState). v.failed) (sym c.self.view_is) ∙ sym c.failed.ensures ∙ c.if-failed.false in
    let past = c.self.invariant.past (sym c.failed.ensures ∙ c.if-failed.false) in
    let known = subst (λ (v : CoreState). RepresentsWorking past.0 v) c.self.view_is past.1 in
    let done = c.erase_while_dead.ensures in
    tree_kept past.0 c.args.self.now c.erase_while_dead.new.self c.erase_while_dead.result works known done.erased done.stopped
