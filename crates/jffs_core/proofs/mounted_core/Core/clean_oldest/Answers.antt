use Rattle.std.proofs.Common.{◌∙◌, sym, ap}
use Rattle.std.proofs.lemmas.Result.{IfOk-weaker, IfErr-weaker}
use Rattle.jffs_core.specs.CoreState.{CoreState}
use Rattle.jffs_core.proofs.room.Called.{did_clean, did_stop}
use Rattle.jffs_core.proofs.mounted_core.Core.clean_oldest.Goals as goal

pub returns-clause-cleaned : goal.returns-clause-cleaned
returns-clause-cleaned g c =
    let works = ap (λ (v : CoreState). v.failed) (sym c.self.view_is) ∙ sym c.failed.ensures ∙ c.if-failed.false in
    IfOk-weaker c.clean_one.result _ _ (λ done h mounted past s. did_clean mounted past done c.args.self.now c.clean_one.new.self works s (h past (let k = s.stands in k.working works))) c.clean_one.ensures.cleaned

pub returns-clause-stopped : goal.returns-clause-stopped
returns-clause-stopped g c =
    let works = ap (λ (v : CoreState). v.failed) (sym c.self.view_is) ∙ sym c.failed.ensures ∙ c.if-failed.false in
    IfErr-weaker c.clean_one.result _ _ (λ cause h mounted past s. did_stop mounted past cause c.args.self.now c.clean_one.new.self works s (h past (let k = s.stands in k.working works))) c.clean_one.ensures.stopped
