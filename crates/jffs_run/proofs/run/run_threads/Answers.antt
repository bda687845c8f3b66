use Rattle.std.proofs.Common.{inl, inr, refl}
use Rattle.std.proofs.lemmas.Result.{IfOk-weaker, IfErr-weaker}
use Rattle.jffs_run.proofs.ends.Faults.{gives_back, gives_back_so}
use Rattle.jffs_run.proofs.run.run_threads.Goals as goal

pub returns-clause-run : goal.returns-clause-run
returns-clause-run g c = IfOk-weaker c.run_mounted.result _ _ (λ run is. (c.in-Ok.core, c.in-Ok.ensures.mounted, c.in-Ok.ensures.unworn, is)) c.run_mounted.ensures.run

pub returns-clause-fault : goal.returns-clause-fault
returns-clause-fault g c =
    IfErr-weaker c.run_mounted.result _ _
    (λ fault given.
    gives_back_so g.F.Flash _ _ fault
    (λ why rest left. inr (record { start = c.in-Ok.core; fresh = c.in-Ok.ensures.mounted; worn = c.in-Ok.ensures.unworn; left = left })) given)
    c.run_mounted.ensures.fault

pub returns-in-Err-clause-fault : goal.returns-in-Err-clause-fault
returns-in-Err-clause-fault g c =
    gives_back g.F.Flash _ _ _ _ _ c.with_flash.ensures
    (inl (refl, record { reason = _; refused = c.in-Err.ensures.refused; worn = c.in-Err.ensures.unworn; none = c.new.ensures.items }))
