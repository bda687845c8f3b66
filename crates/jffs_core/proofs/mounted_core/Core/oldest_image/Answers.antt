use Rattle.std.proofs.Common.{◌≡◌, ◌∙◌, false, refl, sym, ap, subst}
use Rattle.std.proofs.lemmas.Result.{on_ok_weaker, IfErr-weaker}
use Rattle.jffs_log.specs.LogState.{LogState}
use Rattle.jffs_core.specs.CoreState.{CoreState}
use Rattle.jffs_core.specs.History.{IsOwnCopy}
use Rattle.jffs_core.specs.Past.{RepresentsWorking, RepresentsPast, IsPast}
use Rattle.jffs_core.proofs.answers.Refusing.{works_past, copies_follow, refused_past}
use Rattle.jffs_core.proofs.puts.Handed.{read_stops, read_known, either_way}
use Rattle.jffs_core.proofs.mounted_core.Core.oldest_image.Goals as goal

pub returns-clause-stands : goal.returns-clause-stands
returns-clause-stands g c = λ mounted past s.
    let old = c.self.inside.log in
    let works : old.failed ≡ false = sym c.failed.ensures ∙ c.if-failed.false in
    let k = s.stands in
    let known = k.working (ap (λ (v : CoreState). v.failed) (sym c.self.view_is) ∙ works) in
    let h = subst (λ (v : CoreState). RepresentsWorking past v) (sym c.self.view_is) known in
    record {
      grown = s.grown;
      stands = either_way c.oldest_image.result (RepresentsPast past _)
          (on_ok_weaker c.oldest_image.result
          (λ same. works_past past _ (ap (λ (l : LogState). l.failed) same ∙ works) (subst (λ (l : LogState). IsPast past l.device.image l.index c.self.inside.tree c.self.inside.limits c.self.inside.clean) (sym same) h))
          c.oldest_image.ensures.same)
          (IfErr-weaker c.oldest_image.result _ _
          (λ why stopped. refused_past (IsOwnCopy past) past past (copies_follow past) why c.args.self.now _
          (read_stops why past old c.oldest_image.new.self c.args.self.now _ stopped works h (ap (λ (v : CoreState). v.faults) (sym c.self.view_is)) (ap (λ (v : CoreState). v.wear) (sym c.self.view_is)) refl refl refl refl refl refl))
          c.oldest_image.ensures.stopped);
    }

pub invariant_of-self : goal.invariant_of-self
invariant_of-self g c =
    read_known c.oldest_image.result c.self.inside.log c.oldest_image.new.self c.self.inside.tree c.self.inside.limits c.self.inside.clean c.oldest_image.ensures.same c.oldest_image.ensures.stopped c.self.invariant
