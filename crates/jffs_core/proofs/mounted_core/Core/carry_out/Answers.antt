use Rattle.std.proofs.Common.{◌≡◌, ◌∙◌, false, ◌&&◌, inl, inr, refl, sym, ap, subst, Result, Err, IsOk}
use Rattle.std.proofs.lemmas.Result.{err_from_is_err_and}
use Rattle.std.proofs.lemmas.Bool.{and_left, and_right}
use Rattle.jffs_tree.specs.declared.wish.Cause.{Cause}
use Rattle.jffs_tree.specs.declared.wish.NewNode.{NewNode}
use Rattle.jffs_tree.specs.Decide.{decide_on, is_unmount_wish}
use Rattle.jffs_core.specs.CoreState.{CoreState}
use Rattle.jffs_log.specs.Room.{limits as limits_of}
use Rattle.jffs_core.proofs.answers.Deciding.{decided_cause}
use Rattle.jffs_core.proofs.answers.Asked.{decision_is}
use Rattle.jffs_core.proofs.answers.Stepping.{already_closed, decided_against, granted, which_refusal}
use Rattle.jffs_core.proofs.mounted_core.Core.carry_out.Goals as goal
use Rattle.jffs_core.proofs.mounted_core.Core.carry_out.Goals.{else-self-via-then-self+else-is_unmount, else-self-via-else-self}

pub returns-then-is_unmount-clause-acted : goal.returns-then-is_unmount-clause-acted
returns-then-is_unmount-clause-acted g c = λ past known.
    already_closed past _ _ c.args.request.now c.requires.working known refl (sym c.is_unmount.ensures ∙ c.if-is_unmount.true) (ap (λ (v : CoreState). v.clean) (sym c.self.view_is) ∙ c.if-self.true)

pub returns-in_err-new-clause-acted : goal.returns-in_err-new-clause-acted
returns-in_err-new-clause-acted g c = let p = err_from_is_err_and c.from_residual.result c.from_residual.ensures.1 in rw (p.1, p.2) λ past known.
    let q = c.args.request.now in
    let v : CoreState = c.args.self.now in
    let takes : (is_unmount_wish q.wish && v.clean) ≡ false =
    elim c.else-self.branch [
      | else-self-via-then-self+else-is_unmount w ↦ and_left (is_unmount_wish q.wish) v.clean (sym w.is_unmount.ensures ∙ w.if-is_unmount.false)
      | else-self-via-else-self w ↦ and_right (is_unmount_wish q.wish) v.clean (ap (λ (s : CoreState). s.clean) (sym c.self.view_is) ∙ w.if-self.false)
    ] in
    let seen : decide_on c.self.inside.tree c.self.inside.limits q.wish ≡ decide_on v.tree v.limits q.wish = ap (λ (s : CoreState). decide_on s.tree s.limits q.wish) c.self.view_is in
    decided_against past _ _ q c.requires.working known _ refl takes
    (elim (which_refusal _ (decide_on v.tree v.limits q.wish)) [
      | inl other ↦
          let is : decide_on v.tree v.limits q.wish ≡ Err _ = sym (c.in_err-new.ensures.decided other ∙ seen) in
          inr (decided_cause past (limits_of v.index.sector_size past) q.wish _ (decision_is past v q known ∙ is), is)
      | inr memory ↦ inl (memory, granted (decide_on v.tree v.limits q.wish) (subst (λ (r : Result NewNode Cause). IsOk r) seen (c.in_err-new.ensures.last (ap (λ (k : Cause). Err k) memory))))
    ])
