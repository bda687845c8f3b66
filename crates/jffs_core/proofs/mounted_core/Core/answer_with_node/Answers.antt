use Rattle.std.proofs.Common.{◌≡◌, ◌≤◌, ◌∙◌, true, false, List, sym, ap, subst}
use Rattle.jffs_node.specs.declared.node.Node.{Node}
use Rattle.jffs_core.specs.CoreState.{CoreState}
use Rattle.jffs_core.specs.declared.answer.Answered.{Answered}
use Rattle.jffs_core.specs.Answering.{AnswersWith}
use Rattle.jffs_core.specs.Past.{RepresentsWorking}
use Rattle.jffs_core.specs.Trees.{TellsNode}
use Rattle.jffs_core.proofs.answers.Stepping.{answered, failed_answer}
use Rattle.jffs_core.proofs.answers.Told.{node_told}
use Rattle.jffs_core.proofs.puts.Trees.{tells_node}
use Rattle.jffs_core.proofs.room.Erasing.{answer_bounded, held_most}
use Rattle.jffs_core.proofs.mounted_core.Core.answer_with_node.Goals as goal
use Rattle.jffs_core.proofs.mounted_core.Core.answer_with_node.Goals.{After-carry_out, After-refuse}

-- the core works
works : (g : _) (c : After-carry_out g) → c.args.self.now.failed ≡ false
works g c = ap (λ (v : CoreState). v.failed) (sym c.self.view_is) ∙ sym c.failed.ensures ∙ c.if-failed.false

-- it represents some history
known : (g : _) (c : After-carry_out g) → (past : List Node) × RepresentsWorking past c.args.self.now
known g c = let past = c.self.invariant.past (sym c.failed.ensures ∙ c.if-failed.false) in (past.0, subst (RepresentsWorking past.0) c.self.view_is past.1)

-- and no more sectors hold its log than there are
few : (g : _) (c : After-carry_out g) → c.args.self.now.index.held ≤ c.args.self.now.index.sectors
few g c =
    let v = c.self.inside in
    let fine = sym c.failed.ensures ∙ c.if-failed.false in
    let past = c.self.invariant.past fine in
    subst (λ (v : CoreState). v.index.held ≤ v.index.sectors) c.self.view_is (held_most past.0 v.log.device.image v.log.index v.tree v.limits v.clean (c.self.invariant.index fine) past.1)

-- the core has failed
fails : (g : _) (c : After-refuse g) → c.args.self.now.failed ≡ true
fails g c = ap (λ (v : CoreState). v.failed) (sym c.self.view_is) ∙ sym c.failed.ensures ∙ c.if-failed.true

pub returns-then-failed-clause-step : goal.returns-then-failed-clause-step
returns-then-failed-clause-step g c = λ mounted past stands.
    let q = c.args.request.now in
    subst (λ (a : Answered). AnswersWith mounted past c.args.self.now c.refuse.new.self q a.outcome a.node) (sym c.refuse.ensures.told)
    (answered q.writer q.seq _ _ mounted past c.args.self.now c.args.self.now c.refuse.new.self q stands.grown (failed_answer past c.args.self.now q (fails g c) stands.stands) c.refuse.ensures.kept)

pub returns-in-Ok-clause-step : goal.returns-in-Ok-clause-step
returns-in-Ok-clause-step g c = λ mounted past stands.
    let q = c.args.request.now in
    answered q.writer q.seq _ _ mounted past _ c.carry_out.new.self c.push_answer.new.self q stands.grown (c.in-Ok.ensures.acted past (stands.stands.working (works g (goal.at.returns-in-Ok-clause-step g c).After-carry_out))) c.push_answer.ensures.kept

pub returns-in-Err-clause-step : goal.returns-in-Err-clause-step
returns-in-Err-clause-step g c = λ mounted past stands.
    let q = c.args.request.now in
    subst (λ (a : Answered). AnswersWith mounted past c.args.self.now c.refuse-in-Err.new.self q a.outcome a.node) (sym c.refuse-in-Err.ensures.told)
    (answered q.writer q.seq _ _ mounted past _ c.carry_out.new.self c.refuse-in-Err.new.self q stands.grown (c.in-Err.ensures.acted past (stands.stands.working (works g (goal.at.returns-in-Err-clause-step g c).After-carry_out))) c.refuse-in-Err.ensures.kept)

pub returns-in-Ok-clause-node : goal.returns-in-Ok-clause-node
returns-in-Ok-clause-node g c =
    let past = known g (goal.at.returns-in-Ok-clause-node g c).After-carry_out in
    let acted = c.in-Ok.ensures.acted past.0 past.1 in
    node_told _ c.args.request.now _ acted.after _ acted.step acted.own

pub returns-in-Ok-clause-tree : goal.returns-in-Ok-clause-tree
returns-in-Ok-clause-tree g c =
    let at = (goal.at.returns-in-Ok-clause-tree g c).After-carry_out in
    let past = known g at in
    let q = c.args.request.now in
    tells_node past.0 c.args.self.now c.carry_out.new.self c.push_answer.new.self q q.writer q.seq _ _ (works g at) past.1 (c.in-Ok.ensures.acted past.0 past.1) c.push_answer.ensures.kept

pub returns-in-Err-clause-tree : goal.returns-in-Err-clause-tree
returns-in-Err-clause-tree g c =
    let at = (goal.at.returns-in-Err-clause-tree g c).After-carry_out in
    let past = known g at in
    let q = c.args.request.now in
    subst (λ (a : Answered). TellsNode c.args.self.now c.refuse-in-Err.new.self a.node) (sym c.refuse-in-Err.ensures.told)
    (tells_node past.0 c.args.self.now c.carry_out.new.self c.refuse-in-Err.new.self q q.writer q.seq _ _ (works g at) past.1 (c.in-Err.ensures.acted past.0 past.1) c.refuse-in-Err.ensures.kept)

pub returns-in-Ok-clause-bounded : goal.returns-in-Ok-clause-bounded
returns-in-Ok-clause-bounded g c =
    let at = (goal.at.returns-in-Ok-clause-bounded g c).After-carry_out in
    answer_bounded c.args.self.now c.carry_out.new.self c.push_answer.new.self c.args.request.now _ (few g at) c.carry_out.ensures.leaves c.push_answer.ensures.kept c.push_answer.ensures.held

pub returns-in-Err-clause-bounded : goal.returns-in-Err-clause-bounded
returns-in-Err-clause-bounded g c =
    let at = (goal.at.returns-in-Err-clause-bounded g c).After-carry_out in
    answer_bounded c.args.self.now c.carry_out.new.self c.refuse-in-Err.new.self c.args.request.now _ (few g at) c.carry_out.ensures.leaves c.refuse-in-Err.ensures.kept c.refuse-in-Err.ensures.held
