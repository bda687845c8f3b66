use Rattle.std.proofs.Common.{length, ap, arith}
use Rattle.std.proofs.lemmas.Bool.{both_ways}
use Rattle.std.proofs.lemmas.Result.{err_from_is_err_and}
use Rattle.jffs_log.specs.LogIndex.{layout_in}
use Rattle.jffs_log.specs.Cleaning.{Layout}
use Rattle.jffs_core.specs.Cleaning.{IsDeadOldest}
use Rattle.jffs_core.proofs.answers.Refusing.{fails_along}
use Rattle.jffs_core.proofs.room.Erasing.{erased_none, erased_along, erasing_goes_on, leaves_within, one_fewer}
use Rattle.jffs_core.proofs.mounted_core.Core.erase_while_dead.Goals as goal

pub overflow_add-erased : goal.overflow_add-erased
overflow_add-erased g c =
    let few = c.requires.few in
    let left = c.loop-self.invariant.left in
    let dead : IsDeadOldest c.loop-self.self = c.is_dead_oldest.ensures.0 c.loop-self-test.true in
    let several = dead.several in
    omega arith

pub loop-self-preserved : goal.loop-self-preserved
loop-self-preserved g c =
    let e = c.in_ok-erase_oldest.ensures in
    let dead : IsDeadOldest c.loop-self.self = c.is_dead_oldest.ensures.0 c.loop-self-test.true in
    erasing_goes_on c.loop-self.erased c.args.self.now c.loop-self.self c.erase_oldest.new.self c.loop-self.invariant dead e.erased e.leaves e.erases

pub returns-clause-erased : goal.returns-clause-erased
returns-clause-erased g c = λ past known.
    let v = c.loop-self.invariant in
    record { stands = v.done past known; log = v.log; dead = v.dead past known; last = λ dead. both_ways _ c.loop-self-test.false (c.is_dead_oldest.ensures.1 dead) }

pub returns-in_err-erase_oldest-clause-stopped : goal.returns-in_err-erase_oldest-clause-stopped
returns-in_err-erase_oldest-clause-stopped g c =
    let p = err_from_is_err_and c.from_residual.result c.from_residual.ensures.1 in
    let stopped = c.in_err-erase_oldest.ensures.stopped in
    rw (p.1, p.2) (record {
      cause_is = stopped.cause_is;
      history = λ past known.
          let d = c.loop-self.invariant.done past known in
          fails_along (λ n. ⊥) past past past c.args.self.now c.loop-self.self c.erase_oldest.new.self d (stopped.history past d.represents);
    })

pub returns-in_err-erase_oldest-clause-leaves : goal.returns-in_err-erase_oldest-clause-leaves
returns-in_err-erase_oldest-clause-leaves g c =
    let v = c.loop-self.invariant in
    let before = v.erases in
    let e = c.in_err-erase_oldest.ensures in
    let one = e.erases in
    let more = one.erases in
    leaves_within _ 1 _ c.args.self.now c.loop-self.self c.erase_oldest.new.self (omega arith) v.works v.leaves e.leaves

pub returns-clause-erases : goal.returns-clause-erases
returns-clause-erases g c = let v = c.loop-self.invariant in erased_along c.args.self.now c.loop-self.self c.loop-self.self v.erases (let leaves = v.leaves in leaves.device) v.works (erased_none c.loop-self.self)

pub returns-in_err-erase_oldest-clause-erases : goal.returns-in_err-erase_oldest-clause-erases
returns-in_err-erase_oldest-clause-erases g c = let v = c.loop-self.invariant in erased_along c.args.self.now c.loop-self.self c.erase_oldest.new.self v.erases (let leaves = v.leaves in leaves.device) v.works c.in_err-erase_oldest.ensures.erases

pub loop-self-smaller : goal.loop-self-smaller
loop-self-smaller g c =
    let e = ap (λ (l : Layout). length l.sectors) (let erased = c.in_ok-erase_oldest.ensures.erased in erased.log) in
    let dead : IsDeadOldest c.loop-self.self = c.is_dead_oldest.ensures.0 c.loop-self-test.true in
    let f = one_fewer (layout_in c.loop-self.self.image c.loop-self.self.index).sectors dead.several in
    omega arith
