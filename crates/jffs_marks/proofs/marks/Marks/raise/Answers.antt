use Rattle.std.proofs.Common.{◌≡◌, subst, sym, arith}
use Rattle.jffs_marks.specs.Marks.{Counts, HaveMore, BelongsAt, mark_key}
use Rattle.jffs_marks.proofs.Marking.{raised_from}
use Rattle.jffs_marks.proofs.Places.{InOrder}
use Rattle.jffs_marks.proofs.Searched.{marks_there, raised, rewritten_in_order, entered, entered_in_order}
use Rattle.jffs_marks.proofs.marks.Marks.raise.Goals as goal
use Rattle.jffs_marks.proofs.marks.Marks.raise.Goals.{In-Err-eq0}

pub overflow_add-index_mut : goal.overflow_add-index_mut
overflow_add-index_mut c =
    let is = marks_there _ _ c.self.view_is c.self.invariant.ordered c.args.version c.args.inode _ c.index_mut.result.now c.index_mut.ensures.value c.in-Ok.ensures.there in
    let same = c.make_room.ensures c.args.version c.args.inode in
    omega (arith, is, same, c.requires)

pub invariant_of-self : goal.invariant_of-self
invariant_of-self c =
    record { ordered = rewritten_in_order _ _ c.self.view_is c.self.invariant.ordered _ _ _ c.index_mut.result.now c.index_mut.ensures.value c.in-Ok.ensures.there _ }

pub returns-in-Ok-clause-ok : goal.returns-in-Ok-clause-ok
returns-in-Ok-clause-ok c =
    raised_from c.args.self.now c.make_room.new.self _ c.args.version c.args.inode c.args.count c.make_room.ensures
    (raised _ _ c.self.view_is c.self.invariant.ordered _ _ _ c.index_mut.result.now c.index_mut.ensures.value c.in-Ok.ensures.there c.args.count)

-- The key belongs before all others.
front : (c : In-Err-eq0) → BelongsAt c.make_room.new.self (mark_key c.args.version c.args.inode) 0
front c =
    let zero : c.in-Err-eq0.field-0 ≡ 0 = omega (arith, c.in-Err-eq0.field-0-test) in
    subst (λ n. BelongsAt c.make_room.new.self (mark_key c.args.version c.args.inode) n) zero c.in-Err-eq0.ensures.absent

pub invariant_of-self-in-Continue-branch-2 : goal.invariant_of-self-in-Continue-branch-2
invariant_of-self-in-Continue-branch-2 c =
    record {
      ordered = subst InOrder (sym c.in_ok-push_front-in-Err-eq0.ensures.items)
          (entered_in_order _ _ c.self.view_is c.self.invariant.ordered _ _ _ (front (goal.at.invariant_of-self-in-Continue-branch-2 c).In-Err-eq0) c.args.count);
    }

pub invariant_of-self-in-Continue-branch-3 : goal.invariant_of-self-in-Continue-branch-3
invariant_of-self-in-Continue-branch-3 c =
    record {
      ordered = subst InOrder (sym c.in_ok-insert-in-Err.ensures.items) (entered_in_order _ _ c.self.view_is c.self.invariant.ordered _ _ _ c.in-Err.ensures.absent c.args.count);
    }

pub returns-in_ok-push_front-in-Err-eq0-clause-ok : goal.returns-in_ok-push_front-in-Err-eq0-clause-ok
returns-in_ok-push_front-in-Err-eq0-clause-ok c =
    raised_from c.args.self.now c.make_room.new.self c.push_front.new.self.items c.args.version c.args.inode c.args.count c.make_room.ensures
    (subst (λ (t : Counts). HaveMore c.make_room.new.self t c.args.version c.args.inode c.args.count) (sym c.in_ok-push_front-in-Err-eq0.ensures.items)
    (entered _ _ c.self.view_is c.self.invariant.ordered _ _ _ (front (goal.at.returns-in_ok-push_front-in-Err-eq0-clause-ok c).In-Err-eq0) c.args.count))

pub returns-in_ok-insert-in-Err-clause-ok : goal.returns-in_ok-insert-in-Err-clause-ok
returns-in_ok-insert-in-Err-clause-ok c =
    raised_from c.args.self.now c.make_room.new.self c.insert.new.self.items c.args.version c.args.inode c.args.count c.make_room.ensures
    (subst (λ (t : Counts). HaveMore c.make_room.new.self t c.args.version c.args.inode c.args.count) (sym c.in_ok-insert-in-Err.ensures.items)
    (entered _ _ c.self.view_is c.self.invariant.ordered _ _ _ c.in-Err.ensures.absent c.args.count))
