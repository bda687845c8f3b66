use Rattle.std.proofs.Common.{◌≡◌, ◌∙◌, ◌-◌, ◌+◌, ◌≤◌, List, suc, length, inl, inr, sym, ap, subst, arith}
use Rattle.std.proofs.lemmas.Result.{err_from_is_err_and}
use Rattle.jffs_node.specs.declared.node.Node.{Node}
use Rattle.jffs_log.specs.declared.room.Room.TheVariants as rooms
use Rattle.jffs_log.specs.LogIndex.{layout_in}
use Rattle.jffs_core.specs.CoreState.{CoreState}
use Rattle.jffs_core.specs.Past.{RepresentsWorking, has_room_for}
use Rattle.jffs_core.proofs.room.Sweeping.{held_is}
use Rattle.jffs_core.proofs.room.Turning.{HasTurned, turning_begins, turning_cleaned, turning_ends, turning_stopped}
use Rattle.jffs_core.proofs.room.Erasing.{leaves_more, leaves_along}
use Rattle.jffs_core.proofs.mounted_core.Core.make_room.Goals as goal
use Rattle.jffs_core.proofs.mounted_core.Core.make_room.Goals.{In_ok-clean_one}

-- one sector more was cleaned
cleaned : (g : _) (c : In_ok-clean_one g) (past : List Node) → RepresentsWorking past c.args.self.now → (later : List Node) × HasTurned c.args.len (c.held-turn-end.result - (c.loop-turn.turn + 1)) past later c.args.self.now c.clean_one.new.self
cleaned g c past known =
    let v = c.loop-turn.invariant in
    let d = v.done past known in
    let h = d.1 in
    let left : c.held-turn-end.result - c.loop-turn.turn ≡ suc (c.held-turn-end.result - (c.loop-turn.turn + 1)) = omega arith in
    turning_cleaned c.args.len _ _ past d.0 c.args.self.now c.loop-turn.self c.clean_one.new.self v.leaves.sizes (subst (λ j. HasTurned c.args.len j past d.0 c.args.self.now c.loop-turn.self) left h) v.none
    (c.in_ok-clean_one.ensures.cleaned d.0 h.stands.represents)

pub loop-turn-init : goal.loop-turn-init
loop-turn-init g c =
    let works = ap (λ (v : CoreState). v.failed) c.self.view_is ∙ c.requires.working in
    let many = held_is c.self.inside.log.device.image c.self.inside.log.index (c.self.invariant.index works) in
    let is = c.held-turn-end.ensures in
    turning_begins c.args.len _ c.args.self.now c.requires.working c.requires.no_room
    (subst (λ (v : CoreState). c.held-turn-end.result - 0 ≡ length (layout_in v.image v.index).sectors) c.self.view_is (omega arith))
    (subst (λ (v : CoreState). c.held-turn-end.result - 0 ≤ v.index.held) c.self.view_is (omega arith))

pub returns-in_err-clean_one-clause-refused : goal.returns-in_err-clean_one-clause-refused
returns-in_err-clean_one-clause-refused g c = let p = err_from_is_err_and c.from_residual.result c.from_residual.ensures.1 in rw (p.1, p.2) λ past known.
    let v = c.loop-turn.invariant in
    let d = v.done past known in
    let h = d.1 in
    let s = c.in_err-clean_one.ensures.stopped d.0 h.stands.represents in
    let left : c.held-turn-end.result - c.loop-turn.turn ≡ suc (c.held-turn-end.result - (c.loop-turn.turn + 1)) = omega arith in (
      s.0,
      turning_stopped c.args.len _ past d.0 s.0 _ c.args.self.now c.loop-turn.self c.clean_one.new.self v.leaves.sizes (subst (λ j. HasTurned c.args.len j past d.0 c.args.self.now c.loop-turn.self) left h)
          v.none s.1,
    )

pub loop-turn-preserved : goal.loop-turn-preserved
loop-turn-preserved g c =
    let v = c.loop-turn.invariant in
    let e = c.in_ok-clean_one.ensures in
    let few = v.few in
    record {
      works = e.works;
      few = omega arith;
      none = sym c.has_room.ensures ∙ c.if-has_room.false;
      leaves = leaves_along _ 1 _ c.args.self.now c.loop-turn.self c.clean_one.new.self (omega arith) v.works v.leaves e.leaves;
      done = cleaned g (goal.at.loop-turn-preserved g c).In_ok-clean_one;
    }

pub returns-then-has_room-clause-made : goal.returns-then-has_room-clause-made
returns-then-has_room-clause-made g c = λ past known.
    let d = cleaned g (goal.at.returns-then-has_room-clause-made g c).In_ok-clean_one past known in
    (d.0, turning_ends c.args.len _ past d.0 c.args.self.now c.clean_one.new.self d.1 (inr (◌∙◌ {a = has_room_for c.clean_one.new.self rooms.Fresh c.args.len} (sym c.has_room.ensures) c.if-has_room.true)))

pub returns-clause-made : goal.returns-clause-made
returns-clause-made g c = λ past known.
    let d = c.loop-turn.invariant.done past known in
    (d.0, turning_ends c.args.len _ past d.0 c.args.self.now c.loop-turn.self d.1 (inl (omega arith)))

pub returns-then-has_room-clause-leaves : goal.returns-then-has_room-clause-leaves
returns-then-has_room-clause-leaves g c =
    let v = c.loop-turn.invariant in
    let few = v.few in
    leaves_along _ 1 _ c.args.self.now c.loop-turn.self c.clean_one.new.self (omega arith) v.works v.leaves c.in_ok-clean_one.ensures.leaves

pub returns-in_err-clean_one-clause-leaves : goal.returns-in_err-clean_one-clause-leaves
returns-in_err-clean_one-clause-leaves g c =
    let v = c.loop-turn.invariant in
    let few = v.few in
    leaves_along _ 1 _ c.args.self.now c.loop-turn.self c.clean_one.new.self (omega arith) v.works v.leaves c.in_err-clean_one.ensures.leaves

pub returns-clause-leaves : goal.returns-clause-leaves
returns-clause-leaves g c = leaves_more _ _ c.args.self.now c.loop-turn.self (omega arith) c.loop-turn.invariant.leaves
