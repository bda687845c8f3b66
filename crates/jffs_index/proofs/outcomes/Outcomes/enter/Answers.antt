use Rattle.std.proofs.Common.{Some, None, is_some, cond, eqb, sym, ap, ◌∙◌}
use Rattle.std.specs.Map.{lookup}
use Rattle.std.specs.BTreeMap.{is_at}
use Rattle.jffs_index.specs.Blocks.{Blocks, slot_in}
use Rattle.jffs_index.specs.Outcomes.{Outcomes, request_cmp, with_outcome}
use Rattle.jffs_index.proofs.Blocks.{outcome_set, outcome_found, no_outcome, put_back}
use Rattle.jffs_index.proofs.outcomes.Outcomes.enter.Goals as goal

pub returns-in-Some-clause-entered : goal.returns-in-Some-clause-entered
returns-in-Some-clause-entered c =
    let slots = c.set.new.self in
    let written = c.get_mut.follows.holds slots in
    outcome_set c.self.inside.by_block.entries (c.get_mut.follows.lender slots).entries _ _ _ c.slot_of.result c.block_of.ensures c.slot_of.ensures (Some c.args.outcome) slots record {
      block = (written.3 (ap is_some (sym c.in-Some.ensures.value))).0;
      held = λ i. c.set.ensures.set i ∙ ap (λ o. cond (eqb i c.slot_of.result) (Some c.args.outcome) (slot_in o i)) c.in-Some.ensures.value;
    }
    ∙ ap (λ (z : Outcomes). with_outcome z c.args.writer c.args.seq c.args.outcome) c.self.view_is

pub returns-in-Some-clause-back : goal.returns-in-Some-clause-back
returns-in-Some-clause-back c =
    let old = c.self.inside.by_block.entries in
    put_back old _ _ c.args.outcome c.set.result _ _ c.self.view_is (returns-in-Some-clause-entered c)
    (c.set.ensures.held ∙ outcome_found old _ _ _ c.block_of.ensures _ c.slot_of.ensures (Some c.in-Some.block.now) c.in-Some.ensures.value)

pub returns-clause-entered : goal.returns-clause-entered
returns-clause-entered c =
    let slots = c.set-2.new.self in
    outcome_set c.self.inside.by_block.entries c.insert.new.self.entries _ _ _ c.slot_of-2.result c.block_of.ensures c.slot_of-2.ensures (Some c.args.outcome) slots record {
      block = λ q. c.in_ok-insert.ensures.updates.0 q
          ∙ ap (λ (es : Blocks). cond (is_at (request_cmp (c.args.writer, c.block_of.result)) q) (Some slots) (lookup (is_at (request_cmp q)) es)) (ap (λ m. m.entries) c.get_mut.follows.holds-at-none);
      held = λ i. c.set-2.ensures.set i
          ∙ ap (λ o. cond (eqb i c.slot_of-2.result) (Some c.args.outcome) o) (c.in_ok-block.ensures i ∙ ap (λ o. slot_in o i) c.in_default.ensures.value);
    }
    ∙ ap (λ (z : Outcomes). with_outcome z c.args.writer c.args.seq c.args.outcome) c.self.view_is

pub returns-clause-back : goal.returns-clause-back
returns-clause-back c =
    let old = c.self.inside.by_block.entries in
    put_back old _ _ c.args.outcome None _ _ c.self.view_is (returns-clause-entered c) (sym (no_outcome old _ _ _ c.block_of.ensures c.in_default.ensures.value))
