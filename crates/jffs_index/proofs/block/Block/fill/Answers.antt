use Rattle.std.proofs.Common.{Some, length, cond, eqb, ap, ◌∙◌, arith}
use Rattle.jffs_index.specs.declared.block.Slots.{Slots}
use Rattle.jffs_index.specs.Blocks.{slot}
use Rattle.jffs_index.proofs.Blocks.{slot_put}
use Rattle.jffs_index.proofs.block.Block.fill.Goals as goal

pub returns : goal.returns
returns c = λ k.
    let whole = c.self.invariant in
    let same = c.deref_mut-slots.ensures.value in
    slot_put c.deref_mut-slots.result.now c.args.at k c.args.outcome
    (omega (arith, whole.0, ap (λ (z : Slots). length z.filled) same))
    (omega (arith, whole.1, ap (λ (z : Slots). length z.outcomes) same))
    ∙ ap (λ (z : Slots). cond (eqb k c.args.at) (Some c.args.outcome) (slot z k)) (same ∙ c.self.view_is)
