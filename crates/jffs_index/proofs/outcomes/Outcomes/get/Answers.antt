use Rattle.std.proofs.Common.{Some, sym, ap, ◌∙◌}
use Rattle.jffs_index.specs.Outcomes.{Outcomes, outcome_at}
use Rattle.jffs_index.proofs.Blocks.{outcome_found, no_outcome}
use Rattle.jffs_index.proofs.outcomes.Outcomes.get.Goals as goal

pub returns-in-Some : goal.returns-in-Some
returns-in-Some c =
    let w = c.args.writer in
    let s = c.args.seq in
    c.get-in-Some.ensures
    ∙ outcome_found c.self.inside.by_block.entries w s c.block_of.result c.block_of.ensures c.slot_of.result c.slot_of.ensures (Some c.in-Some.block.now) c.in-Some.ensures.value
    ∙ ap (λ (z : Outcomes). outcome_at z w s) c.self.view_is

pub returns-in-None : goal.returns-in-None
returns-in-None c =
    let w = c.args.writer in
    let s = c.args.seq in
    sym (no_outcome c.self.inside.by_block.entries w s c.block_of.result c.block_of.ensures c.in-None.ensures.value) ∙ ap (λ (z : Outcomes). outcome_at z w s) c.self.view_is
