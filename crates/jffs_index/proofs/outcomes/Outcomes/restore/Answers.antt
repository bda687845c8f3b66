use Rattle.std.proofs.Common.{is_some, cond, eqb, sym, ap, ◌∙◌}
use Rattle.std.proofs.lemmas.Bool.{true≢false}
use Rattle.jffs_index.specs.Blocks.{slot_in}
use Rattle.jffs_index.specs.Outcomes.{Outcomes, outcome_at, restored}
use Rattle.jffs_index.proofs.Blocks.{outcome_set, no_outcome}
use Rattle.jffs_index.proofs.outcomes.Outcomes.restore.Goals as goal
use Rattle.jffs_index.proofs.outcomes.Outcomes.restore.Goals.{in-Some, in_default}

pub returns : goal.returns
returns c =
    let w = c.args.writer in
    let s = c.args.seq in
    let old = c.self.inside.by_block.entries in
    elim c.match-get_mut.branch [
      | in-Some x ↦
          let slots = x.set.new.self in
          let written = c.get_mut.follows.holds slots in
          rw x.self-inside-is
          (outcome_set old (c.get_mut.follows.lender slots).entries w s c.block_of.result x.slot_of.result c.block_of.ensures x.slot_of.ensures c.args.was slots record {
            block = (written.3 (ap is_some (sym x.in-Some.ensures.value))).0;
            held = λ i. x.set.ensures.set i ∙ ap (λ o. cond (eqb i x.slot_of.result) c.args.was (slot_in o i)) x.in-Some.ensures.value;
          }
          ∙ ap (λ (z : Outcomes). restored z w s c.args.was) c.self.view_is)
      | in_default x ↦
          let none = no_outcome old w s c.block_of.result c.block_of.ensures x.in_default.ensures.value in
          absurd (true≢false (sym c.requires ∙ ap is_some (ap (λ (z : Outcomes). outcome_at z w s) (sym c.self.view_is) ∙ none)))
    ]
