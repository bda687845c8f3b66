use Rattle.std.proofs.Common.{◌∙◌, ap, drop}
use Rattle.std.specs.Prelude.{List}
use Rattle.std.proofs.lemmas.List.{drop-drop}
use Rattle.jffs_queue.specs.declared.call.Call.{Call}
use Rattle.jffs_queue.proofs.Carrying.{one_less}
use Rattle.jffs_queue.proofs.queue.QueuedFlash.first_carried_out.Goals as goal

pub loop-preserved : goal.loop-preserved
loop-preserved c = record {
  seen = c.carried_out.ensures.seen ∙ c.loop.invariant.seen;
  kept =
      one_less c.loop.self c.carried_out.new.self c.carried_out.ensures.first c.carried_out.ensures.none
      ∙ ap (λ (calls : List Call). drop 1 calls) c.loop.invariant.kept
      ∙ drop-drop 1 c.loop.counter c.args.self.now.calls;
}
