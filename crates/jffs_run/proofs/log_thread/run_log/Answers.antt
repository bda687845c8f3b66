use Rattle.std.proofs.Common.{rules, ◌≡◌, ◌∙◌, ap, Some}
use Rattle.jffs_index.specs.Ends.{all_put}
use Rattle.jffs_serve.specs.declared.session.Served.{Served}
use Rattle.jffs_serve.specs.declared.session.Served.TheVariants.{Memory}
use Rattle.jffs_serve.specs.Stopping.{ending_in}
use Rattle.jffs_serve.proofs.Replying.{then_more}
use Rattle.jffs_run.proofs.log_thread.run_log.Goals as goal

pub loop-preserved : goal.loop-preserved
loop-preserved g c =
    let before = c.loop.invariant in
    let more = c.serve-served-in-loop.ensures in
    let served = more.served in
    let now = c.serve-served-in-loop.new in
    let memory : c.loop.served ≡ Memory = search rules in
    record {
      ready = more.ready;
      ends = more.ends ∙ before.ends;
      served = record {
        replies = then_more c.args.side.session c.loop.session now.session
            (all_put c.args.side.publisher).steps (all_put c.loop.publisher).steps (all_put now.publisher).steps
            (g.T.Taker.taken c.args.side.taker) (g.T.Taker.taken c.loop.taker) (g.T.Taker.taken now.taker)
            (Some c.loop.served) (Some c.serve-served-in-loop.result) (ap (λ (s : Served). ending_in (Some s) c.loop.session.core c.loop.session.unsent) memory) before.served.replies served.replies;
        published = served.published;
        index = served.index ∙ before.served.index;
        opening = served.opening ∙ before.served.opening;
      };
    }
