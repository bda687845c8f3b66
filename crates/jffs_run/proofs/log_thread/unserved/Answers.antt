use Rattle.std.proofs.Common.{refl, Some}
use Rattle.jffs_index.specs.Ends.{all_put}
use Rattle.jffs_serve.specs.Answered.{start_of}
use Rattle.jffs_serve.specs.declared.session.Served.TheVariants.{Memory}
use Rattle.jffs_serve.proofs.Replying.{nothing_replied, nothing_more}
use Rattle.jffs_run.proofs.log_thread.unserved.Goals as goal

pub returns-clause-served : goal.returns-clause-served
returns-clause-served g c =
    let session = c.args.side.session in
    let put = (all_put c.args.side.publisher).steps in
    let taken = g.T.Taker.taken c.args.side.taker in
    record {
      replies = nothing_more (start_of session put taken) session.core session.unsent put taken (Some Memory) (nothing_replied session put taken) refl;
      published = λ other. absurd (other refl);
      index = refl;
      opening = refl;
    }
