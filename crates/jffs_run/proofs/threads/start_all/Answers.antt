use Rattle.std.proofs.Common.{List, refl, subst, arith}
use Rattle.jffs_text.specs.declared.script.Writer.{Writer}
use Rattle.jffs_text.specs.declared.script.ReaderStatement.{ReaderStatement}
use Rattle.jffs_index.specs.declared.rule.Index.{Index}
use Rattle.jffs_index.specs.Ends.{publisher_index}
use Rattle.jffs_run.specs.Ends.{EachFrom}
use Rattle.jffs_run.specs.Started.{IsStarted, IsLooking}
use Rattle.jffs_run.proofs.threads.start_all.Goals as goal

pub returns-clause-running : goal.returns-clause-running
returns-clause-running g c =
    let index : Index = publisher_index c.args.log.promise.side.value.publisher in
    let handles = c.start_readers-looking.result.handles.items in
    let looking = subst (λ (rs : List ReaderStatement). EachFrom (IsLooking index rs) 0 handles) c.deref.ensures.value (c.start_readers-looking.ensures.started index c.requires.crew.looking) in
    let started = subst (λ (ws : List Writer). EachFrom (IsStarted g.H.Hand ws) 0 c.start_writers-writing.result.items) c.deref-2.ensures.value c.start_writers-writing.ensures.started in
    let looks = c.start_readers-looking.ensures.count in
    let writes = c.start_writers-writing.ensures.count in
    let room = c.requires.room in
    rw c.of-given.ensures record {
      cleaning = c.start_cleaner-cleaning.ensures.cleaning;
      looking = looking;
      every = λ all. let every = c.start_readers-looking.ensures.all all in let many = c.requires.crew.readers in omega (arith, every, many);
      writing = started;
      given = c.start_writers-writing.ensures.ends;
      control = refl;
      idle = c.requires.crew.idle;
      hands_fit = (room.hands_fit.0, let fit = room.hands_fit.1 in omega (arith, fit, writes));
      ends_fit = (room.ends_fit.0, let fit = room.ends_fit.1 in omega (arith, fit, looks));
    }
