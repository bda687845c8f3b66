use Rattle.std.proofs.KnownBytes.{Appends-trans}
use Rattle.jffs_text.specs.Dump.{line_end}
use Rattle.jffs_text.proofs.Adding.{begun_more, begun_then}
use Rattle.jffs_text.proofs.dumping.dump_directory.Goals as goal

pub returns-in_err-put-clause-begun : goal.returns-in_err-put-clause-begun
returns-in_err-put-clause-begun g c = begun_more _ _ _ line_end (begun_more _ _ _ c.args.path.now.items c.put.ensures.begun)

pub returns-in_err-put-2-clause-begun : goal.returns-in_err-put-2-clause-begun
returns-in_err-put-2-clause-begun g c = begun_more _ _ _ line_end (begun_then _ _ _ _ _ c.in_ok-put.ensures.whole (rw c.deref.ensures.value at c.put-2.ensures.begun))

pub returns-clause-begun : goal.returns-clause-begun
returns-clause-begun g c =
    let so_far = Appends-trans _ _ _ _ _ c.in_ok-put.ensures.whole (rw c.deref.ensures.value at c.in_ok-put-2.ensures.whole) in
    begun_then _ _ _ _ _ so_far c.put-3.ensures.begun
