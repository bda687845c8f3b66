use Rattle.std.proofs.Common.{[]}
use Rattle.std.proofs.KnownBytes.{Appends-trans}
use Rattle.std.proofs.lemmas.Result.{on_ok_weaker}
use Rattle.jffs_tree.specs.State.{root}
use Rattle.jffs_tree.specs.Origin.{state_in}
use Rattle.jffs_text.specs.Dump.{below, dump_text}
use Rattle.jffs_text.proofs.Adding.{begun_more, begun_then}
use Rattle.jffs_text.proofs.dumping.dump.Goals as goal

pub returns-in_err-put-clause-begun : goal.returns-in_err-put-clause-begun
unfolding dump_text
returns-in_err-put-clause-begun g c = begun_more _ _ _ (below 8 (state_in c.args.tree.now) [] root) c.put.ensures.begun

pub returns-clause-whole : goal.returns-clause-whole
unfolding dump_text
returns-clause-whole g c =
    let a = g.W.Write.contents c.put.new.out in
    let b = g.W.Write.contents c.dump_names.new.out in
    let s = state_in c.args.tree.now in
    on_ok_weaker c.dump_names.result (Appends-trans (g.W.Write.contents c.args.out.now) a b _ (below 8 s [] root) c.in_ok-put.ensures.whole)
    (rw c.new-path.ensures.items at c.dump_names.ensures.whole)

pub returns-clause-begun : goal.returns-clause-begun
unfolding dump_text
returns-clause-begun g c = begun_then _ _ _ _ _ c.in_ok-put.ensures.whole (rw c.new-path.ensures.items at c.dump_names.ensures.begun)
