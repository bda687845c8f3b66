-- The bytes of a file, part after part.
use Rattle.std.proofs.Common.{arith}
use Rattle.jffs_tree.specs.Look.{bytes_in}
use Rattle.jffs_manage.proofs.Shown.{shown_more, shown_all}
use Rattle.jffs_manage.proofs.looking.show.Goals as goal

pub returns-then-count-eq0 : goal.returns-then-count-eq0
returns-then-count-eq0 g c =
    shown_all (bytes_in c.args.tree.now c.args.inode) c.loop.offset _ _ (omega (arith, c.read-count.ensures.count, c.if-count-eq0.true, c.loop-test.array_long)) c.loop.invariant.1

pub loop-preserved : goal.loop-preserved
loop-preserved g c =
    let bytes = bytes_in c.args.tree.now c.args.inode in
    let inside = c.read-count.ensures.count in
    let next = c.in-Some.ensures.1 in (
      omega (arith, inside, next, c.loop.invariant.0),
      shown_more bytes c.loop.offset c.read-count.result c.in-Some.next _ c.read-count.new.out _ _ _ c.read-count.ensures.read (omega (arith, inside)) next c.loop.invariant.1 c.in_ok-write_all.ensures.bytes,
    )
