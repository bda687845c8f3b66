use Rattle.std.proofs.Common.{arith}
use Rattle.std.proofs.lemmas.List.{take_rest}
use Rattle.jffs_text.proofs.Hex.{part_told, part_begun}
use Rattle.jffs_text.proofs.dumping.write_hex.Goals as goal

pub returns-in_err-put-clause-begun : goal.returns-in_err-put-clause-begun
returns-in_err-put-clause-begun g c =
    let it = rw (take_rest c.args.bytes.now c.loop-start.start) at c.fill_hex.ensures in
    part_begun c.args.bytes.now c.loop-start.start c.min-count.result _ it _ _ _ c.loop-start.invariant.1 c.put.ensures.begun

pub loop-start-preserved : goal.loop-start-preserved
loop-start-preserved g c =
    let it = rw (take_rest c.args.bytes.now c.loop-start.start) at c.fill_hex.ensures in (
      omega (arith, c.min-count.ensures, c.loop-start-test.true),
      part_told c.args.bytes.now c.loop-start.start c.min-count.result _ it _ _ _ c.loop-start.invariant.1 c.in_ok-put.ensures.whole,
    )
