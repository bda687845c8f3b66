use Rattle.std.proofs.Common.{refl, arith}
use Rattle.jffs_tree.specs.Look.{bytes_in}
use Rattle.jffs_text.proofs.Told.{hex_told, hex_begun}
use Rattle.jffs_text.proofs.dumping.dump_bytes.Goals as goal

pub returns-in_err-write_hex-clause-begun : goal.returns-in_err-write_hex-clause-begun
returns-in_err-write_hex-clause-begun g c =
    let bytes = bytes_in c.args.tree.now c.args.inode in
    hex_begun bytes c.loop-offset.offset c.read-count.result _ _ c.read-count.ensures.read (omega (arith, c.read-count.ensures.count)) _ _ _ c.loop-offset.invariant.1 _ refl
    (omega (arith, c.requires, c.loop-offset-test.true)) c.write_hex.ensures.begun

pub loop-offset-preserved : goal.loop-offset-preserved
loop-offset-preserved g c =
    let bytes = bytes_in c.args.tree.now c.args.inode in (
      omega (arith, c.read-count.ensures.count, c.requires, c.loop-offset-test.true),
      hex_told bytes c.loop-offset.offset c.read-count.result _ _ c.read-count.ensures.read (omega (arith, c.read-count.ensures.count)) _ _ _ c.loop-offset.invariant.1 _ refl
          c.in_ok-write_hex.ensures.whole,
    )
