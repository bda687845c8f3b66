-- The core was asked by the volume behind the handle.
use Rattle.std.proofs.Common.{◌≡◌, Ok, subst}
use Rattle.jffs_tree.specs.declared.wish.Wish.TheVariants as wish
use Rattle.jffs_c.specs.declared.volume.Volume.{Volume}
use Rattle.jffs_c.specs.Blocked.{blocked}
use Rattle.jffs_c.specs.Asked.{AsksBetween}
use Rattle.jffs_c.proofs.exports.pg_rename.Goals as goal

pub returns-clause-asked : goal.returns-clause-asked
returns-clause-asked c = record {
  code = c.rename.result;
  number = c.number.ensures;
  changes =
      subst (λ (volume : Volume). blocked volume.phase ≡ Ok tt
      → AsksBetween c.args.from.now c.args.to.now wish.Rename volume c.rename.new.self c.rename.result)
      c.volume.ensures.value c.rename.ensures.asked;
}
