use Rattle.std.proofs.Common.{◌≡◌, ◌∙◌, eqb, sym, ap, arith}
use Rattle.jffs_inodes.specs.Marked.{bytes_by}
use Rattle.jffs_inodes.specs.Shown.{held_of}
use Rattle.jffs_inodes.specs.Fragments.{amount_by}
use Rattle.jffs_inodes.proofs.files.Counted.{amount_counted}
use Rattle.jffs_inodes.proofs.files.Overwriting.{short_from_laid}
use Rattle.jffs_inodes.proofs.files.Taking.{own_count, other_count}
use Rattle.jffs_inodes.proofs.inode.Inode.release.Goals as goal

pub lower_all-requires-clause-short : goal.lower_all-requires-clause-short
lower_all-requires-clause-short c = short_from_laid 0 c.self.inside.size c.self.inside.fragments.entries c.self.invariant.laid c.self.invariant.small

pub lower_all-requires-clause-marked : goal.lower_all-requires-clause-marked
lower_all-requires-clause-marked c = λ v.
    let a = amount_counted v 0 c.self.inside.size c.self.inside.fragments.entries in
    let b : bytes_by v c.args.self.now ≡ bytes_by v (held_of c.self.inside) = ap (bytes_by v) (sym c.self.view_is) in
    let m = c.requires v in
    omega arith

pub returns : goal.returns
returns c =
    let was = c.self.inside.fragments.entries in
    record {
      here = λ v.
          let b : bytes_by v c.args.self.now ≡ amount_by v was = ap (bytes_by v) (sym c.self.view_is) ∙ amount_counted v 0 c.self.inside.size was in
          omega (arith, b, c.lower_all.ensures v c.args.inode, own_count c.args.inode (amount_by v was), own_count c.args.inode 0);
      elsewhere = λ v i other.
          omega (arith, c.lower_all.ensures v i, other_count (eqb i c.args.inode) (amount_by v was) other, other_count (eqb i c.args.inode) 0 other);
    }
