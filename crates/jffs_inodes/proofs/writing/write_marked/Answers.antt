use Rattle.std.proofs.Common.{ℕ, ◌+◌, List, length, Some, option_map, ap, subst, sym, ◌∙◌, arith}
use Rattle.jffs_marks.specs.Marks.{HaveMore}
use Rattle.jffs_inodes.proofs.Marked.{has_newest, of_old}
use Rattle.jffs_inodes.proofs.writing.write_marked.Goals as goal

pub raise-requires : goal.raise-requires
raise-requires c =
    let few = c.requires.newest.few c.args.node.now.version in
    let marked = c.requires.marked c.args.node.now.version c.args.node.now.inode in
    let small = c.requires.writable.small.range in
    let long = ap (λ (b : List ℕ). length b) c.as_slice.ensures in
    omega (arith, few, marked, small, long)

pub lower-requires-in-Some : goal.lower-requires-in-Some
lower-requires-in-Some c =
    has_newest c.args.inodes.now c.args.node.now c.args.marks.now c.raise.new.self c.requires.marked
    (subst (λ (b : List ℕ). HaveMore c.args.marks.now c.raise.new.self c.args.node.now.version c.args.node.now.inode (length b + 1)) c.as_slice.ensures c.in_ok-raise.ensures.ok)
    c.write_inode.new.inodes c.write_inode.new.marks c.in_default.ensures.ok c.in_default.ensures.marks c.in-Some.version
    (sym c.requires.newest.held ∙ ap (λ o. option_map (λ v. Some v) o) c.in-Some.is)

pub returns-in-Some-clause-marks : goal.returns-in-Some-clause-marks
returns-in-Some-clause-marks c =
    of_old c.args.inodes.now c.args.node.now c.args.marks.now c.raise.new.self c.requires.marked
    (subst (λ (b : List ℕ). HaveMore c.args.marks.now c.raise.new.self c.args.node.now.version c.args.node.now.inode (length b + 1)) c.as_slice.ensures c.in_ok-raise.ensures.ok)
    c.write_inode.new.inodes c.write_inode.new.marks c.in_default.ensures.ok c.in_default.ensures.marks c.in-Some.version
    (sym c.requires.newest.held ∙ ap (λ o. option_map (λ v. Some v) o) c.in-Some.is)
    c.lower-in-Some.new.self c.lower-in-Some.ensures
