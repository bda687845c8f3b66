use Rattle.std.proofs.Common.{◌∙◌, sym, ap, subst, arith, nat_cmp}
use Rattle.std.specs.BTreeMap.{is_at}
use Rattle.jffs_inodes.specs.Fragments.{AreShort, outside}
use Rattle.jffs_inodes.proofs.files.Taking.{none_in_none, short_removed, outside_removed, still_marked}
use Rattle.jffs_inodes.proofs.leaving.take_out.Goals as goal

pub returns-then-to-from-clause-left : goal.returns-then-to-from-clause-left
returns-then-to-from-clause-left c = sym (none_in_none c.args.from c.args.to c.args.fragments.now.entries c.if-to-from.true)

pub take_one-requires-clause-marked : goal.take_one-requires-clause-marked
take_one-requires-clause-marked c = still_marked c.args.marks.now c.loop-first.marks c.args.inode c.args.fragments.now.entries c.loop-first.fragments.entries c.loop-first.invariant.moved c.requires.marked

pub loop-first-preserved : goal.loop-first-preserved
loop-first-preserved c =
    let test = is_at (nat_cmp c.in-Some.first) in
    let was = c.loop-first.fragments.entries in
    let there = c.in-Some.ensures.there in
    record {
      short = subst AreShort (sym c.take_one.ensures.left) (short_removed test was c.loop-first.invariant.short);
      left = ap (outside c.args.from c.args.to) c.take_one.ensures.left ∙ outside_removed c.args.from c.args.to c.in-Some.first was there.2 there.3 ∙ c.loop-first.invariant.left;
      moved = λ v i. let one = c.take_one.ensures.moved v i in let all = c.loop-first.invariant.moved v i in omega arith;
    }
