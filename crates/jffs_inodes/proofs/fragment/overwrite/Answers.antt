use Rattle.std.proofs.Common.{◌≡◌, ◌+◌, ◌∙◌, ◌<◌, length, sym, ap, subst, arith, nat_cmp}
use Rattle.std.specs.BTreeMap.{insert_entry}
use Rattle.std.proofs.lemmas.Bool.{eqb-false}
use Rattle.jffs_inodes.specs.declared.fragment.Fragment.{Fragment}
use Rattle.jffs_inodes.specs.Marked.{brought_by}
use Rattle.jffs_inodes.specs.Fragments.{AreShort, outside, part_by, amount_by}
use Rattle.jffs_inodes.proofs.files.Overwriting.{short_from_laid, short_inserted, outside_parts, insert_outside, covered_short, covers_all, no_data, some_data, brought_part}
use Rattle.jffs_inodes.proofs.files.Taking.{own_count}
use Rattle.jffs_inodes.proofs.fragment.overwrite.Goals as goal
use Rattle.jffs_inodes.proofs.fragment.overwrite.Goals.{In_ok-covered}

pub take_out-requires-clause-short : goal.take_out-requires-clause-short
take_out-requires-clause-short c = short_from_laid 0 c.args.size c.args.fragments.now.entries c.requires.laid.0 c.requires.laid.1

pub returns-then-is_empty-clause-ok : goal.returns-then-is_empty-clause-ok
returns-then-is_empty-clause-ok c =
    c.take_out.ensures.left
    ∙ outside_parts 0 c.args.size c.args.node.now.offset c.args.end c.args.fragments.now.entries c.requires.laid.0 (omega arith)
    ∙ sym (no_data c.args.end c.args.node.now c.args.fragments.now.entries (sym c.if-is_empty.ensures))

pub put-requires-clause-short : goal.put-requires-clause-short
put-requires-clause-short c = short_from_laid 0 c.args.size c.args.fragments.now.entries c.requires.laid.0 c.requires.laid.1

pub take_out-requires-2-clause-short : goal.take_out-requires-2-clause-short
take_out-requires-2-clause-short c =
    let same : length c.in_ok-fragment.fragment.bytes ≡ length c.args.node.now.bytes = ap (λ (f : Fragment). length f.bytes) c.in_ok-fragment.ensures in
    subst AreShort (sym c.in_ok-covered.ensures.ok)
    (short_inserted c.args.node.now.offset c.in_ok-fragment.fragment c.args.fragments.now.entries
    (short_from_laid 0 c.args.size c.args.fragments.now.entries c.requires.laid.0 c.requires.laid.1) (omega (arith, c.requires.range)))

pub take_out-requires-2-clause-marked : goal.take_out-requires-2-clause-marked
take_out-requires-2-clause-marked c = λ v.
    let i = c.args.node.now.inode in
    let part : Fragment = c.in_ok-fragment.fragment in
    let was = amount_by v c.args.fragments.now.entries in
    let now = amount_by v c.put.new.fragments.entries in
    let moved = c.in_ok-covered.ensures.moved v i in
    let a = own_count i (was + part_by v part) in
    let b = own_count i now in
    let same : part_by v part ≡ brought_by v c.args.node.now =
    ap (part_by v) c.in_ok-fragment.ensures ∙ brought_part v c.args.node.now in
    let has = c.requires.marked v in
    omega arith

pub overflow_add-covered_to : goal.overflow_add-covered_to
overflow_add-covered_to c =
    let short = covered_short c.args.node.now.offset c.args.fragments.now.entries (short_from_laid 0 c.args.size c.args.fragments.now.entries c.requires.laid.0 c.requires.laid.1) in
    omega (arith, c.in_ok-covered.ensures.covered, c.requires.range)

-- The node's bytes end at the end or before it, and it has some.
past : (c : In_ok-covered) → c.args.node.now.offset < c.args.end
past c = let some = eqb-false (length c.args.node.now.bytes) 0 (sym c.if-is_empty.ensures) in omega (arith, c.requires.range)

-- The node's fragment was put in.
put_in : (c : In_ok-covered) → c.put.new.fragments.entries ≡ insert_entry nat_cmp c.args.fragments.now.entries c.args.node.now.offset (record { bytes = c.args.node.now.bytes; writer = c.args.node.now.version })
put_in c = c.in_ok-covered.ensures.ok ∙ ap (λ (f : Fragment). insert_entry nat_cmp c.args.fragments.now.entries c.args.node.now.offset f) c.in_ok-fragment.ensures

pub returns-then-last-covered_to-clause-ok : goal.returns-then-last-covered_to-clause-ok
returns-then-last-covered_to-clause-ok c =
    let here = (goal.at.returns-then-last-covered_to-clause-ok c).In_ok-covered in
    put_in here
    ∙ covers_all c.args.size c.args.node.now.offset c.args.end c.in_ok-covered.covered _ c.args.fragments.now.entries c.requires.laid.0 c.in_ok-covered.ensures.covered (past here) (let least = c.min-last.ensures in let reaches = c.if-last-covered_to.true in omega arith)
    ∙ sym (some_data c.args.end c.args.node.now c.args.fragments.now.entries (sym c.if-is_empty.ensures))

pub returns-clause-ok : goal.returns-clause-ok
returns-clause-ok c =
    let here = (goal.at.returns-clause-ok c).In_ok-covered in
    c.take_out-2.ensures.left
    ∙ ap (outside (c.args.node.now.offset + 1) c.args.end) (put_in here)
    ∙ insert_outside 0 c.args.size c.args.node.now.offset c.args.end _ c.args.fragments.now.entries c.requires.laid.0 (past here)
    ∙ sym (some_data c.args.end c.args.node.now c.args.fragments.now.entries (sym c.if-is_empty.ensures))
