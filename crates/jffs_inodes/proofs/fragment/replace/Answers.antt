use Rattle.std.proofs.Common.{◌≡◌, ◌+◌, ◌∙◌, ◌&&◌, cond, eqb, IfSome, subst, sym, ap, arith, nat_cmp}
use Rattle.std.specs.BTreeMap.{is_at}
use Rattle.jffs_node.specs.Record.{dsize}
use Rattle.jffs_marks.specs.Marks.{mark_of}
use Rattle.jffs_inodes.specs.Marked.{brought_by}
use Rattle.jffs_inodes.specs.declared.fragment.Fragment.{Fragment}
use Rattle.jffs_inodes.specs.Fragments.{Swaps, amount_by, part_by}
use Rattle.jffs_inodes.proofs.files.FileWritten.{file_replaced}
use Rattle.jffs_inodes.proofs.files.Overwriting.{brought_part}
use Rattle.jffs_inodes.proofs.files.Replacing.{amount_set, node_data_set}
use Rattle.jffs_inodes.proofs.files.Splitting.{whole_there}
use Rattle.jffs_inodes.proofs.files.Taking.{one_put, part_of_all}
use Rattle.jffs_inodes.proofs.fragment.replace.Goals as goal
use Rattle.jffs_inodes.proofs.fragment.replace.Goals.{In-Some}

-- The node's fragment stands where the covered one stood.
swaps : (c : In-Some) → Swaps c.args.node.now c.args.fragments.now c.swap.new.self c.in-Some.covered
swaps c = subst (λ o. IfSome o (Swaps c.args.node.now c.args.fragments.now c.swap.new.self)) c.in-Some.is c.in_ok-covered.ensures.swapped

pub lower-requires : goal.lower-requires
lower-requires c =
    let n = c.args.node.now in
    let swapped = swaps (goal.at.lower-requires c).In-Some in
    let a = part_of_all (is_at (nat_cmp n.offset)) c.args.fragments.now.entries c.in-Some.covered swapped.there in
    let b = c.requires.marked c.in-Some.covered.writer in
    let l = c.len-2.ensures in
    omega arith

pub returns-clause-replaced : goal.returns-clause-replaced
returns-clause-replaced c =
    let n = c.args.node.now in
    let was = c.args.fragments.now.entries in
    let covered : Fragment = c.in-Some.covered in
    let swapped = swaps (goal.at.returns-clause-replaced c).In-Some in
    let same : dsize n ≡ n.rsize = sym c.len.ensures.value ∙ c.if-len-node.false in
    file_replaced n c.args.size c.unwrap_or-after.result covered was c.swap.new.self.entries c.requires.fits.0 c.requires.fits.1
    (whole_there c.args.size n.offset covered was c.requires.fits.0 swapped.there) swapped.long same
    (swapped.entries ∙ node_data_set c.args.size n covered was c.requires.fits.0 swapped.there swapped.long)
    c.unwrap_or-after.ensures c.if-after-size.false

pub returns-clause-moved : goal.returns-clause-moved
returns-clause-moved c = λ v i.
    let n = c.args.node.now in
    let was = c.args.fragments.now.entries in
    let part : Fragment = record { bytes = n.bytes; writer = n.version } in
    let covered : Fragment = c.in-Some.covered in
    let now = c.swap.new.self.entries in
    let swapped = swaps (goal.at.returns-clause-moved c).In-Some in
    let set = ap (amount_by v) swapped.entries in
    let moved = amount_set c.args.size n.offset covered part was c.requires.fits.0 swapped.there v in
    let brought : part_by v part ≡ brought_by v n = brought_part v n in
    let put : amount_by v now + part_by v covered ≡ amount_by v was + brought_by v n = omega arith in
    let lowered = ap (λ k. mark_of c.lower.new.self v i + cond (eqb v covered.writer && eqb i n.inode) k 0) (sym c.len-2.ensures) ∙ c.lower.ensures v i in
    one_put v i n.inode covered (mark_of c.args.marks.now v i) (mark_of c.lower.new.self v i) (amount_by v was) (amount_by v now) (brought_by v n) lowered put
