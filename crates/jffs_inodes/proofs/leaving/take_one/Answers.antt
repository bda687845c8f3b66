use Rattle.std.proofs.Common.{◌≡◌, ◌+◌, ◌∙◌, ◌&&◌, cond, eqb, Some, sym, ap, arith, nat_cmp}
use Rattle.std.specs.Map.{lookup}
use Rattle.std.specs.BTreeMap.{is_at}
use Rattle.jffs_marks.specs.Marks.{mark_of}
use Rattle.jffs_inodes.specs.Fragments.{part_by, amount_by}
use Rattle.jffs_inodes.proofs.files.Taking.{short_found, part_of_all, amount_removed, one_moved}
use Rattle.jffs_inodes.proofs.leaving.take_one.Goals as goal

pub len-requires : goal.len-requires
len-requires c = short_found (is_at (nat_cmp c.args.first)) c.args.fragments.now.entries c.in-Some.gone c.requires.short (sym c.remove.ensures.value ∙ c.in-Some.is)

pub lower-requires : goal.lower-requires
lower-requires c =
    let a = part_of_all (is_at (nat_cmp c.args.first)) c.args.fragments.now.entries c.in-Some.gone (sym c.remove.ensures.value ∙ c.in-Some.is) in
    let b = c.requires.marked c.in-Some.gone.writer in
    omega arith

pub returns-in-Some-clause-moved : goal.returns-in-Some-clause-moved
returns-in-Some-clause-moved c = λ v i.
    let test = is_at (nat_cmp c.args.first) in
    let was = c.args.fragments.now.entries in
    let now = c.remove.new.self.entries in
    let gone = c.in-Some.gone in
    let found : lookup test was ≡ Some gone = sym c.remove.ensures.value ∙ c.in-Some.is in
    let lowered = ap (λ n. mark_of c.lower.new.self v i + cond (eqb v gone.writer && eqb i c.args.inode) n 0) (sym c.len.ensures) ∙ c.lower.ensures v i in
    let left : amount_by v now + part_by v gone ≡ amount_by v was = ap (λ x. amount_by v x + part_by v gone) c.remove.ensures.entries ∙ amount_removed v test was gone found in
    one_moved v i c.args.inode gone (mark_of c.args.marks.now v i) (mark_of c.lower.new.self v i) (amount_by v was) (amount_by v now) lowered left
