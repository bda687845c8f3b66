use Rattle.std.proofs.Common.{◌≡◌, ◌+◌, ◌∙◌, ◌&&◌, ℕ, cond, eqb, Option, unwrap_or, option_map, length, sym, ap, arith, nat_cmp}
use Rattle.std.specs.Option.{option_map_or}
use Rattle.std.specs.BTreeMap.{is_at, insert_entry}
use Rattle.jffs_marks.specs.Marks.{mark_of}
use Rattle.jffs_inodes.specs.declared.fragment.Fragment.{Fragment}
use Rattle.jffs_inodes.specs.Fragments.{Fragments, part_by, amount_by}
use Rattle.jffs_inodes.proofs.files.Taking.{short_found, part_of_all, amount_inserted, one_put, same_in}
use Rattle.jffs_inodes.proofs.fragment.put.Goals as goal
use Rattle.jffs_inodes.proofs.fragment.put.Goals.{In_ok-covered}

pub len-amount-requires : goal.len-amount-requires
len-amount-requires c = short_found (is_at (nat_cmp c.args.offset)) c.args.fragments.now.entries c.in-Some.covered c.requires.short (sym c.in_ok-covered.ensures.old ∙ c.in-Some.is)

pub lower-requires : goal.lower-requires
lower-requires c =
    let a = part_of_all (is_at (nat_cmp c.args.offset)) c.args.fragments.now.entries c.in-Some.covered (sym c.in_ok-covered.ensures.old ∙ c.in-Some.is) in
    let b = c.requires.marked c.in-Some.covered.writer in
    omega arith

-- How many bytes of a version there are now, with those that were covered.
counted : (c : In_ok-covered) (v : ℕ) → amount_by v c.insert.new.self.entries + unwrap_or (option_map (part_by v) c.in_ok-covered.field-0) 0 ≡ amount_by v c.args.fragments.now.entries + part_by v c.args.fragment
counted c v =
    ap (λ (es : Fragments). amount_by v es + unwrap_or (option_map (part_by v) c.in_ok-covered.field-0) 0) c.in_ok-covered.ensures.entries
    ∙ ap (λ (o : Option Fragment). amount_by v (insert_entry nat_cmp c.args.fragments.now.entries c.args.offset c.args.fragment) + unwrap_or (option_map (part_by v) o) 0) c.in_ok-covered.ensures.old
    ∙ amount_inserted v c.args.offset c.args.fragment c.args.fragments.now.entries c.insert.ensures.was_ordered

pub returns-in-Some-clause-moved : goal.returns-in-Some-clause-moved
returns-in-Some-clause-moved c = λ v i.
    let f = c.in-Some.covered in
    let was = amount_by v c.args.fragments.now.entries in
    let now = amount_by v c.insert.new.self.entries in
    let put : now + part_by v f ≡ was + part_by v c.args.fragment =
    ap (λ (o : Option Fragment). now + unwrap_or (option_map (part_by v) o) 0) (sym c.in-Some.is) ∙ counted (goal.at.returns-in-Some-clause-moved c).In_ok-covered v in
    let lowered = ap (λ n. mark_of c.lower.new.self v i + cond (eqb v f.writer && eqb i c.args.inode) n 0) (sym c.len-amount.ensures) ∙ c.lower.ensures v i in
    one_put v i c.args.inode f (mark_of c.args.marks.now v i) (mark_of c.lower.new.self v i) was now (part_by v c.args.fragment) lowered put

pub returns-in-Some-clause-covered : goal.returns-in-Some-clause-covered
returns-in-Some-clause-covered c =
    c.len-amount.ensures ∙ ap (λ (o : Option Fragment). option_map_or (λ (f : Fragment). length f.bytes) o 0) (sym c.in-Some.is ∙ c.in_ok-covered.ensures.old)

pub returns-clause-moved : goal.returns-clause-moved
returns-clause-moved c = λ v i.
    let was = amount_by v c.args.fragments.now.entries in
    let now = amount_by v c.insert.new.self.entries in
    let all : now + 0 ≡ was + part_by v c.args.fragment =
    ap (λ (o : Option Fragment). now + unwrap_or (option_map (part_by v) o) 0) (sym c.in_default.is) ∙ counted (goal.at.returns-clause-moved c).In_ok-covered v in
    ap (λ n. mark_of c.args.marks.now v i + n) (same_in (eqb i c.args.inode) (was + part_by v c.args.fragment) now (omega (arith, all)))
