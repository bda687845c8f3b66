use Rattle.std.proofs.Common.{◌≡◌, ◌+◌, ◌∙◌, ◌++◌, length, unwrap_or, sym, ap, subst, arith, nat_cmp}
use Rattle.std.specs.BTreeMap.{insert_entry}
use Rattle.std.proofs.lemmas.Bool.{eqb-true}
use Rattle.std.proofs.lemmas.List.{append-nil}
use Rattle.jffs_node.specs.Record.{dsize}
use Rattle.jffs_inodes.specs.declared.fragment.Fragment.{Fragment}
use Rattle.jffs_inodes.specs.Fragments.{Fragments, IsFileAfter, fragment_of}
use Rattle.jffs_inodes.proofs.files.Overwriting.{short_from_laid}
use Rattle.jffs_inodes.proofs.files.Appending.{put_last, file_appended, nothing_brought, one_brought}
use Rattle.jffs_inodes.proofs.fragment.append.Goals as goal

pub returns-then-is_empty-clause-ok : goal.returns-then-is_empty-clause-ok
returns-then-is_empty-clause-ok c =
    let n = c.args.node.now in
    let es = c.args.fragments.now.entries in
    let nothing = sym c.if-is_empty.ensures in
    let none : dsize n ≡ 0 = eqb-true (length n.bytes) 0 nothing in
    let at : n.offset + dsize n ≡ n.offset = omega arith in
    subst (λ k. IsFileAfter n c.args.size es k es) (ap (λ k. unwrap_or n.size k) at ∙ sym c.unwrap_or.ensures)
    (file_appended n c.args.size es es c.requires.laid c.requires.fits.0 c.requires.fits.1 (sym (append-nil es) ∙ ap (λ (x : Fragments). es ++ x) (sym (nothing_brought n nothing))))

pub put-requires-clause-short : goal.put-requires-clause-short
put-requires-clause-short c = short_from_laid 0 c.args.size c.args.fragments.now.entries c.requires.laid c.requires.fits.0.small

pub returns-clause-ok : goal.returns-clause-ok
returns-clause-ok c =
    let n = c.args.node.now in
    let es = c.args.fragments.now.entries in
    let now = c.put.new.fragments.entries in
    let some = sym c.if-is_empty.ensures in
    let is : now ≡ es ++ fragment_of n =
    c.in_ok-put.ensures.ok
    ∙ ap (λ (f : Fragment). insert_entry nat_cmp es n.offset f) c.in_ok-fragment.ensures
    ∙ put_last n.offset (record { bytes = n.bytes; writer = n.version }) 0 c.args.size es c.requires.laid c.requires.fits.1
    ∙ ap (λ (x : Fragments). es ++ x) (sym (one_brought n some)) in
    subst (λ k. IsFileAfter n c.args.size es k now) (ap (λ k. unwrap_or n.size (n.offset + k)) (sym c.len.ensures.value) ∙ sym c.unwrap_or-2.ensures)
    (file_appended n c.args.size es now c.requires.laid c.requires.fits.0 c.requires.fits.1 is)
