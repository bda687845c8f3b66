-- What the first node of an inode leaves: its marks were raised before, and stay.
use Rattle.std.proofs.Common.{◌≡◌, [], Some, sym, ap, ◌∙◌}
use Rattle.jffs_inodes.specs.Held.{Held, held_after, writers_after}
use Rattle.jffs_inodes.specs.Inodes.{Tree, held_in, with_inode, put_node}
use Rattle.jffs_marks.specs.Marks.{SameMarks}
use Rattle.jffs_inodes.proofs.InOrder.{put_written, found_put}
use Rattle.jffs_node.proofs.Results.{at_error}
use Rattle.jffs_inodes.proofs.files.FirstWritten.{first_same, first_moved, absent_none}
use Rattle.jffs_inodes.proofs.writing.write_absent.Goals as goal

pub returns-in_err-put-clause-err : goal.returns-in_err-put-clause-err
returns-in_err-put-clause-err c =
    let n = c.args.node.now in
    let empty : c.empty-first.result.writers ≡ [] = ap (λ (h : Held). h.writers) c.empty-first.ensures in
    let wrote = ap (λ (h : Held). h.writers) c.in_ok-write.ensures.ok ∙ ap (writers_after n) empty in
    let kept : (c.put.new.self ≡ c.args.inodes.now) × SameMarks c.args.marks.now c.write.new.marks = (
      c.in_err-put.ensures.err,
      first_same n c.empty-first.result c.write.new.self c.args.marks.now c.write.new.marks c.requires.writable.small.inside empty wrote c.in_ok-write.ensures.marks,
    ) in
    at_error _ kept

pub returns-clause-ok : goal.returns-clause-ok
returns-clause-ok c =
    let n = c.args.node.now in
    let old = c.args.inodes.now in
    let wrote : c.write.new.self ≡ held_after n (held_in old n.inode) =
    c.in_ok-write.ensures.ok ∙ ap (λ (h : Held). held_after n (Some h)) c.empty-first.ensures
    ∙ ap (held_after n) (sym (absent_none (held_in old n.inode) c.requires.absent)) in
    let made : c.put.new.self ≡ put_node old n = c.in_ok-put.ensures.ok ∙ ap (λ (h : Held). with_inode old n.inode h) wrote in
    put_written old c.put.new.self n made c.in_ok-put.ensures.ordered

pub returns-clause-marks : goal.returns-clause-marks
returns-clause-marks c =
    let n = c.args.node.now in
    let old = c.args.inodes.now in
    first_moved n c.empty-first.result c.write.new.self old c.put.new.self c.args.marks.now c.write.new.marks (ap (λ (h : Held). h.writers) c.empty-first.ensures)
    (absent_none (held_in old n.inode) c.requires.absent)
    (ap (λ (t : Tree). held_in t n.inode) c.in_ok-put.ensures.ok ∙ found_put n.inode c.write.new.self old)
    c.in_ok-write.ensures.marks
