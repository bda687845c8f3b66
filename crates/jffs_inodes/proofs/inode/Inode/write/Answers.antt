use Rattle.std.proofs.Common.{◌≡◌, eqb, ◌∙◌, ◌+◌, length, map, Some, sym, ap, arith}
use Rattle.std.proofs.lemmas.List.{length-map}
use Rattle.jffs_inodes.specs.Held.{Held, held_after}
use Rattle.jffs_inodes.specs.Marked.{bytes_by, brought_by}
use Rattle.jffs_inodes.specs.Shown.{held_of}
use Rattle.jffs_inodes.specs.Fragments.{byte_of, writer_of, laid, amount_by}
use Rattle.jffs_inodes.proofs.files.Counted.{amount_counted}
use Rattle.jffs_inodes.proofs.files.Fragments.{length-laid}
use Rattle.jffs_inodes.proofs.files.InodeWritten.{bytes_written, writers_written, held_written}
use Rattle.jffs_inodes.proofs.files.Taking.{own_count, other_count}
use Rattle.jffs_inodes.proofs.inode.Inode.write.Goals as goal

pub write_over-requires-clause-fits : goal.write_over-requires-clause-fits
write_over-requires-clause-fits c =
    let long : length (map byte_of (laid 0 c.self.inside.size c.self.inside.fragments.entries)) ≡ c.self.inside.size = length-map (laid 0 c.self.inside.size c.self.inside.fragments.entries) byte_of ∙ (let l = length-laid 0 c.self.inside.size c.self.inside.fragments.entries c.self.invariant.laid in omega arith) in
    let now : length c.args.self.now.entry.bytes ≡ c.self.inside.size = ap (λ (h : Held). length h.entry.bytes) (sym c.self.view_is) ∙ long in
    record {
      small = c.self.invariant.small;
      node = c.requires.writable.small;
      offsets = λ moves. let p = c.requires.writable.offsets moves in omega arith;
    }

pub write_over-requires-clause-marked : goal.write_over-requires-clause-marked
write_over-requires-clause-marked c = λ v.
    let a = amount_counted v 0 c.self.inside.size c.self.inside.fragments.entries in
    let b : bytes_by v c.args.self.now ≡ bytes_by v (held_of c.self.inside) = ap (bytes_by v) (sym c.self.view_is) in
    let m = c.requires.marked v in
    omega arith

pub returns-clause-ok : goal.returns-clause-ok
returns-clause-ok c =
    let n = c.args.node.now in
    let file = c.in_ok-self-inside.ensures.ok in
    let was = c.self.inside.fragments.entries in
    let now = c.write_over.new.fragments.entries in
    ap (λ b. held_of (record { kind = n.kind; parent = n.parent; name = c.args.name; size = c.in_ok-self-inside.field-0; fragments = c.write_over.new.fragments; newest = n.version; states_size = b })) c.is_some-self-inside.ensures
    ∙ held_written n c.args.name (held_of c.self.inside) (map byte_of (laid 0 c.in_ok-self-inside.field-0 now)) (map writer_of (laid 0 c.in_ok-self-inside.field-0 now)) c.requires.writable.named
    (bytes_written n c.self.inside.size c.in_ok-self-inside.field-0 was now file) (writers_written n c.self.inside.size c.in_ok-self-inside.field-0 was now file)
    ∙ ap (λ (h : Held). held_after n (Some h)) c.self.view_is

pub returns-clause-marks : goal.returns-clause-marks
returns-clause-marks c =
    let n = c.args.node.now in
    let was = c.self.inside.fragments.entries in
    let now = c.write_over.new.fragments.entries in
    record {
      here = λ v.
          let before : bytes_by v c.args.self.now ≡ amount_by v was = ap (bytes_by v) (sym c.self.view_is) ∙ amount_counted v 0 c.self.inside.size was in
          omega (arith, before, amount_counted v 0 c.in_ok-self-inside.field-0 now, c.in_ok-self-inside.ensures.moved v n.inode, own_count n.inode (amount_by v was + brought_by v n), own_count n.inode (amount_by v now));
      elsewhere = λ v i other.
          omega (arith, c.in_ok-self-inside.ensures.moved v i, other_count (eqb i n.inode) (amount_by v was + brought_by v n) other, other_count (eqb i n.inode) (amount_by v now) other);
    }
