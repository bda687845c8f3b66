use Rattle.std.proofs.Common.{◌≡◌, ◌≤◌, ◌+◌, ◌∙◌, length, take, drop, sym, ap, arith}
use Rattle.std.proofs.Math.Seq.{take-length}
use Rattle.jffs_inodes.proofs.files.Comparing.{size_is, same_further, found_same, found_other, current, not_current, not_past_end, not_too_short}
use Rattle.jffs_inodes.proofs.inode.Inode.is_current.Goals as goal
use Rattle.jffs_inodes.proofs.inode.Inode.is_current.Goals.{After-read, At-loop-done, then-self-offset-via-then-self-offset, then-self-offset-via-else-self-offset+then-self-offset-2}

pub returns-then-self-offset : goal.returns-then-self-offset
returns-then-self-offset c =
    let size = size_is c.self.inside c.args.self.now c.self.invariant c.self.view_is in
    elim c.then-self-offset.branch [
      | then-self-offset-via-then-self-offset w ↦ let past = w.if-self-offset.true in sym (not_past_end c.args.self.now.entry c.args.offset c.args.bytes.now (omega arith))
      | then-self-offset-via-else-self-offset+then-self-offset-2 w ↦ let short = w.if-self-offset-2.true in sym (not_too_short c.args.self.now.entry c.args.offset c.args.bytes.now (omega arith))
    ]

-- The bytes that are asked for end within the file.
reaches : (c : At-loop-done) → c.args.offset + length c.args.bytes.now ≤ length c.args.self.now.entry.bytes
reaches c =
    let size = size_is c.self.inside c.args.self.now c.self.invariant c.self.view_is in
    omega (arith, c.if-self-offset.false, c.if-self-offset-2.false)

-- The chunk that is compared is part of them.
fits : (c : After-read) → (c.min-count.result ≤ length c.loop-done.chunk) × (c.loop-done.done + c.min-count.result ≤ length c.args.bytes.now)
fits c = (omega (arith, c.min-count.ensures, c.min-count.array_long), omega (arith, c.min-count.ensures, c.loop-done.invariant.within))

pub returns-then-ne : goal.returns-then-ne
returns-then-ne c =
    let here = goal.at.returns-then-ne c in
    let chunk = fits here.After-read in
    sym (not_current c.args.self.now.entry c.args.offset c.args.bytes.now
    (found_other c.args.self.now.entry.bytes c.args.bytes.now c.loop-done.chunk c.read.new.out c.args.offset c.loop-done.done c.min-count.result c.read.result c.read.ensures.read c.read.ensures.count chunk.0 chunk.1 (reaches here.At-loop-done)
    (sym c.ne.ensures ∙ c.if-ne.true)))

pub loop-done-preserved : goal.loop-done-preserved
loop-done-preserved c =
    let here = goal.at.loop-done-preserved c in
    let chunk = fits here.After-read in
    record {
      within = chunk.1;
      same = same_further c.args.self.now.entry.bytes c.args.bytes.now c.args.offset c.loop-done.done c.min-count.result c.loop-done.invariant.same
          (found_same c.args.self.now.entry.bytes c.args.bytes.now c.loop-done.chunk c.read.new.out c.args.offset c.loop-done.done c.min-count.result c.read.result c.read.ensures.read c.read.ensures.count chunk.0 chunk.1 (reaches here.At-loop-done)
          (sym c.ne.ensures ∙ c.if-ne.false));
    }

pub returns : goal.returns
returns c =
    let end = reaches (goal.at.returns c).At-loop-done in
    let all : c.loop-done.done ≡ length c.args.bytes.now = omega (arith, c.loop-done.invariant.within, c.loop-done-test.false) in
    sym (current c.args.self.now.entry c.args.offset c.args.bytes.now (omega arith)
    (ap (λ k. take k (drop c.args.offset c.args.self.now.entry.bytes)) (sym all) ∙ c.loop-done.invariant.same ∙ ap (λ k. take k c.args.bytes.now) all ∙ take-length c.args.bytes.now))
