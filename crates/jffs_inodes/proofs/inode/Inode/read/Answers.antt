use Rattle.std.proofs.Common.{◌≡◌, ◌∙◌, ◌+◌, ◌-◌, ◌++◌, ℕ, List, length, map, take, drop, sym, ap, subst, arith, length-take, length-drop}
use Rattle.std.proofs.lemmas.List.{length-map}
use Rattle.jffs_node.specs.Record.{file_max}
use Rattle.jffs_inodes.specs.Held.{Held}
use Rattle.jffs_inodes.specs.Fragments.{laid, byte_of}
use Rattle.jffs_inodes.proofs.files.Fragments.{length-laid, are_laid_grown}
use Rattle.jffs_inodes.proofs.files.Reading.{said_next, read_more}
use Rattle.jffs_inodes.proofs.files.Comparing.{size_is}
use Rattle.jffs_inodes.proofs.inode.Inode.read.Goals as goal

pub copy_piece-done-requires-clause-laid : goal.copy_piece-done-requires-clause-laid
copy_piece-done-requires-clause-laid c = are_laid_grown 0 c.self.inside.size file_max c.self.inside.fragments.entries c.self.invariant.laid c.self.invariant.small

pub loop-done-preserved : goal.loop-done-preserved
loop-done-preserved c =
    let es = c.self.inside.fragments.entries in
    let size = c.self.inside.size in
    let start = c.min-start.result in
    let count = c.min-count.result in
    let done = c.loop-done.done in
    let n = c.copy_piece-done.result in
    let piece = c.copy_piece-done.new.out in
    let old = c.loop-done.invariant in
    let all = map byte_of (laid 0 size es) in
    let seen : all ≡ c.args.self.now.entry.bytes = ap (λ (h : Held). h.entry.bytes) c.self.view_is in
    let len = length-laid 0 size es c.self.invariant.laid in
    let len_all = length-map (laid 0 size es) byte_of in
    let len_rest = length-drop start all in
    let a = c.min-start.ensures in
    let b = c.min-count.ensures in
    let k = c.copy_piece-done.ensures.count in
    let some = k.0 in
    let most = k.1 in
    let kept = c.loop-done.auto.out in
    let part = c.copy_piece-done.auto.out in
    let len_part = length-take (count - done) (drop done c.loop-done.out) in
    let len_drop = length-drop done c.loop-done.out in
    let within = old.within in
    let new : length piece ≡ count - done = omega arith in
    let next = said_next es size start done n piece c.copy_piece-done.ensures.copied c.self.invariant.laid (omega arith) (omega arith) in
    let read = subst (λ (x : List ℕ). c.loop-done.out ≡ take done (drop start x) ++ drop done c.args.out.now) (sym seen) old.read in
    record {
      within = omega arith;
      read = read_more (drop start all) c.args.out.now c.loop-done.out piece done count n read (omega arith) (omega arith) old.within new (omega arith) next c.copy_piece-done.ensures.rest
          ∙ ap (λ (x : List ℕ). take (done + n) (drop start x) ++ drop (done + n) c.args.out.now) seen;
    }

pub returns-clause-count : goal.returns-clause-count
returns-clause-count c =
    let size = size_is c.self.inside c.args.self.now c.self.invariant c.self.view_is in
    let a = c.min-start.ensures in
    let b = c.min-count.ensures in
    omega arith
