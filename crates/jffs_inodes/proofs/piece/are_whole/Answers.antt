use Rattle.std.proofs.Common.{◌≡◌, ◌<◌, ◌≤◌, ◌∙◌, ◌+◌, ◌∷◌, length, sym, ap, subst, arith}
use Rattle.jffs_inodes.specs.Fragments.{Fragments, AreLaid, ascending, laid}
use Rattle.jffs_inodes.proofs.files.Fragments.{laid_bound}
use Rattle.jffs_inodes.proofs.files.Reading.{all_written, gap_unwritten, written_step}
use Rattle.jffs_inodes.proofs.files.Reversed.{last_ascending}
use Rattle.jffs_inodes.proofs.piece.are_whole.Goals as goal
use Rattle.jffs_inodes.proofs.piece.are_whole.Goals.{In-Some}

-- The fragment that was taken stood before the others that were left.
next : (c : In-Some) → ascending c.loop-first.rest ≡ (c.in-Some.first.now.0, c.in-Some.fragment.now) ∷ ascending c.next_back.new.self
next c = last_ascending c.loop-first.rest c.next_back.new.self (c.in-Some.first.now, c.in-Some.fragment.now) c.in-Some.ensures.steps

lies : (c : In-Some) → AreLaid c.loop-first.end c.args.size ((c.in-Some.first.now.0, c.in-Some.fragment.now) ∷ ascending c.next_back.new.self)
lies c = subst (AreLaid c.loop-first.end c.args.size) (next c) c.loop-first.invariant.lies

-- It ends within the file.
ends : (c : In-Some) → c.in-Some.first.now.0 + length c.in-Some.fragment.now.bytes ≤ c.args.size
ends c = laid_bound _ c.args.size (ascending c.next_back.new.self) (lies c).2

-- What is left to test is what was left with it.
with_next : (c : In-Some)
    → all_written (laid c.loop-first.end c.args.size ((c.in-Some.first.now.0, c.in-Some.fragment.now) ∷ ascending c.next_back.new.self)) ≡ all_written (laid 0 c.args.size c.args.fragments.now.entries)
with_next c = sym (ap (λ (es : Fragments). all_written (laid c.loop-first.end c.args.size es)) (next c)) ∙ c.loop-first.invariant.left

pub returns-then-first-end : goal.returns-then-first-end
returns-then-first-end c =
    let here = (goal.at.returns-then-first-end c).In-Some in
    let low = (lies here).0 in
    let gap : c.loop-first.end < c.in-Some.first.now.0 = omega (arith, c.if-first-end.true) in
    sym (gap_unwritten c.loop-first.end c.args.size _ c.in-Some.fragment.now (ascending c.next_back.new.self) gap) ∙ with_next here

pub len-end-requires : goal.len-end-requires
len-end-requires c = omega (arith, ends (goal.at.len-end-requires c).In-Some, c.requires.small)

pub overflow_add-end : goal.overflow_add-end
overflow_add-end c = omega (arith, ends (goal.at.overflow_add-end c).In-Some, c.requires.small)

pub loop-first-preserved : goal.loop-first-preserved
loop-first-preserved c =
    let here = (goal.at.loop-first-preserved c).In-Some in
    let f = c.in-Some.fragment.now in
    let k = c.in-Some.first.now.0 in
    let rest = ascending c.next_back.new.self in
    let same : k ≡ c.loop-first.end = omega arith in
    let reached : k + length f.bytes ≡ c.loop-first.end + c.len-end.result = omega arith in
    record {
      lies = subst (λ n. AreLaid n c.args.size rest) reached (lies here).2;
      left = ap (λ n. all_written (laid n c.args.size rest)) (omega arith) ∙ sym (written_step c.loop-first.end c.args.size k f rest same) ∙ with_next here;
    }
