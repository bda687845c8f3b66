use Rattle.std.proofs.Common.{◌≡◌, ◌∙◌, ◌<◌, ◌+◌, ◌-◌, ℕ, List, length, take, drop, sym, ap, subst, arith, length-drop}
use Rattle.std.proofs.Math.Seq.{take-length}
use Rattle.jffs_inodes.specs.Fragments.{Says}
use Rattle.jffs_inodes.proofs.files.Reading.{says_fragment}
use Rattle.jffs_inodes.proofs.piece.bytes_at.Goals as goal

pub returns-clause-there : goal.returns-clause-there
returns-clause-there c =
    let es = c.args.fragments.now.entries in
    let at = c.args.at in
    let first = c.in_ok-first.first in
    let f = c.in_ok-first.fragment.now in
    let s = c.as_slice.result.now in
    let there = c.in_ok-first.ensures.there in
    let high : at < first + length f.bytes = there.2 in
    let low = there.1 in
    let same : s ≡ f.bytes = c.as_slice.ensures in
    let n = length-drop (at - first) s in
    let m : length s ≡ length f.bytes = ap (λ (x : List ℕ). length x) same in
    let all : length s - (at - first) ≡ length (drop (at - first) s) = omega arith in
    let part : take (length s - (at - first)) (drop (at - first) s) ≡ drop (at - first) s =
    ap (λ k. take k (drop (at - first) s)) all ∙ take-length (drop (at - first) s) in
    let some : 0 < length (drop (at - first) s) = omega arith in (
      subst (λ (x : List ℕ). 0 < length x) (sym part) some,
      λ k. subst (λ (x : List ℕ). Says es at (take k x)) (sym (part ∙ ap (λ (x : List ℕ). drop (at - first) x) same))
          (says_fragment first at f es there.0 low high k),
    )
