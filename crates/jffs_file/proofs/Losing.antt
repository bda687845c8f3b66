-- What is there of the writes in flight.
use Rattle.std.proofs.Common.{◌≡◌, ℕ, ◌+◌, ◌/◌, ◌<◌, ◌≤◌, subst, arith}
use Rattle.jffs_file.specs.declared.span.TheConstants.{BLOCK_LEN}
use Rattle.jffs_file.specs.Order.{begin_of}
use Rattle.jffs_file.specs.Lost.{GatesFollowRecords}

-- two bytes of one block have its number
same_block : (at one other : ℕ) → begin_of BLOCK_LEN at ≤ one → one < begin_of BLOCK_LEN at + BLOCK_LEN
    → begin_of BLOCK_LEN at ≤ other → other < begin_of BLOCK_LEN at + BLOCK_LEN
    → one / BLOCK_LEN ≡ other / BLOCK_LEN
same_block at one other a b c d = omega arith

pub gates_follow : GatesFollowRecords
gates_follow sectors size write past short ordered missing newer seen =
    λ k d in'. λ meets more later at from to.
    let may = (ordered.0.program short).over k d in' meets in
    let same : seen.at / BLOCK_LEN ≡ at / BLOCK_LEN = same_block write.from seen.at at (omega (arith, may.1.0, seen.after)) (omega (arith, may.1.1, seen.before)) (omega (arith, may.0.0)) (omega (arith, may.0.1)) in
    let one : missing (at / BLOCK_LEN) ≤ newer = subst (λ (n : ℕ). missing n ≤ newer) same seen.there in
    omega (arith, one)
