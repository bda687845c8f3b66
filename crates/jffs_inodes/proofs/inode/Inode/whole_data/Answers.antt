use Rattle.std.proofs.Common.{◌≡◌, ◌≤◌, ◌+◌, length, take, drop, sym, subst, arith}
use Rattle.jffs_inodes.specs.Held.{Held}
use Rattle.jffs_inodes.proofs.files.Reading.{whole_fragment}
use Rattle.jffs_inodes.proofs.files.Comparing.{size_is}
use Rattle.jffs_inodes.proofs.inode.Inode.whole_data.Goals as goal
use Rattle.jffs_inodes.proofs.inode.Inode.whole_data.Goals.{In_ok-fragment}

-- The fragment that was found stands whole in the inode's bytes.
whole : (c : In_ok-fragment) → (c.args.offset + length c.in_ok-fragment.fragment.now.bytes ≤ length c.args.self.now.entry.bytes)
    × (take (length c.in_ok-fragment.fragment.now.bytes) (drop c.args.offset c.args.self.now.entry.bytes) ≡ c.in_ok-fragment.fragment.now.bytes)
whole c =
    let f = c.in_ok-fragment.fragment.now in
    let stands = whole_fragment c.self.inside.size c.args.offset f c.self.inside.fragments.entries c.self.invariant.laid (sym c.in_ok-fragment.ensures) in
    let size = size_is c.self.inside c.args.self.now c.self.invariant c.self.view_is in
    (omega (arith, stands.0), subst (λ (h : Held). take (length f.bytes) (drop c.args.offset h.entry.bytes) ≡ f.bytes) c.self.view_is stands.1)

pub returns-then-len-clause-long : goal.returns-then-len-clause-long
returns-then-len-clause-long c =
    let fits = (whole (goal.at.returns-then-len-clause-long c).In_ok-fragment).0 in
    let size = size_is c.self.inside c.args.self.now c.self.invariant c.self.view_is in
    (omega (arith, c.len.ensures.value, c.if-len.true), omega (arith, c.self.invariant.small))

pub returns-then-len-clause-inside : goal.returns-then-len-clause-inside
returns-then-len-clause-inside c = let fits = (whole (goal.at.returns-then-len-clause-inside c).In_ok-fragment).0 in omega arith

pub returns-then-len-clause-stands : goal.returns-then-len-clause-stands
returns-then-len-clause-stands c = (whole (goal.at.returns-then-len-clause-stands c).In_ok-fragment).1
