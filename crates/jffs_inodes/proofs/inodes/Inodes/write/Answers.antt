-- The map of inodes is the tree in another order, and what a look-up of the map finds is what the
-- tree holds.
use Rattle.std.proofs.Common.{◌≡◌, ℕ, List, Some, None, ap, sym, ◌∙◌, eqb, is_some, rules}
use Rattle.std.specs.Map.{set_value}
use Rattle.std.proofs.lemmas.Map.Steps.{set_value_same}
use Rattle.jffs_inodes.specs.Held.{Held, held_after}
use Rattle.jffs_inodes.specs.Inodes.{held_in, in_order, with_inode, put_node}
use Rattle.jffs_inodes.proofs.InOrder.{found_in_order, in_order_ordered, one_put, put_written}
use Rattle.jffs_inodes.proofs.Marked.{moved_own}
use Rattle.jffs_node.proofs.Results.{at_error}
use Rattle.jffs_inodes.proofs.inodes.Inodes.write.Goals as goal
use Rattle.jffs_inodes.proofs.inodes.Inodes.write.Goals.{In-Some}

-- The tree holds what the look-up found.
there : (c : In-Some) → held_in c.args.self.now c.args.node.now.inode ≡ Some c.in-Some.inode.now
there c =
    ap (λ (t : List (ℕ × Held)). held_in t c.args.node.now.inode) (sym c.self.view_is)
    ∙ found_in_order c.args.node.now.inode c.self.inside.by_number.entries ∙ sym c.in-Some.ensures.value

pub unreachable-requires : goal.unreachable-requires
unreachable-requires c =
    let none : held_in c.args.self.now c.args.node.now.inode ≡ None =
    ap (λ (t : List (ℕ × Held)). held_in t c.args.node.now.inode) (sym c.self.view_is)
    ∙ found_in_order c.args.node.now.inode c.self.inside.by_number.entries ∙ sym c.in_default.ensures.value in
    search rules

pub write-requires-clause-writable : goal.write-requires-clause-writable
write-requires-clause-writable c = let held = there (goal.at.write-requires-clause-writable c).In-Some in search rules

pub write-requires-clause-marked : goal.write-requires-clause-marked
write-requires-clause-marked c = let held = there (goal.at.write-requires-clause-marked c).In-Some in search rules

pub returns-in_err-write-clause-err : goal.returns-in_err-write-clause-err
returns-in_err-write-clause-err c =
    let test = eqb c.args.node.now.inode in
    let old = c.self.inside.by_number.entries in
    let kept : in_order (c.get_mut.follows.lender c.write.new.self).entries ≡ c.args.self.now =
    ap (λ (es : List (ℕ × Held)). in_order es) (
    (c.get_mut.follows.holds c.write.new.self).0
    ∙ ap (λ (h : Held). set_value test old h) c.in_err-write.ensures.err.0
    ∙ set_value_same test old c.in-Some.inode.now (sym c.in-Some.ensures.value))
    ∙ c.self.view_is in
    at_error c.from_residual.result (kept, c.in_err-write.ensures.err.1)

pub returns-clause-ok : goal.returns-clause-ok
returns-clause-ok c =
    let n = c.args.node.now in
    let new = (c.get_mut.follows.lender c.write.new.self).entries in
    let written = c.get_mut.follows.holds c.write.new.self in
    let wrote = c.in_ok-write.ensures.ok ∙ ap (held_after n) (sym (there (goal.at.returns-clause-ok c).In-Some)) in
    let made : in_order new ≡ put_node c.args.self.now n =
    one_put c.self.inside.by_number.entries new n.inode c.write.new.self (written.3 (ap is_some (sym c.in-Some.ensures.value))).0
    ∙ ap (λ (t : List (ℕ × Held)). with_inode t n.inode c.write.new.self) c.self.view_is
    ∙ ap (λ (h : Held). with_inode c.args.self.now n.inode h) wrote in
    put_written c.args.self.now (in_order new) n made (in_order_ordered new)

pub returns-clause-marks : goal.returns-clause-marks
returns-clause-marks c =
    let n = c.args.node.now in
    let new = (c.get_mut.follows.lender c.write.new.self).entries in
    moved_own c.args.self.now n c.in-Some.inode.now (there (goal.at.returns-clause-marks c).In-Some) c.args.marks.now (in_order new) c.write.new.self c.write.new.marks
    (found_in_order n.inode new ∙ ((c.get_mut.follows.holds c.write.new.self).3 (ap is_some (sym c.in-Some.ensures.value))).1)
    c.in_ok-write.ensures.marks
