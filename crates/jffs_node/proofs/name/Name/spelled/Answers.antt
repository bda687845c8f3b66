use Rattle.std.proofs.Common.{ℕ, List, ◌++◌, length, drop, take, replicate, sym, ap, subst, ◌∙◌}
use Rattle.std.proofs.Math.Seq.{take-append_seam}
use Rattle.jffs_node.specs.Name.{IsStored}
use Rattle.jffs_node.proofs.Names.{stored_name}
use Rattle.jffs_node.proofs.name.Name.spelled.Goals as goal

pub invariant_of-result : goal.invariant_of-result
invariant_of-result c =
    let name = c.args.bytes.now in
    subst (λ (xs : List ℕ). IsStored (record { bytes = xs ++ drop (length name) (replicate 20 0); length = length name })) (sym c.copy_from_slice.ensures.after) (stored_name name c.requires)

pub returns : goal.returns
returns c =
    let name = c.args.bytes.now in
    ap (λ (xs : List ℕ). take (length name) (xs ++ drop (length name) (replicate 20 0))) c.copy_from_slice.ensures.after ∙ take-append_seam name (drop (length name) (replicate 20 0))
