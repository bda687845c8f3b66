use Rattle.std.proofs.Common.{◌≡◌, ◌⊎◌, false, List, ◌++◌, take, reverse, inl, inr, sym, ap, ◌∙◌}
use Rattle.jffs_node.specs.declared.node.Node.{Node}
use Rattle.jffs_tree.specs.Check.{each_fits, makes_tree}
use Rattle.jffs_log.specs.declared.scanning.ScanWhy.{ScanWhy}
use Rattle.jffs_log.specs.declared.scanning.ScanWhy.TheVariants.{BadTree, Memory}
use Rattle.jffs_log.specs.ScanFound.{nodes_held}
use Rattle.jffs_log.proofs.Results.{err_from}
use Rattle.jffs_log.proofs.scans.ScanFold.{log_refused}
use Rattle.jffs_log.proofs.folding.tree_of_log.Goals as goal

pub returns-in_err-add-clause-refused : goal.returns-in_err-add-clause-refused
returns-in_err-add-clause-refused c =
    let why = c.in_err-add.field-0.0 in
    let held = c.args.held.now in
    let k = c.loop-sector.sector-index in
    let past = reverse (nodes_held (take k held)) in
    err_from c.from_residual.result why (λ (v : ScanWhy). (v ≡ Memory) ⊎ ((v ≡ BadTree) × (makes_tree (reverse (nodes_held held)) ≡ false))) c.from_residual.ensures.1
    (elim c.in_err-add.ensures.refused [
      | inl memory ↦ inl memory
      | inr bad ↦
          let unfit = ap (λ (xs : List Node). each_fits (reverse xs ++ past)) (sym c.nodes.ensures.value) ∙ bad.1 past c.loop-sector.invariant in
          inr (bad.0, log_refused held k c.sector-item.result c.loop-sector-test.true c.sector-item.is unfit)
    ])
