-- Record by record, and where no further one is.
use Rattle.std.proofs.Common.{◌+◌, List, drop, arith, subst, sym, ap, ◌∙◌, sum_by}
use Rattle.std.proofs.lemmas.List.{take_rest}
use Rattle.jffs_node.specs.declared.node.Node.{Node}
use Rattle.jffs_node.specs.Record.{record_len}
use Rattle.jffs_log.specs.Sector.{HoldsNodes}
use Rattle.jffs_log.proofs.ring.SectorFound.{OneMore, record_found, end_found, spelled_found, all_lawful}
use Rattle.jffs_log.proofs.sector.read_sector.Goals as goal
use Rattle.jffs_log.proofs.sector.read_sector.Goals.{In_ok-push-in-Closed}

more : (c : goal.In_ok-push-in-Closed) → OneMore c.args.sector.now c.loop-nodes.nodes.items c.loop-nodes.used c.in-Closed.len c.in-Closed.node
more c =
    let sector = c.args.sector.now in
    let w = c.loop-nodes.invariant in
    let both = (c.in_ok-ending.ensures.closed c.in-Closed.node c.in-Closed.len).0 c.in-Closed.is in
    record_found sector c.loop-nodes.nodes.items c.loop-nodes.used c.in-Closed.len c.in-Closed.node _ (take_rest sector c.loop-nodes.used) w.holds w.filled w.inside both.0 both.1

pub loop-nodes-preserved : goal.loop-nodes-preserved
loop-nodes-preserved c =
    let m = more c in
    let items = c.in_ok-push-in-Closed.ensures.items in
    record {
      holds = subst (λ (nodes : List Node). HoldsNodes c.args.sector.now nodes (drop (c.loop-nodes.used + c.in-Closed.len) c.args.sector.now)) (sym items) m.holds;
      filled = m.filled ∙ ap (sum_by record_len) (sym items);
      inside = m.inside;
    }

pub overflow_add-used : goal.overflow_add-used
overflow_add-used c = let m = more c in let inside = m.inside in omega arith

pub loop-nodes-smaller : goal.loop-nodes-smaller
loop-nodes-smaller c = let m = more c in let inside = m.inside in let long = m.long in omega arith

pub invariant_of-result : goal.invariant_of-result
invariant_of-result c = record {
  filled = c.loop-nodes.invariant.filled;
  lawful = all_lawful _ _ c.loop-nodes.nodes.items c.loop-nodes.invariant.holds.fit;
}

pub returns-in_default : goal.returns-in_default
returns-in_default c =
    let sector = c.args.sector.now in
    let w = c.loop-nodes.invariant in
    let is = end_found sector c.loop-nodes.nodes.items c.loop-nodes.used c.in_ok-ending.ending _ (take_rest sector c.loop-nodes.used) w.holds c.in_ok-ending.ensures.read c.in_default.not-Closed in
    record {
      read = λ i. (c.args.number, record { erased = c.is_erased.ensures i; reading = sym is i });
      spelled = spelled_found sector c.loop-nodes.nodes.items c.loop-nodes.used c.in_ok-ending.ending _ (take_rest sector c.loop-nodes.used) w.holds w.filled c.in_ok-ending.ensures.read is (λ i. let fits = c.type_inv.sector i in omega arith);
    }
