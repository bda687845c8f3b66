use Rattle.std.proofs.Common.{◌≡◌, false, List, ap, subst, ◌∙◌}
use Rattle.jffs_node.specs.declared.node.Node.{Node}
use Rattle.jffs_inodes.specs.Inodes.{Tree}
use Rattle.jffs_tree.specs.Origin.{tree_of}
use Rattle.jffs_log.specs.LogIndex.{log_in, live_in, live_records_in}
use Rattle.jffs_log.specs.History.{IsHistory}
use Rattle.jffs_log.specs.LogState.{LogState}
use Rattle.jffs_log.proofs.rooms.Weighed.{refs_count}
use Rattle.jffs_log.proofs.rooms.HistoryWeight.{history_count}
use Rattle.jffs_log.proofs.log.Log.live_in.Goals as goal

pub returns-clause-counted : goal.returns-clause-counted
returns-clause-counted g c =
    let tree = c.args.tree.now in
    let sector = c.args.sector in
    let P : LogState → Type 0 = λ v. v.failed ≡ false → c.count_in.result ≡ live_in sector tree (log_in v.device.image v.index) in
    subst P c.self.view_is (λ works. c.count_in.ensures ∙ refs_count _ _ _ _ _ _ _ _ _ (c.self.invariant.told works) sector tree)

pub returns-clause-whole : goal.returns-clause-whole
returns-clause-whole g c =
    let tree = c.args.tree.now in
    let sector = c.args.sector in
    let P : LogState → Type 0 = λ v. v.failed ≡ false → (past : List Node) → tree ≡ tree_of past → IsHistory v.device.image v.index past → c.count_in.result ≡ live_records_in sector past (log_in v.device.image v.index) in
    let b = c.self.inside.index in
    let image = (g.F.Flash.device c.self.inside.flash).image in
    subst P c.self.view_is (λ works past is h.
    c.count_in.ensures
    ∙ refs_count _ _ _ _ _ _ _ _ _ (c.self.invariant.told works) sector tree
    ∙ ap (λ (t : Tree). live_in sector t (log_in image b)) is
    ∙ history_count b.sectors b.sector_size image past sector h)
