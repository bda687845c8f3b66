use Rattle.std.proofs.Common.{◌≡◌, false, List, ap, subst, ◌∙◌}
use Rattle.jffs_node.specs.declared.node.Node.{Node}
use Rattle.jffs_inodes.specs.Inodes.{Tree}
use Rattle.jffs_tree.specs.Origin.{tree_of}
use Rattle.jffs_log.specs.LogIndex.{log_in, weight_in}
use Rattle.jffs_log.specs.History.{IsHistory}
use Rattle.jffs_log.specs.LogState.{LogState}
use Rattle.jffs_log.specs.Room.{weight}
use Rattle.jffs_log.proofs.rooms.Weighed.{refs_weight}
use Rattle.jffs_log.proofs.rooms.HistoryWeight.{history_weight}
use Rattle.jffs_log.proofs.log.Log.live_weight.Goals as goal

pub returns-clause-weighed : goal.returns-clause-weighed
returns-clause-weighed g c =
    let tree = c.args.tree.now in
    let P : LogState → Type 0 = λ v. v.failed ≡ false → c.weight_of.result ≡ weight_in tree (log_in v.device.image v.index) in
    subst P c.self.view_is (λ works. c.weight_of.ensures ∙ refs_weight _ _ _ _ _ _ _ _ _ (c.self.invariant.told works) tree)

pub returns-clause-whole : goal.returns-clause-whole
returns-clause-whole g c =
    let tree = c.args.tree.now in
    let P : LogState → Type 0 = λ v. v.failed ≡ false → (past : List Node) → tree ≡ tree_of past → IsHistory v.device.image v.index past → c.weight_of.result ≡ weight past in
    let b = c.self.inside.index in
    let image = (g.F.Flash.device c.self.inside.flash).image in
    subst P c.self.view_is (λ works past is h.
    c.weight_of.ensures
    ∙ refs_weight _ _ _ _ _ _ _ _ _ (c.self.invariant.told works) tree
    ∙ ap (λ (t : Tree). weight_in t (log_in image b)) is
    ∙ history_weight b.sectors b.sector_size image past h)
