use Rattle.std.proofs.Common.{◌≡◌, ◌∙◌, ◌<◌, length, get_or, sym, ap, subst, arith}
use Rattle.std.specs.Option.{IsSome}
use Rattle.std.proofs.lemmas.Bool.{false≢true}
use Rattle.jffs_node.specs.declared.node.Node.{Node}
use Rattle.jffs_tree.specs.Decide.{source_of}
use Rattle.jffs_log.specs.Image.{nodes_of}
use Rattle.jffs_log.specs.LogIndex.{oldest_in, source_in}
use Rattle.jffs_log.specs.LogState.{LogState}
use Rattle.jffs_log.proofs.erase.OldestRefs.{oldest_at, oldest_inside}
use Rattle.jffs_log.proofs.Seen.{told}
use Rattle.jffs_log.proofs.log.Log.oldest_source.Goals as goal
use Rattle.jffs_log.proofs.log.Log.oldest_source.Goals.{After-get}

-- the oldest sector of the log inside has that record
below : (g : _) (c : After-get g) → c.args.at < length (oldest_in (g.F.Flash.device c.self.inside.flash).image c.self.inside.index)
below g c = subst (λ (v : LogState). c.args.at < length (oldest_in v.device.image v.index)) (sym c.self.view_is) c.requires.inside

pub unreachable-requires : goal.unreachable-requires
unreachable-requires g c =
    let h = told _ _ c.self.view_is c.self.invariant c.requires.working in
    let there = oldest_inside _ _ _ _ _ _ _ _ _ h c.args.at (below g (goal.at.unreachable-requires g c).After-get) in
    false≢true (subst IsSome c.in_default.is (c.get.ensures.variant.1 (let same = c.self.inside.index.records.ok in omega arith)))

pub returns : goal.returns
returns g c = λ none.
    let h = told _ _ c.self.view_is c.self.invariant c.requires.working in
    let here = below g (goal.at.returns g c).After-get in
    let found = oldest_at _ _ _ _ _ _ _ _ _ h c.args.at c.in-Some.entry.now none here in
    let P : LogState → Type 0 = λ v. c.source.result ≡ source_of (get_or (nodes_of (oldest_in v.device.image v.index)) c.args.at none) in
    subst P c.self.view_is (c.source.ensures ∙ ap source_in c.in-Some.ensures.item.1 ∙ found)
