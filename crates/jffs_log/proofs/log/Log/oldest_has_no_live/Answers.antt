use Rattle.std.proofs.Common.{◌≡◌, ◌↔◌, sym, ap, true, false, eqb, subst, IsTrue, ◌∙◌}
use Rattle.std.specs.List.{take_while}
use Rattle.jffs_tree.specs.Look.{holds_version}
use Rattle.jffs_log.specs.declared.log_index.RecordRef.{RecordRef}
use Rattle.jffs_log.specs.LogState.{LogState, OldestIsDead}
use Rattle.jffs_log.proofs.erase.OldestDead.{dead_exactly}
use Rattle.jffs_log.proofs.erase.OldestAsked.{not_dead, dead_before, none_before}
use Rattle.jffs_log.proofs.Seen.{told}
use Rattle.jffs_log.proofs.log.Log.oldest_has_no_live.Goals as goal

pub returns-in-Some : goal.returns-in-Some
returns-in-Some g c =
    let h = told _ _ c.self.view_is c.self.invariant c.requires.working in
    let found = c.stands_there.ensures c.if-stands_there.true in
    let tree = c.args.tree.now in
    let lives : holds_version tree found.0.inode found.0.version ≡ true =
    ap (λ i. holds_version tree i found.0.version) found.4 ∙ ap (λ v. holds_version tree c.in-Some.inode v) found.3 ∙ c.in-Some.ensures.live.1 in
    let P : LogState → Type 0 = λ v. IsTrue false ↔ OldestIsDead tree v in
    subst P c.self.view_is (not_dead _ _ _ _ _ _ _ _ _ tree found.0 h found.1 found.2 lives)

pub returns-in_default : goal.returns-in_default
returns-in_default g c =
    let h = told _ _ c.self.view_is c.self.invariant c.requires.working in
    let b = c.self.inside.index in
    let tree = c.args.tree.now in
    let first = c.version_at-first.result in
    let next = c.next_live-next.result in
    let dead = none_before first next tree (take_while (λ (k : RecordRef). eqb k.sector b.first) b.records.items)
    (dead_before first next tree c.next_live-next.ensures.least c.next_live-next.ensures.none)
    (sym c.all_before.ensures ∙ c.if-all_before.true) in
    let P : LogState → Type 0 = λ v. IsTrue true ↔ OldestIsDead tree v in
    subst P c.self.view_is (dead_exactly _ _ _ _ _ _ _ _ _ tree true h (sym dead))

pub returns-in_default-2 : goal.returns-in_default-2
returns-in_default-2 g c =
    let h = told _ _ c.self.view_is c.self.invariant c.requires.working in
    let tree = c.args.tree.now in
    let P : LogState → Type 0 = λ v. IsTrue c.none_lives.result ↔ OldestIsDead tree v in
    subst P c.self.view_is (dead_exactly _ _ _ _ _ _ _ _ _ tree c.none_lives.result h c.none_lives.ensures)
