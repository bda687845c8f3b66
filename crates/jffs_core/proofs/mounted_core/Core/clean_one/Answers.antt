use Rattle.std.proofs.Common.{◌≡◌, ◌∙◌, ◌≤◌, length, refl, sym, ap, subst, arith}
use Rattle.std.proofs.lemmas.Result.{err_from_is_err_and}
use Rattle.jffs_log.specs.LogIndex.{layout_in}
use Rattle.jffs_core.specs.CoreState.{CoreState}
use Rattle.jffs_core.specs.Erases.{Leaves}
use Rattle.jffs_core.specs.Cleaning.{HasSeveral}
use Rattle.jffs_core.specs.Past.{RepresentsWorking}
use Rattle.jffs_core.proofs.room.Sweeping.{held_is}
use Rattle.jffs_core.proofs.room.Copying.{the_oldest, dead_oldest, then_erased, then_stopped}
use Rattle.jffs_core.proofs.room.Erasing.{leaves_more, leaves_along}
use Rattle.jffs_core.proofs.mounted_core.Core.clean_one.Goals as goal
use Rattle.jffs_core.proofs.mounted_core.Core.clean_one.Goals.{After-held, After-erase_oldest}

-- the log has as many sectors as are counted
counted : (g : _) (c : After-held g) → length (layout_in c.args.self.now.image c.args.self.now.index).sectors ≡ c.held.result
counted g c =
    let works = ap (λ (v : CoreState). v.failed) c.self.view_is ∙ c.requires.working in
    subst (λ (v : CoreState). length (layout_in v.image v.index).sectors ≡ c.held.result) c.self.view_is (held_is c.self.inside.log.device.image c.self.inside.log.index (c.self.invariant.index works) ∙ sym c.held.ensures)

-- so it has several
several_now : (g : _) (c : After-held g) → 2 ≤ c.held.result → HasSeveral c.args.self.now
several_now g c two =
    let works = ap (λ (v : CoreState). v.failed) c.self.view_is ∙ c.requires.working in
    let past = c.self.invariant.past works in
    record {
      works = c.requires.working;
      past = past.0;
      known = subst (λ (v : CoreState). RepresentsWorking past.0 v) c.self.view_is past.1;
      several = let many = counted g c in omega arith;
    }

pub returns-then-held-lt2-clause-cleaned : goal.returns-then-held-lt2-clause-cleaned
returns-then-held-lt2-clause-cleaned g c = λ past known.
    let many = counted g (goal.at.returns-then-held-lt2-clause-cleaned g c).After-held in
    let test = c.if-held-lt2.true in
    (refl, omega arith)

pub copy_each-requires : goal.copy_each-requires
copy_each-requires g c =
    record { several = several_now g (goal.at.copy_each-requires g c).After-held (let test = c.if-held-lt2.false in omega arith) }

pub erase_oldest-requires-clause-dead : goal.erase_oldest-requires-clause-dead
erase_oldest-requires-clause-dead g c =
    let o = several_now g (goal.at.erase_oldest-requires-clause-dead g c).After-held (let test = c.if-held-lt2.false in omega arith) in
    let d = c.in_ok-copies.ensures.copied o.past o.known in
    dead_oldest (the_oldest c.args.self.now) o.past d.0 c.in_ok-copies.copies c.args.self.now c.copy_each.new.self o.known refl o.several d.1

pub returns-clause-cleaned : goal.returns-clause-cleaned
returns-clause-cleaned g c = λ past known.
    let o = several_now g (goal.at.returns-clause-cleaned g c).After-held (let test = c.if-held-lt2.false in omega arith) in
    let d = c.in_ok-copies.ensures.copied past known in
    let h = d.1 in
    let erased = c.in_ok-erase_oldest.ensures.erased in (
      c.oldest-sector.ensures ∙ ap (λ (v : CoreState). v.index.first) c.self.view_is,
      o.several,
      (
        d.0,
        then_erased (the_oldest c.args.self.now) past d.0 c.in_ok-copies.copies c.args.self.now c.copy_each.new.self known refl o.several h c.erase_oldest.new.self
            (erased.history d.0 h.stands.represents),
      ),
    )

pub returns-in_err-copies-clause-leaves : goal.returns-in_err-copies-clause-leaves
returns-in_err-copies-clause-leaves g c = leaves_more 0 1 c.args.self.now c.copy_each.new.self (omega arith) c.in_err-copies.ensures.leaves

-- the copies were made, and a sector may have been erased
leaves : (g : _) (c : After-erase_oldest g) → Leaves 1 c.args.self.now c.erase_oldest.new.self
leaves g c = leaves_along 0 1 1 c.args.self.now c.copy_each.new.self c.erase_oldest.new.self (omega arith) c.in_ok-copies.ensures.works c.in_ok-copies.ensures.leaves c.erase_oldest.ensures.leaves

pub returns-in_err-erase_oldest-clause-leaves : goal.returns-in_err-erase_oldest-clause-leaves
returns-in_err-erase_oldest-clause-leaves g c = leaves g (goal.at.returns-in_err-erase_oldest-clause-leaves g c).After-erase_oldest

pub returns-clause-leaves : goal.returns-clause-leaves
returns-clause-leaves g c = leaves g (goal.at.returns-clause-leaves g c).After-erase_oldest

pub returns-in_err-erase_oldest-clause-stopped : goal.returns-in_err-erase_oldest-clause-stopped
returns-in_err-erase_oldest-clause-stopped g c = let p = err_from_is_err_and c.from_residual-in_err-erase_oldest.result c.from_residual-in_err-erase_oldest.ensures.1 in rw (p.1, p.2) λ past known.
    let o = several_now g (goal.at.returns-in_err-erase_oldest-clause-stopped g c).After-held (let test = c.if-held-lt2.false in omega arith) in
    let d = c.in_ok-copies.ensures.copied past known in
    (d.0, then_stopped (the_oldest c.args.self.now) past d.0 c.in_ok-copies.copies c.args.self.now c.copy_each.new.self known refl o.several d.1 _ c.erase_oldest.new.self c.in_err-erase_oldest.ensures.stopped)
