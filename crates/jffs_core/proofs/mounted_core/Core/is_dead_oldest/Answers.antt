use Rattle.std.proofs.Common.{◌≡◌, ◌∙◌, ◌≤◌, length, false, sym, ap, subst}
use Rattle.std.specs.List.{AllByRecursion}
use Rattle.jffs_log.specs.LogIndex.{layout_in, lives_in, oldest_in}
use Rattle.jffs_core.specs.CoreState.{CoreState}
use Rattle.jffs_core.proofs.room.Sweeping.{held_is}
use Rattle.jffs_core.proofs.mounted_core.Core.is_dead_oldest.Goals as goal

pub returns : goal.returns
returns g c =
    let works = ap (λ (v : CoreState). v.failed) c.self.view_is ∙ c.requires.working in
    let many = held_is c.self.inside.log.device.image c.self.inside.log.index (c.self.invariant.index works) in (
      λ yes.
          let d = c.oldest_dead.ensures.0 yes in
          record {
            several = subst (λ (v : CoreState). 2 ≤ length (layout_in v.image v.index).sectors) c.self.view_is (subst (λ k. 2 ≤ k) (sym many) d.0);
            dead = subst (λ (v : CoreState). AllByRecursion (λ p. lives_in v.tree p ≡ false) (oldest_in v.image v.index)) c.self.view_is d.1;
          },
      λ d. c.oldest_dead.ensures.1 (
        subst (λ k. 2 ≤ k) many (subst (λ (v : CoreState). 2 ≤ length (layout_in v.image v.index).sectors) (sym c.self.view_is) d.several),
        subst (λ (v : CoreState). AllByRecursion (λ p. lives_in v.tree p ≡ false) (oldest_in v.image v.index)) (sym c.self.view_is) d.dead,
      ),
    )
