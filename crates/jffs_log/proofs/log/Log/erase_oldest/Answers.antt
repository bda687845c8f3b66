use Rattle.std.proofs.Common.{◌≡◌, ℕ, ◌-◌, ◌*◌, ◌<◌, ◌≤◌, false, refl, sym, ap, subst, ◌∙◌}
use Rattle.jffs_flash.specs.Device.{Device, with_image, EraseFails}
use Rattle.jffs_flash.specs.Image.{erased, IsHalfErased}
use Rattle.std.specs.List.{AllByRecursion}
use Rattle.jffs_inodes.specs.Inodes.{Tree}
use Rattle.jffs_log.specs.LogIndex.{lives_in, oldest_in}
use Rattle.jffs_log.specs.LogState.{LogState, OldestIsDead, ErasedOldest, EraseFailed}
use Rattle.jffs_tree.specs.declared.wish.Cause.{Cause}
use Rattle.jffs_log.proofs.begun.Asked.{may_erase}
use Rattle.jffs_log.proofs.append.Appended.{described_readable}
use Rattle.jffs_log.proofs.Histories.{erasing_keeps_history}
use Rattle.jffs_log.proofs.erase.ErasedIndex.{IsIndexErased, index_erased}
use Rattle.jffs_log.proofs.Seen.{told, only_image, same_sizes, log_holds}
use Rattle.jffs_log.proofs.log.Log.erase_oldest.Goals as goal
use Rattle.jffs_log.proofs.log.Log.erase_oldest.Goals.{After-sector_after-index}

-- what is said of the log inside is said of it by its other name
done_seen : (inside seen new : LogState) (tree : Tree) → inside ≡ seen → ErasedOldest tree inside new → ErasedOldest tree seen new
done_seen inside seen new tree same h = subst (λ (v : LogState). ErasedOldest tree v new) same h

failed_seen : (inside seen new : LogState) (tree : Tree) (why : Cause) → inside ≡ seen → EraseFailed tree why inside new → EraseFailed tree why seen new
failed_seen inside seen new tree why same h = subst (λ (v : LogState). EraseFailed tree why v new) same h

-- the image is that without the oldest sector
changed : (old new : Device) (size first : ℕ) → new ≡ with_image old (erased old.sector_size first old.image) → old.sector_size ≡ size → new.image ≡ erased size first old.image
changed old new size first done same = ap (λ (d : Device). d.image) done ∙ ap (λ (k : ℕ). erased k first old.image) same

-- the index without it
after : (g : _) (c : After-sector_after-index g)
    → IsIndexErased c.self.inside.index.sectors c.self.inside.index.sector_size (g.F.Flash.device c.self.inside.flash).image (g.F.Flash.device c.erase.new.self).image c.sector_after-index.result
    (c.self.inside.index.held - 1) c.self.inside.index.tail c.self.inside.index.used c.self.inside.index.free c.forget_sector.new.records.items
after g c =
    let b = c.self.inside.index in
    index_erased _ _ _ _ _ _ _ _ _ _ _ c.forget_sector.new.records.items (told _ _ c.self.view_is c.self.invariant c.requires.working)
    (subst (λ (v : LogState). 2 ≤ v.index.held) (sym c.self.view_is) c.requires.several)
    c.sector_after-index.ensures (changed (g.F.Flash.device c.self.inside.flash) _ b.sector_size b.first c.in-Ok.ensures.device c.self.invariant.sizes.1) c.forget_sector.ensures

pub erase-requires : goal.erase-requires
erase-requires g c = subst (λ (k : ℕ). c.self.inside.index.first < k) (sym c.self.invariant.sizes.0) c.self.invariant.first

pub invariant_of-self : goal.invariant_of-self
invariant_of-self g c =
    log_holds _ (same_sizes (g.F.Flash.device c.self.inside.flash) _ c.self.inside.index _ c.in-Ok.ensures.device c.self.invariant.sizes)
    (after g (goal.at.invariant_of-self g c).After-sector_after-index).index c.self.invariant.intact

pub returns-in-Ok-clause-done : goal.returns-in-Ok-clause-done
returns-in-Ok-clause-done g c =
    let b = c.self.inside.index in
    let old = g.F.Flash.device c.self.inside.flash in
    let new = g.F.Flash.device c.erase.new.self in
    let tree = c.args.tree.now in
    let done = c.in-Ok.ensures.device in
    let image = changed old new b.sector_size b.first done c.self.invariant.sizes.1 in
    let after = after g (goal.at.returns-in-Ok-clause-done g c).After-sector_after-index in
    let readable = described_readable _ _ _ _ _ _ _ _ _ after.index in
    let dead = subst (λ (v : LogState). OldestIsDead tree v) (sym c.self.view_is) c.requires.dead in
    done_seen _ _ _ tree c.self.view_is
    (record {
      works = record {
        failed = ap (λ (v : LogState). v.failed) c.self.view_is ∙ c.requires.working;
        no_erase_failed = refl;
        told = after.index;
        device = only_image old new _ done;
      };
      image = image;
      sizes = (refl, refl);
      erases = c.saturating_add-index.ensures;
      first = c.sector_after-index.ensures;
      gone = after.gone;
      layout_is = after.layout;
      clean = after.clean;
      history = λ past is h. erasing_keeps_history b.sectors b.sector_size old.image new.image past (oldest_in old.image b) h readable after.gone
          (subst (λ (t : Tree). AllByRecursion (λ p. lives_in t p ≡ false) (oldest_in old.image b)) is dead);
    })

pub returns-in-Err-clause-failed : goal.returns-in-Err-clause-failed
returns-in-Err-clause-failed g c =
    let b = c.self.inside.index in
    let old = g.F.Flash.device c.self.inside.flash in
    let new = g.F.Flash.device c.erase.new.self in
    let tree = c.args.tree.now in
    let seen = c.self.view_is in
    let several = subst (λ (v : LogState). 2 ≤ v.index.held) (sym seen) c.requires.several in
    let dead = subst (λ (v : LogState). OldestIsDead tree v) (sym seen) c.requires.dead in
    failed_seen _ _ _ tree c.failure.result seen
    (record {
      cause_is = c.failure.ensures.cause;
      failed = c.failure.ensures.kept;
      device = subst (λ n. EraseFails (IsHalfErased (b.first * n) n old.image) old new) c.self.invariant.sizes.1 c.in-Err.ensures.device;
      erase_failed = refl;
      sizes = (refl, refl);
      first = refl;
      erases = c.saturating_add-index.ensures;
      may = λ past is h. may_erase old.image b tree past (told _ _ seen c.self.invariant c.requires.working) several dead is h;
    })
