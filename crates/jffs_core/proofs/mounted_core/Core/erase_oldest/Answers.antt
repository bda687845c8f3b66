use Rattle.std.proofs.Common.{◌∙◌, inl, ◌<◌, ◌≤◌, length, false, ◌≡◌, refl, sym, ap, subst, arith}
use Rattle.std.specs.List.{AllByRecursion}
use Rattle.std.proofs.lemmas.Bool.{both_ways}
use Rattle.std.proofs.lemmas.Result.{on_ok_weaker, IfErr-weaker}
use Rattle.jffs_flash.specs.Device.{Device}
use Rattle.jffs_log.specs.LogIndex.{layout_in, lives_in, oldest_in}
use Rattle.jffs_log.specs.Cleaning.{Layout, erase_oldest}
use Rattle.jffs_log.specs.LogState.{ErasedOldest, EraseFailed}
use Rattle.jffs_log.proofs.Results.{either_way}
use Rattle.jffs_log.proofs.Seen.{log_sizes}
use Rattle.jffs_core.specs.CoreState.{CoreState}
use Rattle.jffs_core.specs.Past.{RepresentsWorking}
use Rattle.jffs_core.proofs.puts.Handed.{erased_left, erase_left}
use Rattle.jffs_core.proofs.room.Sweeping.{held_is}
use Rattle.jffs_core.proofs.room.Erasing.{erased_one, erase_failed, leaves_one, one_fewer, uses_one, uses_failed}
use Rattle.jffs_core.proofs.mounted_core.Core.erase_oldest.Goals as goal

-- the log of the core inside has several sectors
several_inside : (inside seen : CoreState) → inside ≡ seen → 2 ≤ length (layout_in seen.image seen.index).sectors → 2 ≤ length (layout_in inside.image inside.index).sectors
several_inside inside seen same h = subst (λ (v : CoreState). 2 ≤ length (layout_in v.image v.index).sectors) (sym same) h

pub erase_oldest-requires-clause-several : goal.erase_oldest-requires-clause-several
erase_oldest-requires-clause-several g c =
    let works = ap (λ (v : CoreState). v.failed) c.self.view_is ∙ c.requires.working in
    subst (λ k. 2 ≤ k) (held_is c.self.inside.log.device.image c.self.inside.log.index (c.self.invariant.index works)) (several_inside _ _ c.self.view_is c.requires.dead.several)

pub erase_oldest-requires-clause-dead : goal.erase_oldest-requires-clause-dead
erase_oldest-requires-clause-dead g c =
    subst (λ (v : CoreState). AllByRecursion (λ p. lives_in v.tree p ≡ false) (oldest_in v.image v.index)) (sym c.self.view_is) c.requires.dead.dead

pub invariant_of-self : goal.invariant_of-self
invariant_of-self g c =
    let old = c.self.inside.log in
    let new = c.erase_oldest.new.self in
    let works = ap (λ (v : CoreState). v.failed) c.self.view_is ∙ c.requires.working in
    let stands = c.self.invariant.past works in
    let several = several_inside _ _ c.self.view_is c.requires.dead.several in
    either_way c.erase_oldest.result (ErasedOldest c.self.inside.tree old new) (λ why. EraseFailed c.self.inside.tree why old new) _
    (λ e. record {
      sizes = log_sizes old new (ap (λ (d : Device). d.sectors) e.works.device) (ap (λ (d : Device). d.sector_size) e.works.device) c.self.invariant.sizes e.sizes;
      index = λ w. e.works.told;
      past = λ w. (stands.0, erased_left stands.0 old new c.self.inside.tree c.self.inside.limits c.self.inside.clean stands.1 several e);
    })
    (λ why f. record {
      sizes = log_sizes old new (ap (λ (d : Device). d.sectors) f.device.rest) (ap (λ (d : Device). d.sector_size) f.device.rest) c.self.invariant.sizes f.sizes;
      index = λ w. absurd (both_ways _ w f.failed);
      past = λ w. absurd (both_ways _ w f.failed);
    })
    c.erase_oldest.ensures.done c.erase_oldest.ensures.failed

pub returns-clause-erased : goal.returns-clause-erased
returns-clause-erased g c = on_ok_weaker c.erase_oldest.result (λ e.
    let log = e.layout_is ∙ ap (λ (v : CoreState). erase_oldest (layout_in v.image v.index)) c.self.view_is in
    record {
      works = e.works.failed;
      log = log;
      history = λ past known. record {
        stands = record {
          works = e.works.failed;
          faults = ap (λ (d : Device). d.faults) e.works.device ∙ ap (λ (v : CoreState). v.faults) c.self.view_is;
          programs = let none = c.erase_oldest.ensures.worn.programmed in let was = ap (λ (v : CoreState). v.wear.bytes) c.self.view_is in omega arith;
          represents = erased_left past c.self.inside.log _ c.self.inside.tree c.self.inside.limits c.self.inside.clean (subst (λ (v : CoreState). RepresentsWorking past v) (sym c.self.view_is) known) (several_inside _ _ c.self.view_is c.requires.dead.several) e;
        };
        log = log;
      };
    })
    c.erase_oldest.ensures.done

pub returns-clause-stopped : goal.returns-clause-stopped
returns-clause-stopped g c = IfErr-weaker c.erase_oldest.result _ _ (λ why f. record {
  cause_is = f.cause_is;
  history = λ past known.
      let new = c.erase_oldest.new.self in
      let h = subst (λ (v : CoreState). RepresentsWorking past v) (sym c.self.view_is) known in
      record {
        fails = f.failed;
        faults = subst (λ k. k < new.device.faults) (ap (λ (v : CoreState). v.faults) c.self.view_is) f.device.faults;
        programs = inl (let none = c.erase_oldest.ensures.worn.programmed in let was = ap (λ (v : CoreState). v.wear.bytes) c.self.view_is in omega arith);
        left = erase_left past c.self.inside.log new _ why h f refl refl refl;
      };
})
    c.erase_oldest.ensures.failed

pub returns-clause-leaves : goal.returns-clause-leaves
returns-clause-leaves g c =
    let old = c.self.inside.log in
    let new = c.erase_oldest.new.self in
    either_way c.erase_oldest.result (ErasedOldest c.self.inside.tree old new) (λ why. EraseFailed c.self.inside.tree why old new) _
    (λ e.
    let sizes = e.sizes in
    leaves_one _ _ _ c.self.view_is (record { answers = refl; capacity = refl; closed = refl }) e.sizes (let counted = e.erases in omega arith) (uses_one _ _ (sym sizes.0) e.first e.erases (ap (λ (d : Device). d.failed_erases) e.works.device) e.works.no_erase_failed c.erase_oldest.ensures.worn.erased) c.erase_oldest.ensures.unread)
    (λ why f. leaves_one _ _ _ c.self.view_is (record { answers = refl; capacity = refl; closed = refl }) f.sizes (let counted = f.erases in omega arith) (uses_failed _ _ f.failed (ap (λ (d : Device). d.failed_erases) f.device.rest)) c.erase_oldest.ensures.unread)
    c.erase_oldest.ensures.done c.erase_oldest.ensures.failed

pub returns-clause-erases : goal.returns-clause-erases
returns-clause-erases g c =
    let old = c.self.inside.log in
    let new = c.erase_oldest.new.self in
    let works = ap (λ (v : CoreState). v.failed) c.self.view_is ∙ c.requires.working in
    let before = held_is old.device.image old.index (c.self.invariant.index works) in
    let two = several_inside _ _ c.self.view_is c.requires.dead.several in
    let held = ap (λ (v : CoreState). v.index.held) c.self.view_is in
    let leaves = returns-clause-leaves g c in
    either_way c.erase_oldest.result (ErasedOldest c.self.inside.tree old new) (λ why. EraseFailed c.self.inside.tree why old new) _
    (λ e.
    let fewer = one_fewer (layout_in old.device.image old.index).sectors two in
    let after = held_is new.device.image new.index e.works.told in
    let log = ap (λ (l : Layout). length l.sectors) e.layout_is in
    erased_one c.args.self.now _ leaves.erases (omega arith) leaves.device)
    (λ why f. erase_failed c.args.self.now _ f.failed leaves.erases (omega arith) leaves.device)
    c.erase_oldest.ensures.done c.erase_oldest.ensures.failed
