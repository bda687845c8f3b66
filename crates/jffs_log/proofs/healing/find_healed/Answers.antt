use Rattle.std.proofs.Common.{◌≡◌, ◌<◌, ◌*◌, ℕ, false, inr, Option, Some, sym, ap, subst, ◌∙◌}
use Rattle.std.specs.Prelude.{MatchOption}
use Rattle.std.specs.Option.{option_map_or}
use Rattle.jffs_flash.specs.Device.{Device as FlashDevice, EraseFails}
use Rattle.jffs_flash.specs.Image.{erased, IsHalfErased}
use Rattle.jffs_flash.specs.Wear.{Wear, Wears, one_erase}
use Rattle.jffs_log.specs.declared.scanning.ScanWhy.{ScanWhy}
use Rattle.jffs_log.specs.declared.scanning.ScanWhy.TheVariants.{Device}
use Rattle.jffs_log.specs.ScanFound.{IsFound}
use Rattle.jffs_log.specs.Heal.{begun_on, erase_of, was_begun, IsUnhealed}
use Rattle.jffs_log.specs.Healing.{IsAsked, IsEnded}
use Rattle.jffs_log.proofs.Results.{err_from}
use Rattle.jffs_log.proofs.begun.Found.{Stopped, stopped, is_begun}
use Rattle.jffs_log.proofs.healing.find_healed.Goals as goal
use Rattle.jffs_log.proofs.healing.find_healed.Goals.{In-Some, In-Some-2}

-- a scan stopped at the sector
stop : (g : _) (c : In-Some g) → let d = g.F.Flash.device c.args.flash.now in
    Stopped d.sectors d.sector_size d.image c.in-Err.why d.faults (g.F.Flash.device c.find_log.new.flash).faults c.in-Some.sector
stop g c = let d = g.F.Flash.device c.args.flash.now in stopped c.in-Err.why d.sectors d.sector_size d.faults _ c.in-Some.sector d.image (sym c.in-Some.ensures) c.in-Err.ensures.refused.cause

-- and changed nothing
kept : (g : _) (c : In-Some g) → g.F.Flash.device c.find_log.new.flash ≡ g.F.Flash.device c.args.flash.now
kept g c = c.in-Err.ensures.refused.rest ∙ ap (λ (n : ℕ). record (g.F.Flash.device c.args.flash.now) { faults = n }) (stop g c).same

-- the log without it
ended : (g : _) (c : In-Some-2 g) → IsEnded c.in-Some.sector (g.F.Flash.device c.find_log.new.flash) c.in-Some-2.found
ended g c =
    let d = g.F.Flash.device c.find_log.new.flash in
    subst (λ o. MatchOption o (was_begun d.sectors d.sector_size d.image c.in-Some.sector ≡ false) (IsEnded c.in-Some.sector d)) c.in-Some-2.is c.in_ok-found.ensures.begun

pub find_begun-requires : goal.find_begun-requires
find_begun-requires g c =
    let here = (goal.at.find_begun-requires g c).In-Some in
    subst (IsAsked c.in-Some.sector) (sym (kept g here)) (record { sizes = (stop g here).sizes; inside = (stop g here).inside })

-- and on the device as it was at first
ended_first : (g : _) (before : In-Some g) (c : In-Some-2 g) → IsEnded before.in-Some.sector (g.F.Flash.device before.find_log.new.flash) c.in-Some-2.found
    → IsEnded before.in-Some.sector (g.F.Flash.device before.args.flash.now) c.in-Some-2.found
ended_first g before c h = subst (λ (d : FlashDevice). IsEnded before.in-Some.sector d c.in-Some-2.found) (kept g before) h

-- so its erase is ended
begun : (g : _) (before : In-Some g) (c : In-Some-2 g) → IsEnded before.in-Some.sector (g.F.Flash.device before.find_log.new.flash) c.in-Some-2.found
    → begun_on (g.F.Flash.device before.args.flash.now) ≡ Some before.in-Some.sector
begun g before c h =
    let d = g.F.Flash.device before.args.flash.now in
    is_begun d.sectors d.sector_size before.in-Some.sector d.image before.in-Err.why (stop g before).answer (sym before.in-Some.ensures) (ended_first g before c h).begun

pub erase-requires : goal.erase-requires
erase-requires g c =
    let before = (goal.at.erase-requires g c).In-Some in
    let same = c.in_ok-found.ensures.same ∙ kept g before in
    subst (λ (d : FlashDevice). c.in-Some.sector < d.sectors) (sym same) (stop g before).inside

-- what the erase wears
worn : (k : ℕ) (o : Option ℕ) (w old middle new : Wear) → o ≡ Some k → middle ≡ w → w ≡ old → Wears (one_erase k) 0 middle new → Wears (erase_of o) 0 old new
worn k o w old middle new is same before h = subst (λ (e : Option ℕ). Wears (erase_of e) 0 old new) (sym is) (subst (λ (v : Wear). Wears (one_erase k) 0 v new) (same ∙ before) h)

pub returns-in_err-erase-clause-refused : goal.returns-in_err-erase-clause-refused
returns-in_err-erase-clause-refused g c =
    let at = goal.at.returns-in_err-erase-clause-refused g c in
    let d = g.F.Flash.device c.args.flash.now in
    let after = g.F.Flash.device c.erase.new.self in
    let k = c.in-Some.sector in
    let P : FlashDevice → Type 0 = λ m. EraseFails (IsHalfErased (k * m.sector_size) m.sector_size m.image) m after in
    let fails = subst P (c.in_ok-found.ensures.same ∙ kept g at.In-Some) c.in_err-erase.ensures.device in
    err_from c.from_residual-in_err-erase.result Device (λ (v : ScanWhy). IsUnhealed d v after) c.from_residual-in_err-erase.ensures.1
    (record { cause = fails.faults; rest = inr (k, begun g at.In-Some at.In-Some-2 (ended g at.In-Some-2), fails) })

pub returns-in_err-erase-clause-worn : goal.returns-in_err-erase-clause-worn
returns-in_err-erase-clause-worn g c =
    let at = goal.at.returns-in_err-erase-clause-worn g c in
    worn c.in-Some.sector _ _ _ _ _ (begun g at.In-Some at.In-Some-2 (ended g at.In-Some-2)) c.in_ok-found.ensures.unworn c.in-Err.ensures.unworn c.erase.ensures.worn

pub returns-clause-found : goal.returns-clause-found
returns-clause-found g c =
    let at = goal.at.returns-clause-found g c in
    let d = g.F.Flash.device c.args.flash.now in
    let f = c.in-Some-2.found in
    let h = ended g at.In-Some-2 in
    subst (λ (o : Option ℕ). IsFound d.sectors d.sector_size (option_map_or (λ k. erased d.sector_size k d.image) o d.image) f.index f.tree f.clean f.limits)
    (sym (begun g at.In-Some at.In-Some-2 h)) (ended_first g at.In-Some at.In-Some-2 h).is

pub returns-clause-worn : goal.returns-clause-worn
returns-clause-worn g c =
    let at = goal.at.returns-clause-worn g c in
    worn c.in-Some.sector _ _ _ _ _ (begun g at.In-Some at.In-Some-2 (ended g at.In-Some-2)) c.in_ok-found.ensures.unworn c.in-Err.ensures.unworn c.erase.ensures.worn
