-- What the calls that clean and erase leave.
use Rattle.std.proofs.Common.{◌≡◌, ℕ, zero, suc, ◌≤◌, false, List, [], length, refl, sym, ap, subst, arith}
use Rattle.jffs_node.specs.declared.node.Node.{Node}
use Rattle.jffs_tree.specs.declared.wish.Cause.{Cause}
use Rattle.jffs_tree.specs.declared.wish.Cause.TheVariants as causes
use Rattle.jffs_log.specs.LogIndex.{layout_in}
use Rattle.jffs_log.specs.Cleaning.{Layout, GcState, cleaned}
use Rattle.jffs_log.proofs.rooms.Copied.{copies_take_over, unmounts_are_dead}
use Rattle.jffs_log.proofs.rooms.Bound.{cleaning_has_room}
use Rattle.jffs_core.specs.CoreState.{CoreState}
use Rattle.jffs_core.specs.Run.{OnlyCopies}
use Rattle.jffs_core.specs.declared.cleaning.Cleaned.{Cleaned}
use Rattle.jffs_core.specs.declared.cleaning.Cleaned.TheVariants.{Erased, OneSector}
use Rattle.jffs_core.specs.History.{IsOwnCopy, MayFollow, Grows}
use Rattle.jffs_core.specs.Past.{RepresentsWorking, RepresentsPast, Represents, gc_state}
use Rattle.jffs_core.specs.Calls.{FailsIn, RefusedAt, KeepsTwo}
use Rattle.jffs_core.specs.Cleaning.{HasCleaned, SectorStopped, DidClean, Cleans, Stops, StopIs, EraseStopIs, erased_times}
use Rattle.jffs_core.proofs.answers.Refusing.{by_refusal, works_past, fails_past, failed_more, copies_follow, refused_past}
use Rattle.jffs_core.proofs.answers.Full.{sizes_low}
use Rattle.jffs_core.proofs.answers.Contents.{grows_along, only_copies_grow}

-- What a core represents after cleaning.
pub stands_after : (mounted past after : List Node) (new : CoreState) → Grows mounted past → OnlyCopies past after → RepresentsPast after new → Represents mounted after new
stands_after mounted past after new grown added stands = record { grown = grows_along mounted past after grown (only_copies_grow past after added); stands = stands }

cleaned_keeps : (past later : List Node) (copies : ℕ) (old new : CoreState) → RepresentsWorking past old → 2 ≤ length (layout_in old.image old.index).sectors → HasCleaned past later copies old new → KeepsTwo old new
cleaned_keeps past later copies old new known several c two =
    let low = sizes_low old.index.sectors old.index.sector_size known.history.sizes in
    let more = (cleaning_has_room copies_take_over unmounts_are_dead old.index.sectors old.index.sector_size (gc_state past old) low.1 known.sound two several).2 in
    let at : (layout_in new.image new.index).erased ≡ (cleaned old.index.sector_size (gc_state past old)).log.erased = ap (λ (x : GcState). x.log.erased) c.turn in
    omega arith

pub did_clean : (mounted past : List Node) (done : Cleaned) (old new : CoreState) → old.failed ≡ false → Represents mounted past old → DidClean done past old new → Cleans mounted past done old new
did_clean mounted past (Erased sector copies) old new works s h =
    let c = h.2.1 in
    let k = s.stands in
    record {
      after = h.2.0;
      added = c.added;
      stands = stands_after mounted past h.2.0 new s.grown c.added (works_past h.2.0 new c.stands.works c.stands.represents);
      did = h;
      two = cleaned_keeps past h.2.0 copies old new (k.working works) h.1 c;
    }
did_clean mounted past OneSector old new works s h = record {
  after = past;
  added = record { copies = []; true_copies = tt; joined = refl };
  stands = subst (Represents mounted past) (sym h.0) s;
  did = h;
  two = λ e. subst (λ (c : CoreState). 2 ≤ (layout_in c.image c.index).erased) (sym h.0) e;
}

times_more : (k : ℕ) (log : Layout) → log.erased ≤ (erased_times k log).erased
times_more zero log = omega arith
times_more (suc k) log = let l = times_more k log in omega arith

pub erased_keeps : (count : ℕ) (old new : CoreState) → layout_in new.image new.index ≡ erased_times count (layout_in old.image old.index) → KeepsTwo old new
erased_keeps count old new is two =
    let at : (layout_in new.image new.index).erased ≡ (erased_times count (layout_in old.image old.index)).erased = ap (λ (l : Layout). l.erased) is in
    let more = times_more count (layout_in old.image old.index) in
    omega arith

stop_is : (cause : Cause) (past after : List Node) (old new : CoreState) → old.failed ≡ false → RefusedAt cause past after old new → (cause ≡ causes.NoSpace → 2 ≤ (layout_in old.image old.index).erased → ⊥) → StopIs cause past after old new
stop_is cause past after old new w h none =
    by_refusal (IsOwnCopy after) past after old new (λ c. (c ≡ causes.NoSpace → 2 ≤ (layout_in old.image old.index).erased → ⊥) → StopIs c past after old new)
    (λ works spent none. (w, (works, spent))) (λ works none. (w, works)) (λ works none. (works, none refl)) (λ fails none. (w, fails)) cause h none

pub did_stop : (mounted past : List Node) (cause : Cause) (old new : CoreState) → old.failed ≡ false → Represents mounted past old → (after : List Node) × SectorStopped cause past after old new → Stops mounted past cause old new
did_stop mounted past cause old new works s h =
    let one = h.1 in
    let c = one.stopped in
    record {
      after = h.0;
      added = c.copies;
      stands = stands_after mounted past h.0 new s.grown c.copies (refused_past (IsOwnCopy h.0) past h.0 (copies_follow h.0) cause old new c.stands);
      why = stop_is cause past h.0 old new works c.stands c.no_room;
      several = λ w. one.several;
      wants = one.wants;
    }

pub device_stop : (mounted past : List Node) (cause : Cause) (old new : CoreState) → old.failed ≡ false → Represents mounted past old → cause ≡ causes.Device → FailsIn (λ n. ⊥) past past old new → Represents mounted past new × EraseStopIs cause past old new
device_stop mounted past cause old new works s is h =
    let left = failed_more (λ n. ⊥) (MayFollow past) (λ n none. absurd none) past new h.left in
    (record { grown = s.grown; stands = fails_past past new h.fails left }, subst (λ c. EraseStopIs c past old new) (sym is) (works, h))
