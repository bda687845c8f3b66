-- The sectors wear evenly over the turns of a run, and over sessions.
use Rattle.std.proofs.Common.{◌≡◌, ℕ, ◌<◌, ◌≤◌, false, List, [], ◌∷◌, refl, sym, ap, subst, ◌∙◌}
use Rattle.jffs_flash.specs.Device.{Device}
use Rattle.jffs_node.specs.declared.node.Node.{Node}
use Rattle.jffs_log.specs.Wear.{sector_after_each}
use Rattle.jffs_log.proofs.erase.Wear.{wear_even}
use Rattle.jffs_log.proofs.erase.WearOverSessions.{sessions_wear_evenly}
use Rattle.jffs_core.specs.CoreState.{CoreState}
use Rattle.jffs_core.specs.Past.{Represents, IsLeftBy}
use Rattle.jffs_core.specs.Erases.{ErasesInTurn}
use Rattle.jffs_core.proofs.room.Erasing.{mounts_go_on, uses_along}
use Rattle.jffs_serve.proofs.ChainLaws.{worked_before}
use Rattle.jffs_run.specs.Sessions.{Stretch, Sessions}
use Rattle.jffs_run.specs.Wear.{IsWornEvenly, EachRunWearsEvenly, ErasedInSessions, EndWorking, SessionsWearEvenly, RunsWearEvenly}
use Rattle.jffs_run.proofs.ends.Scanning.{ends_so, as_left}
use Rattle.jffs_run.proofs.promises.Done.{turned_done}
use Rattle.jffs_run.proofs.promises.Turns.{turn_in, so_far}

worn : (start now : CoreState) → start.index.first < start.index.sectors → ErasesInTurn start now → IsWornEvenly start now
worn start now begins erases = record {
  erases = erases;
  even = λ j k low high. wear_even start.index.sectors start.index.first erases.turned.many j k begins low high;
}

each_run_wears_evenly : EachRunWearsEvenly
each_run_wears_evenly before start account fresh run =
    let so = ends_so fresh (run.lawful _ _ fresh.stands) in (
      λ works. worn start run.core fresh.begins (let device = so.device in device.erases works),
      λ first later r are.
          let turn = turn_in fresh run first r later are in
          let at = turn.within in
          let before_it = so_far fresh turn in
          let erases = at.replied.erases in
          (turn, λ works. worn start at.now fresh.begins (let device = uses_along start at.was at.now (worked_before at.replied) before_it.device erases.device in device.erases works)),
    )

-- the first of these sessions begins with that sector
abbrev BeginsAt : (count first : ℕ) (device : Device) (stretches : List Stretch) → Sessions device stretches → Type 0
BeginsAt count first device [] sessions = Unit {0}
BeginsAt count first device (stretch ∷ later) sessions = (sessions.1.session.start.index.sectors ≡ count) × (sessions.1.session.start.index.first ≡ first)

next_begins : (count first : ℕ) (mounted past : List Node) (core : CoreState) (left : Device) (later : List Stretch) (sessions : Sessions left later) → Represents mounted past core → core.failed ≡ false → 1 ≤ core.index.held → IsLeftBy core left
    → core.index.sectors ≡ count → core.index.first ≡ first → BeginsAt count first left later sessions
next_begins count first mounted past core left [] sessions stands works some by sectors at = tt
next_begins count first mounted past core left (stretch ∷ later) sessions stands works some by sectors at =
    let same = sessions.0 in
    let next = sessions.1.session in
    let device = next.fresh.device_is in (
      sym device.sizes.0 ∙ same.sectors_are ∙ by.sizes.0 ∙ sectors,
      mounts_go_on mounted past core next.start stretch.given stands works some next.fresh (same.images_are ∙ by.image_is) (same.sectors_are ∙ by.sizes.0, same.sizes_are ∙ by.sizes.1) ∙ at,
    )

each_erased : (count first : ℕ) (device : Device) (stretches : List Stretch) (sessions : Sessions device stretches) → EndWorking device stretches sessions → BeginsAt count first device stretches sessions
    → (erases : List ℕ) × ErasedInSessions count first device stretches sessions erases
each_erased count first device [] sessions worked at = ([], tt)
each_erased count first device (stretch ∷ later) sessions worked at =
    let session = sessions.1.session in
    let turns = session.turns in
    let start = session.start in
    let ran = turns.lawful _ _ session.fresh.stands in
    let so = ends_so session.fresh ran in
    let erased = (let device = so.device in device.erases worked.0) in
    let turned = erased.turned in
    let to : turns.core.index.first ≡ sector_after_each count first turned.many =
    turned.first
    ∙ ap (λ (c : ℕ). sector_after_each c start.index.first turned.many) at.0
    ∙ ap (λ (f : ℕ). sector_after_each count f turned.many) at.1 in
    let found = turned_done stretch.given stretch.left start session.fresh turns worked.0 in
    let same = as_left stretch.given stretch.left stretch.opened turns.core found.scanned found.found sessions.1.opens in
    let left = subst (IsLeftBy turns.core) (sym same) turns.left in
    let begins = next_begins count (sector_after_each count first turned.many) _ ran.after turns.core stretch.opened later sessions.2 so.stands worked.0 worked.1 left (turned.sectors ∙ at.0) to in
    let rest = each_erased count (sector_after_each count first turned.many) stretch.opened later sessions.2 worked.2 begins in
    (turned.many ∷ rest.0, (record { erases = erased; many_are = refl; sectors = at.0; begins = at.1 }, rest.1))

over_sessions : SessionsWearEvenly
over_sessions device stretch later sessions worked =
    let session = sessions.1.session in
    let count = session.start.index.sectors in
    let first = session.start.index.first in
    let made = each_erased count first device (stretch ∷ later) sessions worked (refl, refl) in
    (made.0, made.1, λ j k low high. sessions_wear_evenly count first made.0 j k session.fresh.begins low high)

pub runs_wear_evenly : RunsWearEvenly
runs_wear_evenly = record { each = each_run_wears_evenly; all = over_sessions }
