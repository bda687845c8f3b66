-- What sessions made, one after another.
use Rattle.std.proofs.Common.{◌≡◌, inl, inr, ⊎_elim, true, false, [], ◌∷◌, refl, sym, ap, subst, ◌∙◌}
use Rattle.std.proofs.lemmas.Bool.{cases_Bool}
use Rattle.jffs_node.proofs.Rules.{ok_same}
use Rattle.jffs_tree.specs.State.{State}
use Rattle.jffs_tree.specs.Origin.{state_in}
use Rattle.jffs_flash.specs.Device.{Device}
use Rattle.jffs_log.specs.Volume.{split}
use Rattle.jffs_log.specs.Scan.{Scanned, scan}
use Rattle.jffs_log.specs.ScanFound.{scan_of}
use Rattle.jffs_core.specs.Done.{ScanFinds}
use Rattle.jffs_run.specs.Sessions.{HadSession, Makes, HoldSame, SessionsAreDone, RunsAreSessions, FaultsEndSessions}
use Rattle.jffs_run.specs.Opened.{IsOpenedAs}
use Rattle.jffs_run.proofs.promises.Done.{turns_of, turned_opened, turned_failed}

-- devices that hold the same give the same scan
scan_same : (a b : Device) → HoldSame a b → scan_of b ≡ scan_of a
scan_same a b same = λ i. scan (same.sizes_are i) (split (same.sectors_are i) (same.sizes_are i) (same.images_are i))

-- what a scan finds after one session
one_made :
    (given left opened : Device) (session : HadSession given left) → IsOpenedAs given left session.turns.core opened
    → ScanFinds (Makes session (state_in session.fresh.scanned.tree)) opened.sectors opened.sector_size opened.image
one_made given left opened session opens = ⊎_elim failed worked (cases_Bool session.turns.core.failed)
  where
    Is : State → Type 0
    Is = Makes session (state_in session.fresh.scanned.tree)

    failed : session.turns.core.failed ≡ true → ScanFinds Is opened.sectors opened.sector_size opened.image
    failed fails =
        let found = turned_failed given left opened session.start session.fresh session.turns fails opens in
        record { scanned = found.scanned; found = found.found; state_is = ⊎_elim inl (λ too. inr (fails, too)) found.state_is }

    worked : session.turns.core.failed ≡ false → ScanFinds Is opened.sectors opened.sector_size opened.image
    worked works =
        let found = turned_opened given left opened session.start session.fresh session.turns works opens in
        record { scanned = found.scanned; found = found.found; state_is = inl found.state_is }

pub sessions_are_done : SessionsAreDone
sessions_are_done device [] sessions first is = record { scanned = first; found = is; state_is = refl }
sessions_are_done device (stretch ∷ later) sessions first is =
    let session = sessions.1.session in
    let same : session.fresh.scanned ≡ first = ok_same session.fresh.scanned first (sym session.fresh.found ∙ scan_same device stretch.given sessions.0 ∙ is) in
    let one = one_made stretch.given stretch.left stretch.opened session sessions.1.opens in
    let rest = sessions_are_done stretch.opened later sessions.2 one.scanned one.found in
    record {
      scanned = rest.scanned;
      found = rest.found;
      state_is = (state_in one.scanned.tree, subst (λ (s : Scanned). Makes session (state_in s.tree) (state_in one.scanned.tree)) same one.state_is, rest.state_is);
    }

pub runs_are_sessions : RunsAreSessions
runs_are_sessions before start account fresh run = (
  record { start = start; fresh = fresh; turns = turns_of start account run },
  record { starts = refl; replies_are = refl; core_is = refl },
)

pub faults_end_sessions : FaultsEndSessions
faults_end_sessions script rounds before wear why after given = ⊎_elim
    (λ named. let rest = named.1.refused.rest in inl (
      record {
        sectors_are = ap (λ (d : Device). d.sectors) rest;
        sizes_are = ap (λ (d : Device). d.sector_size) rest;
        images_are = ap (λ (d : Device). d.image) rest;
      },
      named.1.none,
    ))
    (λ had. inr (record { start = had.start; fresh = had.fresh; turns = had.left.turns }, record { asked = had.left.asked; answers_are = had.left.answers_are }))
    given
