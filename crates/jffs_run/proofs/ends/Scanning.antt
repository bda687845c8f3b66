-- What a run leaves on its device.
use Rattle.std.proofs.Common.{◌≡◌, inl, inr, false, List, Ok, sym, ap, subst, ◌∙◌, arith}
use Rattle.std.proofs.lemmas.Bool.{cases_Bool, false_from_ne_true}
use Rattle.jffs_log.specs.Image.{past_of}
use Rattle.jffs_log.specs.Volume.{split}
use Rattle.jffs_log.specs.Scan.{Scanned, scan}
use Rattle.jffs_log.specs.Heal.{healed}
use Rattle.jffs_log.proofs.begun.Healed.{as_found}
use Rattle.jffs_core.specs.Run.{IsLawful}
use Rattle.jffs_core.specs.CoreState.{CoreState}
use Rattle.jffs_core.specs.declared.answer.Answer.{Answer}
use Rattle.jffs_core.proofs.scans.Scanning.{scans_find, failed_finds_with}
use Rattle.jffs_serve.specs.Chain.{RunsTo}
use Rattle.jffs_serve.specs.ChainLaws.{EndsSo, volume_of, IsRequested, any_failure}
use Rattle.jffs_serve.specs.Replies.{Reply}
use Rattle.jffs_serve.proofs.ChainLaws.{chains_end_so, failures_are_faults, replies_are_lawful}
use Rattle.jffs_flash.specs.Device.{Device, with_image}
use Rattle.jffs_log.specs.ScanFound.{scan_of}
use Rattle.jffs_core.specs.Past.{IsFresh, IsLeftBy, IsOpened}
use Rattle.jffs_core.specs.Erases.{UsesDevice}
use Rattle.jffs_run.specs.Account.{Account}
use Rattle.jffs_run.specs.Opened.{IsOpenedAs}
use Rattle.jffs_run.specs.Headline.{IsRun, requests_in}
use Rattle.jffs_run.specs.Scanned.{RunsLeaveContents, FailedRunsLeaveHistory, RunsWithoutFaults}

-- from the log that was mounted, the answers are lawful for the requests
lawful_answers :
    {before : Device} {start : CoreState} {account : Account} (fresh : IsFresh before start) (run : IsRun start account)
    (ran : RunsTo start run.core (past_of fresh.scanned.log) (past_of fresh.scanned.log) run.replies)
    → IsLawful (volume_of start) (past_of fresh.scanned.log) (requests_in run.replies) account.answers ran.after
lawful_answers {start = start} fresh run ran =
    let mounted = past_of fresh.scanned.log in
    subst (λ (given : List Answer). IsLawful (volume_of start) mounted (requests_in run.replies) given ran.after) (sym run.answers_are)
    (replies_are_lawful start run.core mounted mounted run.replies run.each_replies ran)

-- what the chain of a run from a mount on tells of its end
pub ends_so :
    {before : Device} {start core : CoreState} {replies : List Reply} (fresh : IsFresh before start) (ran : RunsTo start core (past_of fresh.scanned.log) (past_of fresh.scanned.log) replies)
    → EndsSo (past_of fresh.scanned.log) (past_of fresh.scanned.log) start core replies ran.after
ends_so {start = start} {core = core} {replies = replies} fresh ran = chains_end_so _ _ ran.after start core replies fresh.stands ran.chain

-- where the device's count of failed erases is as it was, none failed
pub no_erase_failed : (before after : Device) (start core : CoreState) → IsFresh before start → IsLeftBy core after → UsesDevice start core → after.failed_erases ≡ before.failed_erases → core.erase_failed ≡ false
no_erase_failed before after start core fresh left uses intact = false_from_ne_true core.erase_failed (λ failed.
    let more = uses.counted fresh.no_erase_failed failed in
    let begun = fresh.device_is.failed_erases_are in
    let ended = left.failed_erases_are in
    omega (arith, more, begun, ended, intact))

-- a scan of the device is one of the core's image
pub same_scan : (core : CoreState) (device : Device) → IsLeftBy core device → scan_of device ≡ scan core.index.sector_size (split core.index.sectors core.index.sector_size core.image)
same_scan core device left = λ i. scan (left.sizes.1 i) (split (left.sizes.0 i) (left.sizes.1 i) (left.image_is i))

-- An image of the core, in which a scan of the device looks once that is opened.
pub record OpensCore (core : CoreState) (opened : Device) : Type 0 where
  pub image : IsOpened core opened.image
  pub scan : scan_of opened ≡ scan core.index.sector_size (split core.index.sectors core.index.sector_size opened.image)

pub opens_core : (before after opened : Device) (start core : CoreState) → IsFresh before start → IsLeftBy core after → UsesDevice start core → IsOpenedAs before after core opened → OpensCore core opened
opens_core before after opened start core fresh left uses (inl as_left) =
    let P : Device → Type 0 = OpensCore core in
    subst P (sym as_left.1)
    (record {
      image = inl (no_erase_failed before after start core fresh left uses as_left.0, left.image_is);
      scan = λ i. scan (left.sizes.1 i) (split (left.sizes.0 i) (left.sizes.1 i) after.image);
    })
opens_core before after opened start core fresh left uses (inr once_healed) =
    let P : Device → Type 0 = OpensCore core in
    let image = healed after.sectors after.sector_size after.image in
    subst P (sym once_healed.1)
    (record {
      image = inr (once_healed.0, λ i. healed (left.sizes.0 i) (left.sizes.1 i) (left.image_is i));
      scan = λ i. scan (left.sizes.1 i) (split (left.sizes.0 i) (left.sizes.1 i) image);
    })

-- a device of which a scan finds a log is opened as it was left
pub as_left : (before after opened : Device) (core : CoreState) (scanned : Scanned) → scan_of after ≡ Ok scanned → IsOpenedAs before after core opened → opened ≡ after
as_left before after opened core scanned found (inl left) = left.1
as_left before after opened core scanned found (inr once_healed) = once_healed.1 ∙ ap (with_image after) (as_found after.sectors after.sector_size after.image scanned found)

pub runs_leave_contents : RunsLeaveContents
runs_leave_contents before start account fresh run works =
    let ran = run.lawful _ _ fresh.stands in
    let ends = ends_so fresh ran in
    let finds = scans_find _ ran.after run.core ends.stands works in
    record {
      after = ran.after;
      lawful = lawful_answers fresh run ran;
      added = finds.added;
      since = finds.since;
      scanned = finds.scanned;
      found = same_scan run.core account.device run.left ∙ finds.found;
      state_is = finds.state_is;
    }

pub failed_runs_leave_history : FailedRunsLeaveHistory
failed_runs_leave_history before start account opened fresh run fails opens =
    let ran = run.lawful _ _ fresh.stands in
    let ends = ends_so fresh ran in
    let o = opens_core before account.device opened start run.core fresh run.left ends.device opens in
    let f = failed_finds_with (IsRequested (volume_of start) run.replies ran.after) _ ran.after run.core opened.image (let s = ends.stands in s.grown) (ends.in_hand fresh.works fails) o.image in
    record {
      after = ran.after;
      lawful = lawful_answers fresh run ran;
      finds = record {
        scanned = f.scanned;
        found = o.scan ∙ f.found;
        added = f.added;
        since = f.since;
        state_is = f.state_is;
      };
    }

pub runs_without_faults : RunsWithoutFaults
runs_without_faults before start account fresh run same =
    let ran = run.lawful _ _ fresh.stands in
    let left = run.left in
    let ends = ends_so fresh ran in
    let still : run.core.faults ≡ start.faults = sym left.faults_are ∙ (same ∙ fresh.device_is.faults_are) in
    let works : run.core.failed ≡ false = elim (cases_Bool run.core.failed) [
      | inl fails ↦ absurd (let risen = ends.faults fresh.works fails in omega (arith, still, risen))
      | inr works ↦ works
    ] in (
      subst (λ (given : List Answer). any_failure given ≡ false) (sym run.answers_are) (failures_are_faults start run.core _ _ run.replies fresh.stands ran fresh.works still),
      runs_leave_contents before start account fresh run works,
    )
