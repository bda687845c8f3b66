-- The turns of a run.
use Rattle.std.proofs.Common.{◌≡◌, ◌∙◌, List, ◌∷◌, ◌++◌, subst}
use Rattle.jffs_flash.specs.Device.{Device}
use Rattle.jffs_log.specs.Image.{past_of}
use Rattle.jffs_core.specs.CoreState.{CoreState}
use Rattle.jffs_core.specs.Past.{IsFresh}
use Rattle.jffs_core.proofs.scans.Scanning.{scans_find}
use Rattle.jffs_serve.specs.Replies.{Reply}
use Rattle.jffs_serve.specs.Chain.{Chain, after_reply}
use Rattle.jffs_serve.specs.ChainLaws.{EndsSo}
use Rattle.jffs_serve.proofs.Chains.{chains_split}
use Rattle.jffs_serve.proofs.ChainLaws.{chains_end_so, fails_as, says_failed, no_room_at_the_turn}
use Rattle.jffs_run.specs.Account.{Account}
use Rattle.jffs_run.specs.Headline.{IsRun}
use Rattle.jffs_run.specs.Turns.{InRun, NoSpaceMeansNoRoom, FailedStaysFailed, AnswersAreDurable}

-- a run's turn, from the log that was mounted
pub turn_in :
    {before : Device} {start : CoreState} {account : Account} (fresh : IsFresh before start) (run : IsRun start account) (first : List Reply) (r : Reply) (later : List Reply)
    → run.replies ≡ first ++ r ∷ later → InRun run (past_of fresh.scanned.log) first r later
turn_in {start = start} fresh run first r later are =
    let mounted = past_of fresh.scanned.log in
    let ran = run.lawful mounted mounted fresh.stands in
    record {
      after = ran.after;
      within = chains_split mounted mounted ran.after start run.core first later r
          (subst (λ (replies : List Reply). Chain mounted mounted start replies run.core ran.after) are ran.chain);
    }

-- what the turns before it tell
pub so_far :
    {before : Device} {start : CoreState} {account : Account} {run : IsRun start account} {first : List Reply} {r : Reply} {later : List Reply}
    (fresh : IsFresh before start) (turn : InRun run (past_of fresh.scanned.log) first r later)
    → EndsSo (past_of fresh.scanned.log) (past_of fresh.scanned.log) start turn.within.was first turn.within.taken
so_far {start = start} {first = first} fresh turn = chains_end_so _ _ turn.within.taken start turn.within.was first fresh.stands turn.within.so_far

pub no_space_means_no_room : NoSpaceMeansNoRoom
no_space_means_no_room before start account fresh run first later r are is =
    let turn = turn_in fresh run first r later are in
    let at = turn.within in
    let refused = no_room_at_the_turn _ at.taken at.was at.now r at.replied is in
    (turn, refused.0, refused.1)

pub failed_stays_failed : FailedStaysFailed
failed_stays_failed before start account fresh run first later r are tells =
    let turn = turn_in fresh run first r later are in
    let at = turn.within in
    let so = so_far fresh turn in
    says_failed at.replied (so.failed tells)

pub answers_are_durable : AnswersAreDurable
answers_are_durable before start account fresh run first later r are tells =
    let turn = turn_in fresh run first r later are in
    let at = turn.within in
    (turn, scans_find _ (after_reply at.replied) at.now at.replied.answer.answers.stands (fails_as at.replied ∙ tells))
