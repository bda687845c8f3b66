-- What a run did.
use Rattle.std.proofs.Common.{◌≡◌, ◌⊎◌, inl, inr, ⊎_elim, true, false, List, [], ◌∷◌, ◌++◌, refl, sym, ap, subst, ◌∙◌}
use Rattle.jffs_node.specs.declared.node.Node.{Node}
use Rattle.jffs_node.proofs.Rules.{ok_same}
use Rattle.jffs_tree.specs.State.{State, apply, state_of_past}
use Rattle.jffs_tree.specs.Origin.{state_in}
use Rattle.jffs_tree.specs.Done.{done, IsFreeFor}
use Rattle.jffs_flash.specs.Device.{Device}
use Rattle.jffs_log.specs.Image.{past_of}
use Rattle.jffs_log.specs.Scan.{Scanned}
use Rattle.jffs_core.specs.CoreState.{CoreState}
use Rattle.jffs_core.specs.Past.{IsFresh}
use Rattle.jffs_core.specs.Answering.{turn_of}
use Rattle.jffs_core.specs.Done.{done_by, ScanFinds}
use Rattle.jffs_core.proofs.answers.Deciding.{copies_state}
use Rattle.jffs_core.proofs.answers.Done.{node_done, node_free, step_done, step_free, state_known}
use Rattle.jffs_core.proofs.scans.Scanning.{scans_find, failed_found}
use Rattle.jffs_serve.specs.Replies.{Reply}
use Rattle.jffs_serve.specs.Chain.{IsReplied, Chain, after_reply}
use Rattle.jffs_serve.specs.ChainLaws.{volume_of, IsRequested}
use Rattle.jffs_serve.proofs.ChainLaws.{fails_as}
use Rattle.jffs_run.specs.Account.{Account}
use Rattle.jffs_run.specs.Headline.{IsRun}
use Rattle.jffs_run.specs.Faults.{LeftByTurns}
use Rattle.jffs_run.specs.Done.{done_by_all, granted_done, AllFree, IsDoneToo, RunsAreFree, GrantedIsDone, EachIsDone, FailedIsDoneOrNot}
use Rattle.jffs_run.specs.Opened.{IsOpenedAs}
use Rattle.jffs_run.proofs.ends.Scanning.{ends_so, same_scan, opens_core, as_left}
use Rattle.jffs_run.proofs.promises.Turns.{turn_in}

-- a turn does what its answer says
reply_done : (mounted past : List Node) (was now : CoreState) (r : Reply) (replied : IsReplied mounted past was r now)
    → state_of_past (after_reply replied) ≡ done_by (state_of_past past) r.request.wish r.step.outcome
reply_done mounted past was now r replied =
    step_done (turn_of past was now) r.request r.step.outcome (after_reply replied) replied.answer.answers.step

-- and so do all turns of a chain
chain_done : (mounted past after : List Node) (start core : CoreState) (replies : List Reply) → Chain mounted past start replies core after
    → state_of_past after ≡ done_by_all (state_of_past past) replies
chain_done mounted past after start core [] chain = ap state_of_past chain.1
chain_done mounted past after start core (r ∷ replies) chain =
    chain_done mounted (after_reply chain.0.replied) after chain.0.now core replies chain.1
    ∙ ap (λ s. done_by_all s replies) (reply_done mounted past chain.0.was chain.0.now r chain.0.replied)

chain_free : (mounted past after : List Node) (start core : CoreState) (replies : List Reply) → Chain mounted past start replies core after → AllFree (state_of_past past) replies
chain_free mounted past after start core [] chain = tt
chain_free mounted past after start core (r ∷ replies) chain =
    let replied = chain.0.replied in (
      step_free (turn_of past chain.0.was chain.0.now) r.request r.step.outcome (after_reply replied) replied.answer.answers.step,
      subst (λ (s : State). AllFree s replies) (reply_done mounted past chain.0.was chain.0.now r replied)
          (chain_free mounted (after_reply replied) after chain.0.now core replies chain.1),
    )

done_last : (s : State) (first : List Reply) (r : Reply) → done_by_all s (first ++ r ∷ []) ≡ done_by (done_by_all s first) r.request.wish r.step.outcome
done_last s [] r = refl
done_last s (q ∷ first) r = done_last (done_by s q.request.wish q.step.outcome) first r

-- the state that a scan found before is that of the log that was mounted
state_mounted : (before : Device) (start : CoreState) (fresh : IsFresh before start) → state_of_past (past_of fresh.scanned.log) ≡ state_in fresh.scanned.tree
state_mounted before start fresh =
    let mounted = past_of fresh.scanned.log in
    let s = fresh.stands in
    let finds = scans_find mounted mounted start s fresh.works in
    let same : fresh.scanned ≡ finds.scanned = ok_same fresh.scanned finds.scanned (sym fresh.found ∙ same_scan start before fresh.device_is ∙ finds.found) in
    sym (ap (λ (x : Scanned). state_in x.tree) same ∙ ap state_in finds.tree_is ∙ state_known mounted start (s.stands.working fresh.works))

pub runs_are_free : RunsAreFree
runs_are_free before start account fresh run =
    let ran = run.lawful _ _ fresh.stands in
    subst (λ (s : State). AllFree s run.replies) (state_mounted before start fresh) (chain_free _ _ ran.after start run.core run.replies ran.chain)

-- a run's turns
abbrev pub turns_of : (start : CoreState) (account : Account) → IsRun start account → LeftByTurns start account.device
turns_of start account run = record {
  replies = run.replies;
  core = run.core;
  left = run.left;
  sizes = run.sizes;
  erases = run.erases;
  lawful = run.lawful;
}

-- what is left by turns of a core that works on has the granted requests done
pub turned_done :
    (before after : Device) (start : CoreState) (fresh : IsFresh before start) (turns : LeftByTurns start after) → turns.core.failed ≡ false
    → ScanFinds (λ s. s ≡ granted_done fresh turns.replies) after.sectors after.sector_size after.image
turned_done before after start fresh turns works =
    let ran = turns.lawful _ _ fresh.stands in
    let ends = ends_so fresh ran in
    let s = ends.stands in
    let finds = scans_find _ ran.after turns.core s works in
    record {
      scanned = finds.scanned;
      found = same_scan turns.core after turns.left ∙ finds.found;
      state_is = ap state_in finds.tree_is ∙ state_known ran.after turns.core (s.stands.working works)
          ∙ chain_done _ _ ran.after start turns.core turns.replies ran.chain
          ∙ ap (λ x. done_by_all x turns.replies) (state_mounted before start fresh);
    }

pub granted_is_done : GrantedIsDone
granted_is_done before start account fresh run works = turned_done before account.device start fresh (turns_of start account run) works

pub each_is_done : EachIsDone
each_is_done before start account fresh run first later r are tells =
    let turn = turn_in fresh run first r later are in
    let at = turn.within in
    let s = at.replied.answer.answers.stands in
    let now_works = fails_as at.replied ∙ tells in
    let finds = scans_find _ (after_reply at.replied) at.now s now_works in (
      turn,
      record {
        scanned = finds.scanned;
        found = finds.found;
        state_is = ap state_in finds.tree_is ∙ state_known (after_reply at.replied) at.now (s.stands.working now_works)
            ∙ reply_done _ at.taken at.was at.now r at.replied
            ∙ ap (λ x. done_by x r.request.wish r.step.outcome)
            (chain_done _ _ at.taken start at.was first at.so_far ∙ ap (λ x. done_by_all x first) (state_mounted before start fresh))
            ∙ sym (done_last (state_in fresh.scanned.tree) first r);
      },
    )

-- the request in hand is done, where its node is there
done_too : (start : CoreState) (replies : List Reply) (after : List Node) (n : Node) → IsRequested (volume_of start) replies after n
    → (s : State) → s ≡ apply (state_of_past after) n → IsDoneToo replies (state_of_past after) s
done_too start replies after n h s is =
    let c = h.copies in
    let same : state_of_past after ≡ state_of_past h.turn.past = ap state_of_past c.joined ∙ copies_state h.turn.past c.copies c.true_copies in
    record {
      reply = h.reply;
      among = h.among;
      device = h.device;
      inode = n.inode;
      free = subst (λ (x : State). IsFreeFor h.reply.request.wish x n.inode) (sym same) (node_free h.turn h.reply.request after n h.node);
      is = is ∙ ap (λ x. apply x n) same ∙ node_done h.turn h.reply.request after n h.node ∙ ap (λ x. done n.inode x h.reply.request.wish) (sym same);
    }

-- and once it is opened
pub turned_opened :
    (before after opened : Device) (start : CoreState) (fresh : IsFresh before start) (turns : LeftByTurns start after) → turns.core.failed ≡ false → IsOpenedAs before after turns.core opened
    → ScanFinds (λ s. s ≡ granted_done fresh turns.replies) opened.sectors opened.sector_size opened.image
turned_opened before after opened start fresh turns works opens =
    let found = turned_done before after start fresh turns works in
    let same = as_left before after opened turns.core found.scanned found.found opens in
    subst (λ (d : Device). ScanFinds (λ s. s ≡ granted_done fresh turns.replies) d.sectors d.sector_size d.image) (sym same) found

-- where the core failed they are done, and at most one that was answered Device besides
pub turned_failed :
    (before after opened : Device) (start : CoreState) (fresh : IsFresh before start) (turns : LeftByTurns start after)
    → turns.core.failed ≡ true → IsOpenedAs before after turns.core opened
    → ScanFinds (λ s. (s ≡ granted_done fresh turns.replies) ⊎ IsDoneToo turns.replies (granted_done fresh turns.replies) s) opened.sectors opened.sector_size opened.image
turned_failed before after opened start fresh turns fails opens =
    let ran = turns.lawful _ _ fresh.stands in
    let ends = ends_so fresh ran in
    let o = opens_core before after opened start turns.core fresh turns.left ends.device opens in
    let f = failed_found (IsRequested (volume_of start) turns.replies ran.after) ran.after turns.core opened.image (ends.in_hand fresh.works fails) o.image in
    let done_all = chain_done _ _ ran.after start turns.core turns.replies ran.chain ∙ ap (λ x. done_by_all x turns.replies) (state_mounted before start fresh) in
    record {
      scanned = f.0;
      found = o.scan ∙ f.1;
      state_is = ⊎_elim
          (λ same. inl (same ∙ done_all))
          (λ more. inr (subst (λ (x : State). IsDoneToo turns.replies x (state_in f.0.tree)) done_all
          (done_too start turns.replies ran.after more.0 more.1 (state_in f.0.tree) more.2)))
          f.2;
    }

pub failed_is_done_or_not : FailedIsDoneOrNot
failed_is_done_or_not before start account opened fresh run fails opens = turned_failed before account.device opened start fresh (turns_of start account run) fails opens
