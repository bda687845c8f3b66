-- What is told of the files.
use Rattle.std.proofs.Common.{◌≡◌, ◌⊎◌, inl, inr, ⊎_elim, true, false, not, ◌||◌, ℕ, List, Result, Ok, Err, IfOk, IfErr, MatchResult, refl, sym, ap, subst, ◌∙◌}
use Rattle.std.proofs.lemmas.Bool.{both_ways, or_left, or_right}
use Rattle.jffs_node.specs.declared.node.Node.{Node}
use Rattle.jffs_tree.specs.State.{State, apply, state_of_past}
use Rattle.jffs_tree.specs.Origin.{state_in}
use Rattle.jffs_tree.proofs.decisions.Copies.{state_of_tree}
use Rattle.jffs_tree.specs.declared.wish.Wish.{Wish}
use Rattle.jffs_tree.specs.declared.wish.Wish.TheVariants as wishes
use Rattle.jffs_tree.specs.declared.wish.Cause.{Cause}
use Rattle.jffs_tree.specs.declared.wish.Cause.TheVariants as causes
use Rattle.jffs_tree.specs.declared.wish.Outcome.{Outcome}
use Rattle.jffs_tree.specs.declared.wish.Outcome.TheVariants.{Appended, Copied, Closed, Refused}
use Rattle.jffs_line.specs.declared.request.Request.{Request}
use Rattle.jffs_core.specs.CoreState.{CoreState, IsSameButCapacity}
use Rattle.jffs_core.specs.History.{IsOwnCopy, contents}
use Rattle.jffs_core.specs.Past.{Represents, HasFailed, IsOpened}
use Rattle.jffs_core.specs.Calls.{FailsIn}
use Rattle.jffs_core.specs.Run.{is_failure}
use Rattle.jffs_core.specs.Trees.{KeepsTree}
use Rattle.jffs_core.specs.Asking.{IsAsked}
use Rattle.jffs_core.specs.Step.{OutcomeIs, IsNodeFor, decision}
use Rattle.jffs_core.specs.Answering.{Answers, turn_of}
use Rattle.jffs_core.proofs.answers.Asked.{decision_is}
use Rattle.jffs_tree.specs.Decide.{decide_on, is_copy_wish, is_unmount_wish}
use Rattle.jffs_tree.specs.Done.{done, IsFreeFor}
use Rattle.jffs_tree.specs.declared.wish.NewNode.{NewNode}
use Rattle.jffs_core.specs.Done.{done_by, IsFreeBy, ScanFinds}
use Rattle.jffs_core.specs.declared.cleaning.Cleaned.{Cleaned}
use Rattle.jffs_core.specs.declared.cleaning.Cleaned.TheVariants.{Erased, OneSector}
use Rattle.jffs_core.specs.Cleaning.{Cleans, Stops, StopIs, DidClean, ErasesDead, ErasingStopped, EraseStopIs}
use Rattle.jffs_core.proofs.answers.Done.{contents_grown, state_known, answers_are_free, trees_are_done, step_done, node_done, node_free}
use Rattle.jffs_core.proofs.answers.Deciding.{copies_state}
use Rattle.jffs_core.proofs.scans.Scanning.{opened_finds, failed_found}
use Rattle.jffs_core.proofs.answers.Refusing.{failed_more}
use Rattle.jffs_session.specs.Session.{IsMounted, files}
use Rattle.jffs_session.specs.Told.{Asks, Finds, IsAllowed, GrantsAllowed, IsDone, IsDoneOrNot, is_change, IsTold, StaysFailed, LeavesFiles, is_refused, is_stop}
use Rattle.jffs_session.proofs.Histories.{answered, but_capacity, erased_mounted, unerased_mounted, cleaned_mounted, uncleaned_mounted}

-- the contents of a core that works are its files
files_are : (mounted past : List Node) (c : CoreState) (r : Represents mounted past c) → c.failed ≡ false → contents mounted r.grown.added ≡ files c
files_are mounted past c r works = contents_grown mounted past r.grown ∙ sym (state_known past c (r.stands.working works))

-- an answer that says that the device failed, of a core that had worked, is Device
is_device : (mounted past : List Node) (old new : CoreState) (q : Request) (o : Outcome) → Answers mounted past old new q o → old.failed ≡ false → is_failure o ≡ true → o ≡ Refused causes.Device
is_device mounted past old new q (Refused causes.Device) a works is = refl
is_device mounted past old new q (Refused causes.Failed) a works is = let s = a.step in absurd (both_ways old.failed works (s.failed_says_so.1 refl))
is_device mounted past old new q _ a works is = cc

module _ (q : Request) (o : Outcome) (old new : CoreState) (a : IsAsked q o old new) (m : IsMounted old) (works : old.failed ≡ false) where
  abbrev at_first : Represents m.mounted m.past a.reserved
  at_first = but_capacity m.mounted m.past old a.reserved a.room m.represents

  abbrev answer : Answers m.mounted m.past a.reserved a.answered q o
  answer = answered q o old new a m.mounted m.past m.represents

  still : a.reserved.failed ≡ false
  still = ap (λ (c : CoreState). c.failed) a.room ∙ works

  same_files : files a.reserved ≡ files old
  same_files = ap files a.room

  known : contents m.mounted at_first.grown.added ≡ files old
  known = files_are m.mounted m.past a.reserved at_first still ∙ same_files

  left_so : (image : List ℕ) → IsOpened new image → IsOpened a.answered image
  left_so image opened = subst (λ (c : CoreState). IsOpened c image) a.let_go opened

  -- what the step says of the decision
  allowed_so : (n : NewNode) → decision (turn_of m.past a.reserved a.answered) q ≡ Ok n → IsAllowed q.wish old
  allowed_so n is = (n, subst (λ (c : CoreState). decide_on c.tree c.limits q.wish ≡ Ok n) a.room (let s = at_first.stands in sym (decision_is m.past a.reserved q (s.working still)) ∙ is))

  granted_so : (p : Outcome) (copies own : List Node) → OutcomeIs p (turn_of m.past a.reserved a.answered) q copies own → GrantsAllowed p q.wish old
  granted_so (Appended inode version) copies own h = allowed_so h.new h.decided
  granted_so (Copied version) copies own h = h.wish
  granted_so Closed copies own h = h.wish
  granted_so (Refused cause) copies own h = tt

  found_so : (image : List ℕ) → o ≡ Refused causes.Device → IsOpened a.answered image → ScanFinds (IsDoneOrNot q.wish old) a.answered.index.sectors a.answered.index.sector_size image
  found_so image device opened =
      let t = turn_of m.past a.reserved a.answered in
      let f = failed_found (IsNodeFor t q answer.after) answer.after a.answered image (answer.in_hand device) opened in
      let r = at_first.stands in
      let before : state_of_past m.past ≡ files old = sym (state_known m.past a.reserved (r.working still)) ∙ same_files in
      let kept : state_of_past answer.after ≡ state_of_past m.past =
      step_done t q o answer.after answer.step ∙ ap (λ p. done_by (state_of_past m.past) q.wish p) device in
      record {
        scanned = f.0;
        found = f.1;
        state_is = ⊎_elim
            (λ as_before. inl (as_before ∙ kept ∙ before))
            (λ more. inr (record {
              allowed = λ change. let n = more.1 in allowed_so n.new n.decided;
              inode = more.0.inode;
              free = subst (λ (s : State). IsFreeFor q.wish s more.0.inode) before (node_free t q answer.after more.0 more.1);
              is = more.2 ∙ ap (λ s. apply s more.0) kept ∙ node_done t q answer.after more.0 more.1 ∙ ap (λ s. done more.0.inode s q.wish) before;
            }))
            f.2;
      }

  pub asked_told : IsTold q.wish o old new
  asked_told = record {
    fails = ap (λ (c : CoreState). c.failed) a.let_go ∙ answer.fails;
    allowed = let step = answer.step in granted_so o step.copies step.own step.outcome;
    free = subst (IsFreeBy o q.wish) known (answers_are_free m.mounted m.past a.reserved a.answered q o at_first answer);
    done = λ w.
        ap files a.let_go
        ∙ trees_are_done m.mounted m.past a.reserved a.answered q o at_first answer still (sym (ap (λ (c : CoreState). c.failed) a.let_go) ∙ w)
        ∙ ap (λ s. done_by s q.wish o) same_files;
    finds = λ f image opened.
        let device = is_device m.mounted m.past a.reserved a.answered q o answer still (sym (ap (λ (c : CoreState). c.failed) a.let_go ∙ answer.fails) ∙ f) in
        subst (λ (c : CoreState). ScanFinds (IsDoneOrNot q.wish old) c.index.sectors c.index.sector_size image) (sym a.let_go)
        (found_so image device (left_so image opened));
  }

-- nothing was asked
unasked_told : (wish : Wish) (old new : CoreState) → IsSameButCapacity old new → old.failed ≡ false → IsTold wish (Refused causes.Memory) old new
unasked_told wish old new same works =
    let still = ap (λ (c : CoreState). c.failed) same ∙ works in
    record { fails = still; allowed = tt; free = tt; done = λ w. ap files same; finds = λ f. absurd (both_ways new.failed still f) }

pub asks_told : (wish : Wish) (o : Outcome) (old new : CoreState) → Asks wish o old new → IsMounted old → old.failed ≡ false → IsTold wish o old new
asks_told wish o old new (inl asked) m works = subst (λ w. IsTold w o old new) asked.1 (asked_told asked.0 o old new asked.2 m works)
asks_told wish o old new (inr unasked) m works = subst (λ p. IsTold wish p old new) (sym unasked.0) (unasked_told wish old new unasked.1 works)

-- With no node in hand a scan finds the files of before.
finds_same : (past : List Node) (old new : CoreState) → state_of_past past ≡ files old → HasFailed (λ n. ⊥) past new → Finds (λ s. s ≡ files old) new
finds_same past old new is h image opened = elim (opened_finds (λ n. ⊥) past new image h opened) [
  | inl same ↦ record { scanned = same.scanned; found = same.found; state_is = ap state_in same.tree_is ∙ state_of_tree past (state_of_past past) ∙ is }
  | inr more ↦ absurd more.1
]

-- why an erase stopped
erase_stopped : (past : List Node) (cause : Cause) (old new : CoreState) → EraseStopIs cause past old new → (new.failed ≡ true) × (is_stop cause ≡ true)
erase_stopped past causes.Device old new h = (h.1.fails, refl)
erase_stopped past causes.Failed old new h = (ap (λ (c : CoreState). c.failed) h.1 ∙ h.0, refl)
erase_stopped past _ old new h = absurd h

stop_finds : (past : List Node) (cause : Cause) (old new : CoreState) → state_of_past past ≡ files old → old.failed ≡ false → EraseStopIs cause past old new → Finds (λ s. s ≡ files old) new
stop_finds past causes.Device old new is works h = finds_same past old new is h.1.left
stop_finds past causes.Failed old new is works h = absurd (both_ways old.failed works h.0)
stop_finds past _ old new is works h = absurd h

-- An erase leaves the files as they were.
unerased_leaves : (cause : Cause) (old new : CoreState) → ErasingStopped cause old new → KeepsTree old new → IsMounted old → old.failed ≡ false → LeavesFiles old new
unerased_leaves cause old new h tree m works =
    let s = h.history m.mounted m.past m.represents in
    let r = m.represents in
    record {
      same = λ w. ap state_in (tree w).1;
      finds = λ f. stop_finds m.past cause old new (sym (state_known m.past old (r.stands.working works))) works s.1;
    }

works_leaves : (old new : CoreState) → new.failed ≡ false → files new ≡ files old → LeavesFiles old new
works_leaves old new works same = record { same = λ w. same; finds = λ f. absurd (both_ways new.failed works f) }

did_work : (done : Cleaned) (past : List Node) (old new : CoreState) → DidClean done past old new → old.failed ≡ false → new.failed ≡ false
did_work (Erased sector copies) past old new h works = let d = h.2.1.stands in d.works
did_work OneSector past old new h works = ap (λ (c : CoreState). c.failed) h.0 ∙ works

cleaned_leaves : (mounted past : List Node) (done : Cleaned) (old new : CoreState) → Represents mounted past old → Cleans mounted past done old new → old.failed ≡ false → LeavesFiles old new
cleaned_leaves mounted past done old new r c works =
    let w = did_work done past old new c.did works in
    let copies = c.added in
    let is = c.stands in
    works_leaves old new w (
    state_known c.after new (is.stands.working w) ∙ ap state_of_past copies.joined ∙ copies_state past copies.copies copies.true_copies
    ∙ sym (state_known past old (r.stands.working works)))

-- a cleaning that stopped without a fault of the device works on
stop_works : (cause : Cause) (past after : List Node) (old new : CoreState) → StopIs cause past after old new → old.failed ≡ false → FailsIn (IsOwnCopy after) past after old new ⊎ (new.failed ≡ false)
stop_works causes.VersionsSpent past after old new h works = let s = h.1.0 in inr s.works
stop_works causes.Memory past after old new h works = let s = h.1 in inr s.works
stop_works causes.NoSpace past after old new h works = let s = h.0 in inr s.works
stop_works causes.Device past after old new h works = inl h.1
stop_works causes.Failed past after old new h works = absurd (both_ways old.failed works h.0)
stop_works _ past after old new h works = absurd h.1

uncleaned_leaves : (mounted past : List Node) (cause : Cause) (old new : CoreState) → Represents mounted past old → Stops mounted past cause old new → old.failed ≡ false → LeavesFiles old new
uncleaned_leaves mounted past cause old new r s works =
    let copies = s.added in
    let same : state_of_past s.after ≡ files old =
    ap state_of_past copies.joined ∙ copies_state past copies.copies copies.true_copies ∙ sym (state_known past old (r.stands.working works)) in
    record {
      same = λ w. let is = s.stands in state_known s.after new (is.stands.working w) ∙ same;
      finds = λ f image opened. elim (stop_works cause past s.after old new s.why works) [
        | inl fails ↦
            let found = failed_found (λ n. ⊥) s.after new image (failed_more (IsOwnCopy s.after) (λ n. IsOwnCopy s.after n ⊎ ⊥) (λ n own. inl own) s.after new fails.left) opened in
            record { scanned = found.0; found = found.1; state_is = ⊎_elim (λ is. is ∙ same) (λ one. absurd one.1) found.2 }
        | inr w ↦ absurd (both_ways new.failed w f)
      ];
    }

-- A wish that wasn't refused is done.
a_copy : (inode : ℕ) (s : State) (wish : Wish) → is_copy_wish wish ≡ true → done inode s wish ≡ s
a_copy inode s (wishes.Copy source parent name offset bytes) is = refl
a_copy inode s _ is = cc

an_unmount : (inode : ℕ) (s : State) (wish : Wish) → is_unmount_wish wish ≡ true → done inode s wish ≡ s
an_unmount inode s wishes.Unmount is = refl
an_unmount inode s _ is = cc

-- a copy and an unmount make no entry
no_entry : (wish : Wish) (s : State) → is_change wish ≡ false → IsFreeFor wish s 0
no_entry (wishes.Create path) s besides = cc
no_entry (wishes.MakeDir path) s besides = cc
no_entry _ s besides = λ makes. cc

not_change : (wish : Wish) → (is_copy_wish wish || is_unmount_wish wish) ≡ true → is_change wish ≡ false
not_change wish is = ap not is

done_besides : (wish : Wish) (old new : CoreState) → files new ≡ files old → done 0 (files old) wish ≡ files old → is_change wish ≡ false → IsDone wish old (files new)
done_besides wish old new same none besides = record {
  allowed = λ yes. absurd (both_ways (is_change wish) besides yes);
  inode = 0;
  free = no_entry wish (files old) besides;
  is = same ∙ sym none;
}

pub granted : (wish : Wish) (o : Outcome) (old new : CoreState) → IsTold wish o old new → ((cause : Cause) → o ≡ Refused cause → ⊥) → (new.failed ≡ false) × IsDone wish old (files new)
granted wish (Appended inode version) old new t not_refused =
    (t.fails, record { allowed = λ change. t.allowed; inode = inode; free = t.free; is = t.done t.fails })
granted wish (Copied version) old new t not_refused =
    (t.fails, done_besides wish old new (t.done t.fails) (a_copy 0 (files old) wish t.allowed) (not_change wish (or_left (is_copy_wish wish) (is_unmount_wish wish) t.allowed)))
granted wish Closed old new t not_refused =
    (t.fails, done_besides wish old new (t.done t.fails) (an_unmount 0 (files old) wish t.allowed) (not_change wish (or_right (is_copy_wish wish) (is_unmount_wish wish) t.allowed)))
granted wish (Refused cause) old new t not_refused = absurd (not_refused cause refl)

-- So it is after an erase.
pub still_done : (wish : Wish) (old between new : CoreState) → (between.failed ≡ false) × IsDone wish old (files between) → LeavesFiles between new → new.failed ≡ false → IsDone wish old (files new)
still_done wish old between new g leaves works = subst (IsDone wish old) (sym (leaves.same works)) g.1

pub finds_done : (wish : Wish) (old between new : CoreState) → (between.failed ≡ false) × IsDone wish old (files between) → LeavesFiles between new → new.failed ≡ true → Finds (λ s. (s ≡ files old) ⊎ IsDone wish old s) new
finds_done wish old between new g leaves fails image opened =
    let f = leaves.finds fails image opened in
    record { scanned = f.scanned; found = f.found; state_is = inr (subst (IsDone wish old) (sym f.state_is) g.1) }

-- What dead sectors' erase and a cleaning come to, by their results.
module _ (old new : CoreState) (m : IsMounted old) where
  pub erase_mounted : (r : Result ℕ Cause) → IfOk r (λ count. (mounted past : List Node) → Represents mounted past old → ErasesDead mounted past count old new) → IfErr r (λ cause. ErasingStopped cause old new) → IsMounted new
  erase_mounted (Ok count) done stopped = erased_mounted old new count done m
  erase_mounted (Err cause) done stopped = unerased_mounted old new cause stopped m

  pub erase_fails : (r : Result ℕ Cause) → IfOk r (λ count. (mounted past : List Node) → Represents mounted past old → ErasesDead mounted past count old new) → IfErr r (λ cause. ErasingStopped cause old new)
      → MatchResult r (λ count. new.failed ≡ false) (λ cause. (new.failed ≡ true) × (is_stop cause ≡ true))
  erase_fails (Ok count) done stopped = let e = done m.mounted m.past m.represents in e.still_works
  erase_fails (Err cause) done stopped = erase_stopped m.past cause old new (stopped.history m.mounted m.past m.represents).1

  pub erase_leaves : (r : Result ℕ Cause) → IfOk r (λ count. (mounted past : List Node) → Represents mounted past old → ErasesDead mounted past count old new) → IfErr r (λ cause. ErasingStopped cause old new)
      → KeepsTree old new → old.failed ≡ false → LeavesFiles old new
  erase_leaves (Ok count) done stopped tree works =
      let e = done m.mounted m.past m.represents in works_leaves old new e.still_works (ap state_in (tree e.still_works).1)
  erase_leaves (Err cause) done stopped tree works = unerased_leaves cause old new stopped tree m works

  pub clean_mounted : (r : Result Cleaned Cause) → IfOk r (λ done. (mounted past : List Node) → Represents mounted past old → Cleans mounted past done old new)
      → IfErr r (λ cause. (mounted past : List Node) → Represents mounted past old → Stops mounted past cause old new) → IsMounted new
  clean_mounted (Ok done) h stopped = cleaned_mounted old new done h m
  clean_mounted (Err cause) h stopped = uncleaned_mounted old new cause stopped m

  pub clean_leaves : (r : Result Cleaned Cause) → IfOk r (λ done. (mounted past : List Node) → Represents mounted past old → Cleans mounted past done old new)
      → IfErr r (λ cause. (mounted past : List Node) → Represents mounted past old → Stops mounted past cause old new) → old.failed ≡ false → LeavesFiles old new
  clean_leaves (Ok done) h stopped works = cleaned_leaves m.mounted m.past done old new m.represents (h m.mounted m.past m.represents) works
  clean_leaves (Err cause) h stopped works = uncleaned_leaves m.mounted m.past cause old new m.represents (stopped m.mounted m.past m.represents) works

-- A core that had failed refuses what it is asked.
asked_failed : (q : Request) (o : Outcome) (old new : CoreState) → IsAsked q o old new → IsMounted old → old.failed ≡ true → StaysFailed o new
asked_failed q o old new a m failed =
    let answer = answered q o old new a m.mounted m.past m.represents in
    let step = answer.step in
    let is : o ≡ Refused causes.Failed = step.failed_says_so.0 (ap (λ (c : CoreState). c.failed) a.room ∙ failed) in
    record { refused = ap is_refused is; fails = ap (λ (c : CoreState). c.failed) a.let_go ∙ answer.fails ∙ ap is_failure is }

pub asks_failed : (wish : Wish) (o : Outcome) (old new : CoreState) → Asks wish o old new → IsMounted old → old.failed ≡ true → StaysFailed o new
asks_failed wish o old new (inl asked) m failed = asked_failed asked.0 o old new asked.2 m failed
asks_failed wish o old new (inr unasked) m failed = record { refused = ap is_refused unasked.0; fails = ap (λ (c : CoreState). c.failed) unasked.1 ∙ failed }

pub not_both : (o : Outcome) → is_refused o ≡ true → ((cause : Cause) → o ≡ Refused cause → ⊥) → ⊥
not_both (Refused cause) is not_refused = not_refused cause refl
not_both _ is not_refused = cc

pub not_refused : (o : Outcome) → ((cause : Cause) → o ≡ Refused cause → ⊥) → is_refused o ≡ false
not_refused (Refused cause) never = absurd (never cause refl)
not_refused _ never = refl
