-- What a chain of turns tells.
use Rattle.std.proofs.Common.{◌≡◌, ◌⊎◌, ◌<◌, ◌≤◌, ℕ, inl, inr, ⊎_elim, Bool, true, false, ◌&&◌, ◌||◌, List, [], ◌∷◌, ◌++◌, length, map, refl, sym, ap, subst, ◌∙◌, append_assoc, append-nil, arith, suc, zero}
use Rattle.std.proofs.Math.Bool.{and-true, or-false}
use Rattle.std.proofs.lemmas.List.{map-append}
use Rattle.std.proofs.lemmas.List.Elements.{Contains-append_left, Contains-append_right}
use Rattle.std.proofs.lemmas.List.Folds.{list_all-append, list_any-append}
use Rattle.std.proofs.lemmas.Bool.{and_parts, both_ways, cases_Bool, false_from_ne_true, ltb-true, or_cases}
use Rattle.jffs_node.specs.declared.node.Node.{Node}
use Rattle.jffs_node.specs.Record.{is_fresh}
use Rattle.jffs_tree.specs.declared.wish.Cause.TheVariants as causes
use Rattle.jffs_tree.specs.declared.wish.Outcome.{Outcome}
use Rattle.jffs_tree.specs.declared.wish.Outcome.TheVariants.{Refused}
use Rattle.jffs_tree.specs.Decide.{with, is_unmount_wish}
use Rattle.jffs_log.specs.LogIndex.{HasSizes}
use Rattle.jffs_log.specs.Room.{heavy, weight}
use Rattle.jffs_core.specs.CoreState.{CoreState}
use Rattle.jffs_core.specs.History.{IsOwnCopy}
use Rattle.jffs_core.specs.Step.{Volume, Turn, IsStep, OutcomeIs, IsInHand}
use Rattle.jffs_core.specs.Past.{Represents, RepresentsWorking, HasFailed}
use Rattle.jffs_core.specs.Run.{OnlyCopies, AreAnswered, IsInOrder, is_failure}
use Rattle.jffs_core.specs.Answering.{ProgramsFor, turn_of, keeps_two, is_closed}
use Rattle.jffs_core.specs.declared.answer.Answer.{Answer}
use Rattle.jffs_core.proofs.answers.Lawful.{none_made}
use Rattle.jffs_core.specs.Calls.{FailsIn, ProgramsOnce}
use Rattle.jffs_core.proofs.room.Erasing.{uses_nothing, uses_along}
use Rattle.jffs_core.proofs.answers.Refusing.{failed_more, same_programs, programs_along}
use Rattle.jffs_core.proofs.answers.Stepping.{unmounts_have_room}
use Rattle.jffs_serve.specs.Replies.{Reply, AllReply, answer_in}
use Rattle.jffs_serve.specs.Chain.{KeepsHistory, IsReplied, Chain, after_reply}
use Rattle.jffs_serve.specs.ChainLaws.{EndsSo, ChainsEndSo, IsRequested, RepliesAreLawful, FailuresAreFaults, FailedAnswersFailed, NoRoomAtTheTurn, NoSpaceIsHeavyThen, UnmountsHaveSpaceThen, NoSpaceIsHeavy, UnmountsHaveSpace, HasTwo, all_keep_two, any_failure, volume_of}
use Rattle.jffs_serve.proofs.Keeping.{failed_but_capacity, keeps_worked, stays_failed}

-- the node in hand is an own copy, or that of one of these requests
abbrev InHandOf : Volume → List Reply → List Node → Node → Type 0
InHandOf volume replies after n = IsOwnCopy after n ⊎ IsRequested volume replies after n

-- it is so still after one reply more
more_replies : (volume : Volume) (replies : List Reply) (r : Reply) (after : List Node) (n : Node) → InHandOf volume replies after n → InHandOf volume (replies ++ r ∷ []) after n
more_replies volume replies r after n (inl copy) = inl copy
more_replies volume replies r after n (inr h) = inr (record {
  reply = h.reply;
  among = Contains-append_left replies (r ∷ []) h.reply h.among;
  device = h.device;
  turn = h.turn;
  same_volume = h.same_volume;
  copies = h.copies;
  node = h.node;
})

-- an answer that tells of a failure is one of two
which_failure : (o : Outcome) → is_failure o ≡ true → (o ≡ Refused causes.Device) ⊎ (o ≡ Refused causes.Failed)
which_failure (Refused causes.Device) h = inl refl
which_failure (Refused causes.Failed) h = inr refl
which_failure _ h = cc

module _ {mounted past : List Node} {was now : CoreState} {r : Reply} (replied : IsReplied mounted past was r now) where
  abbrev the_turn : Turn
  the_turn = turn_of past was now

  abbrev after : List Node
  after = after_reply replied

  pub step : IsStep the_turn r.request r.step.outcome after
  step = replied.answer.answers.step

  -- what the outcome says, where it is this one
  pub outcome_is : (o : Outcome) → r.step.outcome ≡ o → OutcomeIs o the_turn r.request step.copies step.own
  outcome_is o is = subst (λ (x : Outcome). OutcomeIs x the_turn r.request step.copies step.own) is step.outcome

  pub says_failed : was.failed ≡ true → r.step.outcome ≡ Refused causes.Failed
  says_failed = step.failed_says_so.0

  -- the core has failed exactly where the answer tells of it
  pub fails_as : now.failed ≡ is_failure r.step.outcome
  fails_as = replied.answer.answers.fails

  pub worked_before : now.failed ≡ false → was.failed ≡ false
  worked_before works = false_from_ne_true was.failed (λ f. both_ways now.failed works (fails_as ∙ ap is_failure (says_failed f)))

  -- while the core works, what is written for the nodes that the turn added
  pub programs_now : now.failed ≡ false → ProgramsOnce past after was now
  programs_now works = by_hand replied.answer.answers.programs
    where
      by_hand : ProgramsFor the_turn r.request r.step.outcome past after was now → ProgramsOnce past after was now
      by_hand (inl none) = none
      by_hand (inr hand) = absurd (both_ways now.failed works (fails_as ∙ ap is_failure hand.1.0))

  -- a core that had failed
  failed_before : (volume : Volume) (replies : List Reply) → was.failed ≡ true → HasFailed (InHandOf volume replies past) past was → HasFailed (InHandOf volume (replies ++ r ∷ []) after) after now
  failed_before volume replies had left =
      let why = outcome_is (Refused causes.Failed) (says_failed had) in
      let same : past ≡ after = sym (step.joined ∙ (ap (λ (own : List Node). own ++ step.copies ++ past) why.1 ∙ ap (λ (copies : List Node). copies ++ past) why.0.1)) in
      let h = failed_more (InHandOf volume replies past) (InHandOf volume (replies ++ r ∷ []) past) (more_replies volume replies r past) past was left in
      subst (λ (nodes : List Node). HasFailed (InHandOf volume (replies ++ r ∷ []) nodes) nodes now) same
      (subst (HasFailed (InHandOf volume (replies ++ r ∷ []) past) past) (sym (replied.kept had)) (record { clean = h.clean; tree = h.tree; left = h.left; erasing = h.erasing }))

  -- a core that fails with this answer
  fails_now : (volume : Volume) (replies : List Reply) → volume_of was ≡ volume → was.failed ≡ false → is_failure r.step.outcome ≡ true → HasFailed (InHandOf volume (replies ++ r ∷ []) after) after now
  fails_now volume replies same works fails = ⊎_elim
      (λ device.
      let why = outcome_is (Refused causes.Device) device in
      let copies : OnlyCopies past after = record {
        copies = step.copies;
        true_copies = step.copies_are_true;
        joined = step.joined ∙ ap (λ (own : List Node). own ++ step.copies ++ past) why.1;
      } in
      failed_more (IsInHand the_turn r.request after) (InHandOf volume (replies ++ r ∷ []) after)
      (λ n. ⊎_elim
      (λ copy. inl copy)
      (λ own. inr (record {
        reply = r;
        among = Contains-append_right replies (r ∷ []) r (0, omega arith, refl);
        device = device;
        turn = the_turn;
        same_volume = same;
        copies = copies;
        node = own;
      }))) after now (replied.answer.answers.in_hand device))
      (λ failed. absurd (both_ways was.failed works (step.failed_says_so.1 failed)))
      (which_failure r.step.outcome fails)

  -- where a core that worked answers so, the device failed a call
  faults_now : was.failed ≡ false → is_failure r.step.outcome ≡ true → was.faults < now.faults
  faults_now works fails = ⊎_elim
      (λ device. ltb-true was.faults now.faults (outcome_is (Refused causes.Device) device).0)
      (λ failed. absurd (both_ways was.failed works (step.failed_says_so.1 failed)))
      (which_failure r.step.outcome fails)

  -- an answer NoSpace is that of a core that worked
  no_space_works : r.step.outcome ≡ Refused causes.NoSpace → was.failed ≡ false
  no_space_works is = false_from_ne_true was.failed (λ failed. let other : Refused causes.NoSpace ≡ Refused causes.Failed = sym is ∙ says_failed failed in cc)

-- where all keep two, the last does, and those before it
all_keep_parts : (replies : List Reply) (r : Reply) → all_keep_two (replies ++ r ∷ []) ≡ true → (all_keep_two replies ≡ true) × (keeps_two r.step.outcome ≡ true)
all_keep_parts replies r keep =
    let keeps : Reply → Bool = λ (q : Reply). keeps_two q.step.outcome in
    let parts = and_parts (all_keep_two replies) (keeps_two r.step.outcome && true) (sym (list_all-append keeps replies (r ∷ [])) ∙ keep) in
    (parts.0, sym (and-true (keeps_two r.step.outcome)) ∙ parts.1)

-- of answers with one more, that one or another tells of a failure
which_fails : (replies : List Reply) (r : Reply) → any_failure (map answer_in (replies ++ r ∷ [])) ≡ true → (any_failure (map answer_in replies) ≡ true) ⊎ (is_failure r.step.outcome ≡ true)
which_fails replies r f = ⊎_elim inl (λ now. inr (sym (or-false (is_failure r.step.outcome)) ∙ now))
    (or_cases (any_failure (map answer_in replies)) (is_failure r.step.outcome || false)
    (sym (list_any-append (λ (a : Answer). is_failure a.outcome) (map answer_in replies) (answer_in r ∷ []))
    ∙ (ap any_failure (sym (map-append answer_in replies (r ∷ []))) ∙ f)))

-- two cores whose indexes have the same sizes are of one volume
pub same_volume : (a b : CoreState) → HasSizes a.index.sectors a.index.sector_size b.index → volume_of b ≡ volume_of a
same_volume a b sizes = ap (λ k. record (volume_of b) { sectors = k }) (sym sizes.0) ∙ ap (λ k. record (volume_of a) { sector_size = k }) (sym sizes.1)

-- where no turn was taken yet
ends_at_start : (mounted past : List Node) (start : CoreState) → Represents mounted past start → EndsSo mounted past start start [] past
ends_at_start mounted past start stands = record {
  sizes = (refl, refl);
  stands = stands;
  two = λ keep works two. two;
  device = uses_nothing start;
  programs = λ works. same_programs past start start refl;
  works = λ works. refl;
  faults = λ works fails. absurd (both_ways start.failed works fails);
  failed = λ f. absurd (cc);
  in_hand = λ works fails. absurd (both_ways start.failed works fails);
}

-- with what passes between two turns
ends_same : (mounted began past : List Node) (start old new : CoreState) (replies : List Reply) → KeepsHistory old new → EndsSo mounted began start old replies past → EndsSo mounted began start new replies past
ends_same mounted began past start old new replies keeps so = record {
  sizes = (so.sizes.0 ∙ keeps.sizes.0, so.sizes.1 ∙ keeps.sizes.1);
  stands = keeps.stands mounted past so.stands;
  two = λ keep works two. keeps.two works past (working (worked works)) (so.two keep (worked works) two);
  device = let erases = keeps.erases in uses_along start old new worked so.device erases.device;
  programs = λ works.
      let so_far = so.programs (worked works) in
      let none = keeps.programs mounted past so.stands in
      omega (arith, so_far, none);
  works = λ works. keeps.faults works past (working (worked works)) ∙ so.works (worked works);
  faults = λ began fails. ⊎_elim
      (λ had. subst (λ (c : CoreState). start.faults < c.faults) (sym (keeps.failed had)) (so.faults began had))
      (λ now. let f = fell now fails in subst (λ (n : ℕ). n < new.faults) (so.works now) f.faults)
      (cases_Bool old.failed);
  failed = λ f. stays_failed old new keeps (so.failed f);
  in_hand = λ works fails. ⊎_elim
      (λ had. failed_but_capacity (InHandOf (volume_of start) replies past) past old new (keeps.failed had) (so.in_hand works had))
      (λ now. let f = fell now fails in failed_more (λ n. ⊥) (InHandOf (volume_of start) replies past) (λ n none. absurd none) past new f.left)
      (cases_Bool old.failed);
}
  where
    working : old.failed ≡ false → RepresentsWorking past old
    working = let s = so.stands in s.stands.working

    worked : new.failed ≡ false → old.failed ≡ false
    worked = keeps_worked old new keeps

    fell : old.failed ≡ false → new.failed ≡ true → FailsIn (λ n. ⊥) past past old new
    fell now fails = keeps.fails now fails past (working now)

-- with one turn more
ends_more :
    (mounted began past : List Node) (start old new : CoreState) (replies : List Reply) (r : Reply)
    → EndsSo mounted began start old replies past → (replied : IsReplied mounted past old r new) → EndsSo mounted began start new (replies ++ r ∷ []) (after_reply replied)
ends_more mounted began past start old new replies r so replied = record {
  sizes = (so.sizes.0 ∙ replied.sizes.0, so.sizes.1 ∙ replied.sizes.1);
  stands = replied.answer.answers.stands;
  two = λ keep works two.
      let both = all_keep_parts replies r keep in
      replied.answer.answers.two both.1 (so.two both.0 (worked_before replied works) two);
  device = let erases = replied.erases in uses_along start old new (worked_before replied) so.device erases.device;
  programs = λ works. programs_along began past (after_reply replied) start old new (so.programs (worked_before replied works)) (programs_now replied works);
  works = λ works. replied.answer.answers.faults works ∙ so.works (worked_before replied works);
  faults = λ began fails. ⊎_elim
      (λ had. subst (λ (c : CoreState). start.faults < c.faults) (sym (replied.kept had)) (so.faults began had))
      (λ now. subst (λ (n : ℕ). n < new.faults) (so.works now) (faults_now replied now (sym (fails_as replied) ∙ fails)))
      (cases_Bool old.failed);
  failed = λ f. ⊎_elim
      (λ had. fails_as replied ∙ ap is_failure (says_failed replied (so.failed had)))
      (λ now. fails_as replied ∙ now)
      (which_fails replies r f);
  in_hand = λ works fails. ⊎_elim
      (λ had. failed_before replied (volume_of start) replies had (so.in_hand works had))
      (λ now. fails_now replied (volume_of start) replies (same_volume start old so.sizes) now (sym (fails_as replied) ∙ fails))
      (cases_Bool old.failed);
}

ends_along :
    (mounted began past after : List Node) (start middle core : CoreState) (done rest : List Reply)
    → EndsSo mounted began start middle done past → Chain mounted past middle rest core after → EndsSo mounted began start core (done ++ rest) after
ends_along mounted began past after start middle core done [] so chain =
    subst (λ (replies : List Reply). EndsSo mounted began start core replies after) (sym (append-nil done))
    (subst (EndsSo mounted began start core done) (sym chain.1) (ends_same mounted began past start middle core done chain.0 so))
ends_along mounted began past after start middle core done (r ∷ rest) so chain =
    let link = chain.0 in
    let before = ends_same mounted began past start middle link.was done link.between so in
    let now = ends_more mounted began past start link.was link.now done r before link.replied in
    subst (λ (replies : List Reply). EndsSo mounted began start core replies after) (append_assoc done (r ∷ []) rest)
    (ends_along mounted began (after_reply link.replied) after start link.now core (done ++ r ∷ []) rest now chain.1)

pub chains_end_so : ChainsEndSo
chains_end_so mounted past after start core replies stands chain =
    ends_along mounted past past after start start core [] replies (ends_at_start mounted past start stands) chain

-- the turns of a chain are answers to their requests
each_answered :
    (volume : Volume) (mounted past after : List Node) (start core : CoreState) (replies : List Reply)
    → volume_of start ≡ volume → AllReply replies → Chain mounted past start replies core after
    → AreAnswered volume past (map (λ (r : Reply). r.request) replies) (map answer_in replies) after
each_answered volume mounted past after start core [] same all chain = subst (OnlyCopies past) (sym chain.1) (none_made past)
each_answered volume mounted past after start core (r ∷ replies) same all chain =
    let link = chain.0 in
    let taken : volume_of link.was ≡ volume = same_volume start link.was (let k = link.between in k.sizes) ∙ same in
    let left : volume_of link.now ≡ volume = same_volume link.was link.now (let k = link.replied in k.sizes) ∙ taken in (
      after_reply link.replied,
      record {
        turn = turn_of past link.was link.now;
        same_volume = taken;
        between = none_made past;
        writer = all.0.0;
        seq = all.0.1;
        step = step link.replied;
      },
      each_answered volume mounted (after_reply link.replied) after link.now core replies left all.2 chain.1,
    )

pub failed_answers_failed : FailedAnswersFailed
failed_answers_failed mounted past after start core [] r had chain there = absurd (let below = there.1 in omega arith)
failed_answers_failed mounted past after start core (q ∷ replies) r had chain there =
    let link = chain.0 in
    let says = says_failed link.replied (stays_failed start link.was link.between had) in
    elim there.0 as (λ k. (k < length (q ∷ replies)) → (k ≡ there.0) → r.step.outcome ≡ Refused causes.Failed) [
      | zero ↦ λ below is. cc
      | suc k ↦ λ below is. failed_answers_failed mounted (after_reply link.replied) after link.now core replies r (fails_as link.replied ∙ ap is_failure says) chain.1 (k, omega arith, cc)
    ] there.1 refl

each_in_order :
    (mounted past after : List Node) (start core : CoreState) (replies : List Reply)
    → AllReply replies → Chain mounted past start replies core after → IsInOrder (map answer_in replies)
each_in_order mounted past after start core [] all chain = tt
each_in_order mounted past after start core (r ∷ []) all chain = tt
each_in_order mounted past after start core (r ∷ q ∷ replies) all chain =
    let link = chain.0 in
    let next = chain.1.0 in (
      record {
        not_closed = λ is. absurd (let none : q ∷ replies ≡ [] = all.1 (ap is_closed is) in cc);
        failed_stays = λ fails. says_failed next.replied (stays_failed link.now next.was next.between (fails_as link.replied ∙ fails));
      },
      each_in_order mounted (after_reply link.replied) after link.now core (q ∷ replies) all.2 chain.1,
    )

pub replies_are_lawful : RepliesAreLawful
replies_are_lawful start core mounted past replies all run = record {
  each = each_answered (volume_of start) mounted past run.after start core replies refl all run.chain;
  in_order = each_in_order mounted past run.after start core replies all run.chain;
}

pub failures_are_faults : FailuresAreFaults
failures_are_faults start core mounted past replies stands run began same =
    let so = chains_end_so mounted past run.after start core replies stands run.chain in
    false_from_ne_true (any_failure (map answer_in replies)) (λ tells. let risen = so.faults began (so.failed tells) in omega (arith, same, risen))

pub no_room_at_the_turn : NoRoomAtTheTurn
no_room_at_the_turn mounted taken was now r replied is =
    let why = outcome_is replied (Refused causes.NoSpace) is in
    (why.0.1.0, why.0.1.1)

-- two sectors are erased at a turn that is answered NoSpace, where each reply before it kept them
two_erased :
    (mounted past taken : List Node) (start was now : CoreState) (before : List Reply) (r : Reply)
    → Represents mounted past start → Chain mounted past start before was taken → HasTwo start → all_keep_two before ≡ true
    → IsReplied mounted taken was r now → r.step.outcome ≡ Refused causes.NoSpace → HasTwo was
two_erased mounted past taken start was now before r stands chain two keep replied is =
    let so = chains_end_so mounted past taken start was before stands chain in
    so.two keep (no_space_works replied is) two

pub no_space_is_heavy_then : NoSpaceIsHeavyThen
no_space_is_heavy_then mounted taken was now r n replied two is decided fresh =
    let why = outcome_is replied (Refused causes.NoSpace) is in
    let m = why.0.1.0 in
    let none = why.0.1.1 in
    let same : m ≡ n = let both = sym none.decided ∙ decided in cc in
    why.0.1.2 (subst (λ k. is_fresh (with k 0 0 0) ≡ true) (sym same) fresh) two

pub unmounts_have_space_then : UnmountsHaveSpaceThen
unmounts_have_space_then mounted taken was now r replied two wish is =
    let t = turn_of taken was now in
    let taken_so : IsStep t r.request (Refused causes.NoSpace) (after_reply replied) = subst (λ (o : Outcome). IsStep t r.request o (after_reply replied)) is (step replied) in
    unmounts_have_room t r.request (after_reply replied) (ap is_unmount_wish wish) two taken_so

pub no_space_is_heavy : NoSpaceIsHeavy
no_space_is_heavy mounted past taken start was now before r n stands chain two keep replied is decided fresh =
    let so = chains_end_so mounted past taken start was before stands chain in
    let found = no_space_is_heavy_then mounted taken was now r n replied (two_erased mounted past taken start was now before r stands chain two keep replied is) is decided fresh in
    subst (λ (v : Volume). heavy v.sectors v.sector_size ≤ weight taken) (same_volume start was so.sizes) found

pub unmounts_have_space : UnmountsHaveSpace
unmounts_have_space mounted past taken start was now before r stands chain two keep replied wish is =
    unmounts_have_space_then mounted taken was now r replied (two_erased mounted past taken start was now before r stands chain two keep replied is) wish is
