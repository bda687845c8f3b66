-- Calls after which the core represents the history that it represented.
use Rattle.std.proofs.Common.{◌≡◌, ◌<◌, ◌≤◌, ℕ, List, inl, inr, ⊎_elim, true, false, not, refl, sym, ap, subst, ◌∙◌, arith, Result, Ok, Err, OnOk, IfOk, IfErr}
use Rattle.std.proofs.lemmas.Bool.{and_parts, both_ways, cases_Bool, false_from_ne_true, not-true}
use Rattle.jffs_node.specs.declared.node.Node.{Node}
use Rattle.jffs_tree.specs.declared.wish.Cause.{Cause}
use Rattle.jffs_tree.specs.declared.wish.Cause.TheVariants as causes
use Rattle.jffs_log.specs.LogIndex.{HasSizes}
use Rattle.jffs_core.specs.CoreState.{CoreState, IsSameButCapacity, SameButReads}
use Rattle.jffs_core.specs.History.{MayFollow}
use Rattle.jffs_core.specs.Past.{RepresentsWorking, Represents, HasFailed, OrOneMore}
use Rattle.jffs_core.specs.Calls.{FailsIn, ProgramsOnce}
use Rattle.jffs_core.specs.Cleaning.{ErasesDead, ErasingStopped, EraseStopIs}
use Rattle.jffs_core.specs.Erases.{ErasesAtMost, UsesDevice}
use Rattle.jffs_core.specs.Jobs.{wants_cleaning, ReadRefused}
use Rattle.jffs_core.proofs.answers.Contents.{no_growth}
use Rattle.jffs_core.proofs.room.Erasing.{erased_same, uses_none, uses_along}
use Rattle.jffs_core.proofs.scans.Mounting.{clean_ends}
use Rattle.jffs_core.proofs.answers.Refusing.{works_past, same_programs}
use Rattle.jffs_serve.specs.Chain.{KeepsHistory}

-- a core that had failed has failed still
pub stays_failed : (old new : CoreState) → KeepsHistory old new → old.failed ≡ true → new.failed ≡ true
stays_failed old new keeps had = ap (λ (c : CoreState). c.failed) (keeps.failed had) ∙ had

-- a core that works on had not failed
pub keeps_worked : (old new : CoreState) → KeepsHistory old new → new.failed ≡ false → old.failed ≡ false
keeps_worked old new keeps works = false_from_ne_true old.failed (λ had. both_ways new.failed works (stays_failed old new keeps had))

-- Of a core that failed, nothing that is said depends on the capacity.
pub failed_but_capacity : (More : Node → Type 0) (past : List Node) (old new : CoreState) → IsSameButCapacity old new → HasFailed More past old → HasFailed More past new
failed_but_capacity More past old new same h = subst (HasFailed More past) (sym same) (record { clean = h.clean; tree = h.tree; left = h.left; erasing = h.erasing })

-- A call that changed nothing that a history says of a core.
pub same_but_capacity : (old new : CoreState) → IsSameButCapacity old new → KeepsHistory old new
same_but_capacity old new same = subst (KeepsHistory old) (sym same) (record {
  sizes = (refl, refl);
  erases = erased_same 0 old (record old { capacity = new.capacity }) refl (uses_none old (record old { capacity = new.capacity }) refl refl refl refl refl (λ k. omega arith));
  closed = λ is. (is, refl, refl);
  failed = λ f. refl;
  faults = λ w past k. refl;
  two = λ w past k two. two;
  fails = λ works f. absurd (both_ways old.failed works f);
  programs = λ mounted past s. omega arith;
  stands = λ mounted past s. record {
    grown = s.grown;
    stands = record {
      working = λ w. s.stands.working w;
      broken = λ f. failed_but_capacity (MayFollow past) past old (record old { capacity = new.capacity }) refl (s.stands.broken f);
    };
  };
})

-- a core that works represents its history, with that as the mounted log
represents_itself : (past : List Node) (c : CoreState) → c.failed ≡ false → RepresentsWorking past c → Represents past past c
represents_itself past c works known = record { grown = no_growth past; stands = works_past past c works known }

-- a core that works on knows the same history
represents_still : (old new : CoreState) → KeepsHistory old new → new.failed ≡ false → (past : List Node) → RepresentsWorking past old → RepresentsWorking past new
represents_still old new keeps works past known = (keeps.stands past past (represents_itself past old (keeps_worked old new keeps works) known)).stands.working works

-- With no node in hand nothing was programmed.
unprogrammed : (past : List Node) (old new : CoreState) → OrOneMore (λ n. ⊥) past (λ found. ProgramsOnce past found old new) → new.wear.bytes ≤ old.wear.bytes
unprogrammed past old new (inl none) = omega (arith, none)
unprogrammed past old new (inr hand) = absurd hand.1

erased_along : (a b c : CoreState) → KeepsHistory a b → KeepsHistory b c → ErasesAtMost 0 a c
erased_along a b c h k =
    let first = h.erases in
    let second = k.erases in
    record {
      erases = elim (cases_Bool b.failed) [
        | inl had ↦ let e = first.erases in let s = ap (λ (s : CoreState). s.index.erases) (k.failed had) in omega arith
        | inr works ↦ let e = first.held works in let f = second.erases in omega arith
      ];
      held = λ works. let e = first.held (keeps_worked b c k works) in let f = second.held works in omega arith;
      device = uses_along a b c (keeps_worked b c k) first.device second.device;
    }

-- two such calls are one
pub keeps_along : (a b c : CoreState) → KeepsHistory a b → KeepsHistory b c → KeepsHistory a c
keeps_along a b c h k = record {
  sizes = (h.sizes.0 ∙ k.sizes.0, h.sizes.1 ∙ k.sizes.1);
  erases = erased_along a b c h k;
  closed = λ is. let first = h.closed is in let second = k.closed first.0 in (second.0, second.1 ∙ first.1, second.2 ∙ first.2);
  failed = λ f. k.failed (stays_failed a b h f) ∙ ap (λ (s : CoreState). record s { capacity = c.capacity }) (h.failed f);
  faults = λ works past known.
      let between = keeps_worked b c k works in
      k.faults works past (represents_still a b h between past known) ∙ h.faults between past known;
  two = λ works past known two.
      let between = keeps_worked b c k works in
      k.two works past (represents_still a b h between past known) (h.two between past known two);
  fails = λ works f past known. ⊎_elim
      (λ had.
      let g = h.fails works had past known in
      record {
        fails = f;
        faults = subst (λ (n : ℕ). a.faults < n) (sym (ap (λ (s : CoreState). s.faults) (k.failed had))) g.faults;
        programs = inl (let one = unprogrammed past a b g.programs in let same = ap (λ (s : CoreState). s.wear.bytes) (k.failed had) in omega (arith, one, same));
        left = failed_but_capacity (λ n. ⊥) past b c (k.failed had) g.left;
      })
      (λ between.
      let g = k.fails between f past (represents_still a b h between past known) in
      let one = h.programs past past (represents_itself past a works known) in
      let two = unprogrammed past b c g.programs in
      record { fails = f; faults = subst (λ (n : ℕ). n < c.faults) (h.faults between past known) g.faults; programs = inl (omega (arith, one, two)); left = g.left })
      (cases_Bool b.failed);
  programs = λ mounted past s.
      let one = h.programs mounted past s in
      let two = k.programs mounted past (h.stands mounted past s) in
      omega arith;
  stands = λ mounted past s. k.stands mounted past (h.stands mounted past s);
}

-- a cleaner is wanted only where the device works
pub wanted_works : (core : CoreState) → wants_cleaning core ≡ true → core.failed ≡ false
wanted_works core wanted = not-true core.failed (and_parts (not core.failed) _ wanted).0

-- nothing was changed
unchanged : (old new : CoreState) → new ≡ old → KeepsHistory old new
unchanged old new same = subst (KeepsHistory old) (sym same) (same_but_capacity old old refl)

-- bytes were read of a core that works
read_only : (old new : CoreState) → old.failed ≡ false → SameButReads old new → ((mounted past : List Node) → Represents mounted past old → Represents mounted past new) → KeepsHistory old new
read_only old new works same stands = subst (KeepsHistory old) (sym same) (record {
  sizes = (refl, refl);
  erases = erased_same 0 old (record old { reads_left = new.reads_left }) refl (uses_none old (record old { reads_left = new.reads_left }) refl refl refl refl refl (λ k. omega arith));
  closed = λ is. (is, refl, refl);
  failed = λ f. absurd (both_ways old.failed works f);
  faults = λ w past k. refl;
  two = λ w past k two. two;
  fails = λ w f. absurd (both_ways old.failed w f);
  programs = λ mounted past s. omega arith;
  stands = λ mounted past s. subst (Represents mounted past) same (stands mounted past s);
})

-- a read failed of a core that had worked
read_failed :
    (old new : CoreState) → old.failed ≡ false → new ≡ record old { failed = new.failed; faults = new.faults; reads_left = new.reads_left } → new.failed ≡ true → old.faults < new.faults → new.erase_failed ≡ false
    → ((mounted past : List Node) → Represents mounted past old → Represents mounted past new) → KeepsHistory old new
read_failed old new works same now risen intact stands =
    let left : (past : List Node) → RepresentsWorking past old → HasFailed (λ n. ⊥) past new = λ past k. subst (HasFailed (λ n. ⊥) past) (sym same) (record {
      clean = λ is. clean_ends past old.image old.index old.tree old.limits old.clean k is;
      tree = inl k.tree_is;
      left = λ e. inl k.history;
      erasing = λ e. absurd (both_ways old.erase_failed (ap (λ (c : CoreState). c.erase_failed) (sym same) ∙ intact) e);
    }) in
    record {
      sizes = subst (λ (c : CoreState). HasSizes old.index.sectors old.index.sector_size c.index) (sym same) (refl, refl);
      erases = erased_same 0 old new (ap (λ (c : CoreState). c.index) same) (subst (UsesDevice old) (sym same) (uses_none old (record old { failed = new.failed; faults = new.faults; reads_left = new.reads_left }) refl refl refl refl refl (λ k. omega arith)));
      closed = λ is. (ap (λ (c : CoreState). c.closed) same ∙ is, ap (λ (c : CoreState). c.index) same, ap (λ (c : CoreState). c.image) same);
      failed = λ f. absurd (both_ways old.failed works f);
      faults = λ w past k. absurd (both_ways new.failed w now);
      two = λ w past k. absurd (both_ways new.failed w now);
      fails = λ w f past k. record { fails = now; faults = risen; programs = inl (same_programs past old new (ap (λ (c : CoreState). c.wear) same)); left = left past k };
      programs = λ mounted past s. let none = ap (λ (c : CoreState). c.wear.bytes) same in omega arith;
      stands = stands;
    }

-- the oldest sector was read, or not
pub read_kept :
    {A : Type 0} (old new : CoreState) (result : Result A Cause) → old.failed ≡ false → new ≡ record old { failed = new.failed; faults = new.faults; reads_left = new.reads_left }
    → OnOk result ((new.failed ≡ false) × SameButReads old new) → IfErr result (λ cause. ReadRefused cause old new)
    → ((mounted past : List Node) → Represents mounted past old → Represents mounted past new) → KeepsHistory old new
read_kept old new (Ok bytes) works same ok refused stands = read_only old new works ok.1 stands
read_kept old new (Err cause) works same ok refused stands = by_cause cause refused
  where
    by_cause : (cause : Cause) → ReadRefused cause old new → KeepsHistory old new
    by_cause causes.Memory why = unchanged old new why.1
    by_cause causes.Device why = read_failed old new works same why.1 why.2 why.3 stands
    by_cause causes.Failed why = unchanged old new why.1
    by_cause _ why = absurd why

-- dead sectors were erased, as far as that went
pub erased_dead :
    (old new : CoreState) (result : Result ℕ Cause) → old.failed ≡ false → old.closed ≡ false → HasSizes old.index.sectors old.index.sector_size new.index
    → IfOk result (λ count. (mounted past : List Node) → Represents mounted past old → ErasesDead mounted past count old new)
    → IfErr result (λ cause. ErasingStopped cause old new)
    → ErasesAtMost 0 old new
    → KeepsHistory old new
erased_dead old new (Ok count) works opened sizes erased stopped erases =
    let did = λ (past : List Node) (known : RepresentsWorking past old). erased past past (represents_itself past old works known) in
    record {
      sizes = sizes;
      erases = erases;
      closed = λ is. absurd (both_ways old.closed opened is);
      failed = λ f. absurd (both_ways old.failed works f);
      faults = λ w past known. (did past known).faults;
      two = λ w past known. (did past known).two;
      fails = λ w f past known. absurd (both_ways new.failed (did past known).still_works f);
      programs = λ mounted past s. let none = (erased mounted past s).programs in omega (arith, none);
      stands = λ mounted past s. (erased mounted past s).stands;
    }
erased_dead old new (Err cause) works opened sizes erased stopped erases =
    record {
      sizes = sizes;
      erases = erases;
      closed = λ is. absurd (both_ways old.closed opened is);
      failed = λ f. absurd (both_ways old.failed works f);
      faults = λ w past known. absurd (both_ways new.failed w (let h = fell past known in h.fails));
      two = λ w past known. absurd (both_ways new.failed w (let h = fell past known in h.fails));
      fails = λ w f past known. fell past known;
      programs = λ mounted past s. let d = fell past (s.stands.working works) in unprogrammed past old new d.programs;
      stands = λ mounted past s. (stopped.history mounted past s).0;
    }
  where
    by_cause : (past : List Node) → EraseStopIs cause past old new → FailsIn (λ n. ⊥) past past old new
    by_cause past why = elim stopped.either [
      | inl device ↦ (subst (λ (c : Cause). EraseStopIs c past old new) device why).1
      | inr failed ↦ absurd (both_ways old.failed works (subst (λ (c : Cause). EraseStopIs c past old new) failed why).0)
    ]

    fell : (past : List Node) → RepresentsWorking past old → FailsIn (λ n. ⊥) past past old new
    fell past known = by_cause past (stopped.history past past (represents_itself past old works known)).1
