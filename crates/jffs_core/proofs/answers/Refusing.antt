-- What stands where a call was refused.
use Rattle.std.proofs.Common.{◌≡◌, inl, inr, ◌+◌, ◌<◌, ◌≤◌, true, false, List, ◌∷◌, None, refl, ap, subst, ◌∙◌, arith}
use Rattle.std.proofs.lemmas.Bool.{both_ways}
use Rattle.jffs_node.specs.declared.node.Node.{Node}
use Rattle.jffs_node.specs.Record.{record_len}
use Rattle.jffs_flash.specs.Wear.{Wear}
use Rattle.jffs_tree.specs.declared.wish.Cause.{Cause}
use Rattle.jffs_tree.specs.declared.wish.Cause.TheVariants as causes
use Rattle.jffs_tree.specs.declared.wish.Outcome.{Outcome}
use Rattle.jffs_tree.specs.declared.wish.Outcome.TheVariants.{Refused}
use Rattle.jffs_tree.specs.Origin.{tree_of}
use Rattle.jffs_log.specs.Room.{next_version}
use Rattle.jffs_core.specs.CoreState.{CoreState}
use Rattle.jffs_core.specs.History.{IsOwnCopy, MayFollow}
use Rattle.jffs_core.specs.Run.{is_failure}
use Rattle.jffs_core.specs.Past.{RepresentsWorking, RepresentsPast, HasFailed, OrOneMore}
use Rattle.jffs_core.specs.Calls.{WorksOn, FailsIn, RefusedWith, KeepsTwo, ProgramsOnce, written}
use Rattle.jffs_core.specs.Answering.{keeps_two}
use Rattle.jffs_log.specs.History.{IsHistory}

-- what stands after a call
pub works_past : (after : List Node) (new : CoreState) → new.failed ≡ false → RepresentsWorking after new → RepresentsPast after new
works_past after new works known = record { working = λ w. known; broken = λ f. absurd (both_ways new.failed works f) }

-- Nothing was changed.
pub works_still : (past : List Node) (c : CoreState) → c.failed ≡ false → RepresentsWorking past c → WorksOn past past c c
works_still past c works known = record { works = works; faults = refl; programs = omega arith; represents = known }

pub fails_past : (after : List Node) (new : CoreState) → new.failed ≡ true → HasFailed (MayFollow after) after new → RepresentsPast after new
fails_past after new fails left = record { working = λ w. absurd (both_ways new.failed w fails); broken = λ f. left }

-- One kind of node in hand is also of another.
pub more_kinds : (P Q : Node → Type 0) → ((n : Node) → P n → Q n) → (past : List Node) (R : List Node → Type 0) → OrOneMore P past R → OrOneMore Q past R
more_kinds P Q f past R (inl h) = inl h
more_kinds P Q f past R (inr h) = inr (h.0, f h.0 h.1, h.2)

pub failed_more : (P Q : Node → Type 0) → ((n : Node) → P n → Q n) → (after : List Node) (c : CoreState) → HasFailed P after c → HasFailed Q after c
failed_more P Q f after c h = record {
  clean = h.clean;
  tree = more_kinds P Q f after (λ found. c.tree ≡ tree_of found) h.tree;
  left = λ intact. more_kinds P Q f after (λ found. IsHistory c.image c.index found) (h.left intact);
  erasing = h.erasing;
}

-- What follows in each of the four cases follows for every cause.
pub by_refusal : (P : Node → Type 0) (past after : List Node) (old new : CoreState) (F : Cause → Type 0)
    → (WorksOn past after old new → next_version after ≡ None → F causes.VersionsSpent) → (WorksOn past after old new → F causes.Memory) → (WorksOn past after old new → F causes.NoSpace) → (FailsIn P past after old new → F causes.Device)
    → (cause : Cause) → RefusedWith P cause past after old new → F cause
by_refusal P past after old new F spent memory full device causes.VersionsSpent h = spent h.0 h.1
by_refusal P past after old new F spent memory full device causes.Memory h = memory h
by_refusal P past after old new F spent memory full device causes.NoSpace h = full h
by_refusal P past after old new F spent memory full device causes.Device h = device h
by_refusal P past after old new F spent memory full device _ h = absurd h

pub refused_more : (P Q : Node → Type 0) → ((n : Node) → P n → Q n) → (cause : Cause) (past after : List Node) (old new : CoreState) → RefusedWith P cause past after old new → RefusedWith Q cause past after old new
refused_more P Q f cause past after old new h =
    by_refusal P past after old new (λ c. RefusedWith Q c past after old new) (λ w none. (w, none)) (λ w. w) (λ w. w)
    (λ d. record { fails = d.fails; faults = d.faults; programs = more_kinds P Q f after (λ found. ProgramsOnce past found old new) d.programs; left = failed_more P Q f after new d.left }) cause h

-- own copies may follow, and so may the node of a request
pub copies_follow : (after : List Node) (n : Node) → IsOwnCopy after n → MayFollow after n
copies_follow after n h = inr (inr h.3)

pub refused_past : (P : Node → Type 0) (past after : List Node) → ((n : Node) → P n → MayFollow after n) → (cause : Cause) (old new : CoreState) → RefusedWith P cause past after old new → RepresentsPast after new
refused_past P past after f cause old new h =
    let works : WorksOn past after old new → RepresentsPast after new = λ w. works_past after new w.works w.represents in
    by_refusal P past after old new (λ c. RepresentsPast after new) (λ w none. works w) works works
    (λ d. fails_past after new d.fails (failed_more P (MayFollow after) f after new d.left)) cause h

-- A core has failed exactly where the answer says so.
pub fails_as : (P : Node → Type 0) (cause : Cause) (past after : List Node) (old new : CoreState) → RefusedWith P cause past after old new → new.failed ≡ is_failure (Refused cause)
fails_as P cause past after old new h =
    by_refusal P past after old new (λ c. new.failed ≡ is_failure (Refused c)) (λ w none. w.works) (λ w. w.works) (λ w. w.works) (λ d. d.fails) cause h

-- While a core works no call of the device failed.
pub works_on_faults : (P : Node → Type 0) (cause : Cause) (past after : List Node) (old new : CoreState) → RefusedWith P cause past after old new → new.failed ≡ false → new.faults ≡ old.faults
works_on_faults P cause past after old new h works =
    by_refusal P past after old new (λ c. new.faults ≡ old.faults) (λ w none. w.faults) (λ w. w.faults) (λ w. w.faults) (λ d. absurd (both_ways new.failed works d.fails)) cause h

pub same_cause : {a b : Cause} → ◌≡◌ {A = Outcome} (Refused a) (Refused b) → a ≡ b
same_cause e = cc

-- after the answer Device
pub device_left : (P Q : Node → Type 0) → ((n : Node) → P n → Q n) → (cause : Cause) (past after : List Node) (old new : CoreState) → RefusedWith P cause past after old new → ◌≡◌ {A = Outcome} (Refused cause) (Refused causes.Device) → HasFailed Q after new
device_left P Q f cause past after old new h is =
    let d : FailsIn P past after old new = subst (λ c. RefusedWith P c past after old new) (same_cause is) h in
    failed_more P Q f after new d.left

pub refused_keeps : (P : Node → Type 0) (cause : Cause) (past after : List Node) (old new : CoreState) → RefusedWith P cause past after old new → (cause ≡ causes.NoSpace → KeepsTwo old new) → keeps_two (Refused cause) ≡ true → KeepsTwo old new
refused_keeps P cause past after old new h none k =
    by_refusal P past after old new (λ c. (c ≡ causes.NoSpace → KeepsTwo old new) → keeps_two (Refused c) ≡ true → KeepsTwo old new)
    (λ w spent none k. absurd (both_ways (keeps_two (Refused causes.VersionsSpent)) refl k))
    (λ w none k. absurd (both_ways (keeps_two (Refused causes.Memory)) refl k))
    (λ w none k. none refl)
    (λ d none k. absurd (both_ways (keeps_two (Refused causes.Device)) refl k))
    cause h none k

-- What was programmed from one history to a second, and from that to a third.
pub programs_along : (past middle after : List Node) (old between new : CoreState) → ProgramsOnce past middle old between → ProgramsOnce middle after between new → ProgramsOnce past after old new
programs_along past middle after old between new one two = omega (arith, one, two)

-- A record was put.
pub put_programs : (n : Node) (past : List Node) (old new : CoreState) → new.wear.bytes ≤ old.wear.bytes + (record_len n + 1) → ProgramsOnce past (n ∷ past) old new
put_programs n past old new more = let both : written (n ∷ past) ≡ record_len n + 1 + written past = refl in omega (arith, more, both)

-- Nothing was programmed.
pub same_programs : (past : List Node) (old new : CoreState) → new.wear ≡ old.wear → ProgramsOnce past past old new
same_programs past old new same = let bytes = ap (λ (w : Wear). w.bytes) same in omega (arith, bytes)

-- What was programmed for a request that was refused.
pub refused_programs : (P Q : Node → Type 0) (cause : Cause) (past after : List Node) (old new : CoreState) → ((n : Node) → cause ≡ causes.Device → P n → Q n) → RefusedWith P cause past after old new → OrOneMore Q after (λ found. ProgramsOnce past found old new)
refused_programs P Q cause past after old new kind h =
    by_refusal P past after old new (λ c. ((n : Node) → c ≡ causes.Device → P n → Q n) → OrOneMore Q after (λ found. ProgramsOnce past found old new))
    (λ w none kind. inl w.programs) (λ w kind. inl w.programs) (λ w kind. inl w.programs)
    (λ d kind. more_kinds P Q (λ n. kind n refl) after (λ found. ProgramsOnce past found old new) d.programs) cause h kind

-- Seen from before the cleaning.
pub works_along : (past middle after : List Node) (old between new : CoreState) → WorksOn past middle old between → WorksOn middle after between new → WorksOn past after old new
works_along past middle after old between new one two = record {
  works = two.works;
  faults = two.faults ∙ one.faults;
  programs = programs_along past middle after old between new one.programs two.programs;
  represents = two.represents;
}

pub fails_along : (P : Node → Type 0) (past middle after : List Node) (old between new : CoreState) → WorksOn past middle old between → FailsIn P middle after between new → FailsIn P past after old new
fails_along P past middle after old between new one d = record {
  fails = d.fails;
  faults = subst (λ k. k < new.faults) one.faults d.faults;
  programs = elim d.programs [
    | inl none ↦ inl (programs_along past middle after old between new one.programs none)
    | inr hand ↦ inr (hand.0, hand.1, programs_along past middle (hand.0 ∷ after) old between new one.programs hand.2)
  ];
  left = d.left;
}

pub refused_along : (P : Node → Type 0) (cause : Cause) (past middle after : List Node) (old between new : CoreState) → WorksOn past middle old between → RefusedWith P cause middle after between new → RefusedWith P cause past after old new
refused_along P cause past middle after old between new one h =
    let works = works_along past middle after old between new one in
    by_refusal P middle after between new (λ c. RefusedWith P c past after old new) (λ w none. (works w, none)) works works
    (fails_along P past middle after old between new one) cause h
