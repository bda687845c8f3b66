-- When a run answers NoSpace.
use Rattle.std.specs.Prelude.{◌≡◌, ◌≢◌, ◌<◌, ◌≤◌, true, List, ◌∷◌, ◌++◌, Ok}
use Rattle.jffs_node.specs.declared.node.Node.{Node}
use Rattle.jffs_node.specs.Record.{is_fresh}
use Rattle.jffs_tree.specs.declared.wish.Cause.{Cause}
use Rattle.jffs_tree.specs.declared.wish.Cause.TheVariants as causes
use Rattle.jffs_tree.specs.declared.wish.NewNode.{NewNode}
use Rattle.jffs_tree.specs.declared.wish.Outcome.TheVariants.{Refused}
use Rattle.jffs_tree.specs.declared.wish.Wish.TheVariants.{Unmount}
use Rattle.jffs_tree.specs.Decide.{with}
use Rattle.jffs_log.specs.Image.{past_of}
use Rattle.jffs_log.specs.Room.{weight, heavy}
use Rattle.jffs_core.specs.CoreState.{CoreState}
use Rattle.jffs_core.specs.Step.{decision}
use Rattle.jffs_core.specs.Answering.{turn_of}
use Rattle.jffs_serve.specs.Replies.{Reply}
use Rattle.jffs_serve.specs.ChainLaws.{HasTwo, all_keep_two}
use Rattle.jffs_flash.specs.Device.{Device}
use Rattle.jffs_core.specs.Past.{IsFresh}
use Rattle.jffs_run.specs.Account.{Account}
use Rattle.jffs_run.specs.Headline.{IsRun}
use Rattle.jffs_run.specs.Turns.{InRun}

-- The request asked for no Unmount, and if its node was fresh, the live records weighed the stated
-- share of the volume at this turn.
pub record WasHeavy {start : CoreState} {account : Account} {run : IsRun start account}
    {mounted : List Node} {before : List Reply} {r : Reply} {later : List Reply}
    (turn : InRun run mounted before r later) : Type 0 where
  pub share : (n : NewNode)
      → decision (turn_of turn.within.taken turn.within.was turn.within.now) r.request ≡ Ok n
      → is_fresh (with n 0 0 0) ≡ true
      → heavy start.index.sectors start.index.sector_size ≤ weight turn.within.taken
  pub no_unmount : r.request.wish ≢ Unmount

-- Where two sectors are erased when the request is taken, NoSpace is answered only so.
abbrev pub TurnsHaveRoom : Type 0
TurnsHaveRoom = (before : Device) (start : CoreState) (account : Account)
    (fresh : IsFresh before start) (run : IsRun start account)
    → (first later : List Reply) (r : Reply) → run.replies ≡ first ++ r ∷ later
    → r.step.outcome ≡ Refused causes.NoSpace
    → (turn : InRun run (past_of fresh.scanned.log) first r later)
    × (HasTwo turn.within.was → WasHeavy turn)

-- The request asked for no Unmount, and if its node was fresh, the live records weighed the stated
-- share of the volume at its turn.
pub record TakenWhenHeavy {start : CoreState} {account : Account} (run : IsRun start account)
    (mounted : List Node) (before : List Reply) (r : Reply) (later : List Reply) : Type 0 where
  pub turn : InRun run mounted before r later
  pub share : (n : NewNode)
      → decision (turn_of turn.within.taken turn.within.was turn.within.now) r.request ≡ Ok n
      → is_fresh (with n 0 0 0) ≡ true
      → heavy start.index.sectors start.index.sector_size ≤ weight turn.within.taken
  pub no_unmount : r.request.wish ≢ Unmount

-- From a mount on that found two sectors erased, and while each answer keeps two, NoSpace is
-- answered only so.
abbrev pub RunsHaveRoom : Type 0
RunsHaveRoom = (before : Device) (start : CoreState) (account : Account)
    (fresh : IsFresh before start) (run : IsRun start account)
    → (first later : List Reply) (r : Reply) → HasTwo start → run.replies ≡ first ++ r ∷ later
    → all_keep_two first ≡ true → r.step.outcome ≡ Refused causes.NoSpace
    → TakenWhenHeavy run (past_of fresh.scanned.log) first r later

-- memory was wanting, or versions, or a device that works
abbrev pub IsWant : Cause → Type 0
IsWant causes.VersionsSpent = Unit {0}
IsWant causes.Memory = Unit {0}
IsWant causes.Device = Unit {0}
IsWant causes.Failed = Unit {0}
IsWant _ = ⊥

-- The live records weighed less than that share when the request was taken: a fresh node that was
-- decided on is refused for nothing else.
pub record IsSureOfSpace {start : CoreState} {account : Account} (run : IsRun start account)
    (mounted : List Node) (before : List Reply) (r : Reply) (later : List Reply) : Type 0 where
  pub turn : InRun run mounted before r later
  pub sure : (n : NewNode) (cause : Cause)
      → weight turn.within.taken < heavy start.index.sectors start.index.sector_size
      → decision (turn_of turn.within.taken turn.within.was turn.within.now) r.request ≡ Ok n
      → is_fresh (with n 0 0 0) ≡ true → r.step.outcome ≡ Refused cause → IsWant cause

-- Such is each turn from a mount on that found two sectors erased, while each answer keeps two.
abbrev pub SpaceIsSure : Type 0
SpaceIsSure = (before : Device) (start : CoreState) (account : Account)
    (fresh : IsFresh before start) (run : IsRun start account)
    → (first later : List Reply) (r : Reply) → HasTwo start → run.replies ≡ first ++ r ∷ later
    → all_keep_two first ≡ true
    → IsSureOfSpace run (past_of fresh.scanned.log) first r later

-- Such is also each turn that finds two sectors erased.
abbrev pub SpaceIsSureThen : Type 0
SpaceIsSureThen = (before : Device) (start : CoreState) (account : Account)
    (fresh : IsFresh before start) (run : IsRun start account)
    → (first later : List Reply) (r : Reply) → run.replies ≡ first ++ r ∷ later
    → (turn : InRun run (past_of fresh.scanned.log) first r later)
    × (HasTwo turn.within.was → (n : NewNode) (cause : Cause)
    → weight turn.within.taken < heavy start.index.sectors start.index.sector_size
    → decision (turn_of turn.within.taken turn.within.was turn.within.now) r.request ≡ Ok n
    → is_fresh (with n 0 0 0) ≡ true → r.step.outcome ≡ Refused cause → IsWant cause)
