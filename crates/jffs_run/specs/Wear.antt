-- The sectors of a device wear evenly over a run, and over runs that follow one another.
use Rattle.std.specs.Prelude.{◌≡◌, ℕ, ◌+◌, ◌<◌, ◌≤◌, false, List, [], ◌∷◌, ◌++◌}
use Rattle.jffs_log.specs.Image.{past_of}
use Rattle.jffs_log.specs.Wear.{erases_of, erases_over, sector_after_each}
use Rattle.jffs_core.specs.CoreState.{CoreState}
use Rattle.jffs_core.specs.Past.{IsFresh}
use Rattle.jffs_core.specs.Erases.{ErasesInTurn}
use Rattle.jffs_flash.specs.Device.{Device}
use Rattle.jffs_serve.specs.Replies.{Reply}
use Rattle.jffs_run.specs.Account.{Account}
use Rattle.jffs_run.specs.Headline.{IsRun}
use Rattle.jffs_run.specs.Turns.{InRun}
use Rattle.jffs_run.specs.Sessions.{HadSession, Stretch, Sessions}

-- Since the start the sectors were erased around the ring, from the one on that the log began with,
-- by the device's own count none more often: so of any two the one was erased at most once more
-- often than the other.
pub record IsWornEvenly (start now : CoreState) : Type 0 where
  pub erases : ErasesInTurn start now
  pub even : (j k : ℕ) → j < start.index.sectors → k < start.index.sectors
      → erases_of start.index.sectors start.index.first erases.turned.many j
      ≤ erases_of start.index.sectors start.index.first erases.turned.many k + 1

-- So it is at the end of a run, and with each of its answers, while the device works.
abbrev pub EachRunWearsEvenly : Type 0
EachRunWearsEvenly =
    (before : Device) (start : CoreState) (account : Account) (fresh : IsFresh before start)
    (run : IsRun start account)
    → (run.core.failed ≡ false → IsWornEvenly start run.core)
    × ((first later : List Reply) (r : Reply) → run.replies ≡ first ++ r ∷ later
    → (turn : InRun run (past_of fresh.scanned.log) first r later)
    × (turn.within.now.failed ≡ false → IsWornEvenly start turn.within.now))

-- In a session so many sectors were erased in turn, of `count` and from `first` on.
pub record ErasedInSession (count first many : ℕ) {given left : Device}
    (session : HadSession given left) : Type 0 where
  pub erases : ErasesInTurn session.start session.turns.core
  pub many_are : erases.turned.many ≡ many
  pub sectors : session.start.index.sectors ≡ count
  pub begins : session.start.index.first ≡ first

-- so it was in each session, from the sector on that the one before it came to
abbrev pub ErasedInSessions : (count first : ℕ) (device : Device) (stretches : List Stretch)
    → Sessions device stretches → List ℕ → Type 0
ErasedInSessions count first device [] sessions [] = Unit {0}
ErasedInSessions count first device (stretch ∷ later) sessions (many ∷ more) =
    ErasedInSession count first many sessions.1.session
    × ErasedInSessions count (sector_after_each count first many) stretch.opened later sessions.2
    more
ErasedInSessions count first device _ sessions _ = ⊥

-- In none of these sessions the device failed, and each left a sector that holds the log.
abbrev pub EndWorking : (device : Device) (stretches : List Stretch) → Sessions device stretches
    → Type 0
EndWorking device [] sessions = Unit {0}
EndWorking device (stretch ∷ later) sessions = (sessions.1.session.turns.core.failed ≡ false)
    × (1 ≤ sessions.1.session.turns.core.index.held)
    × EndWorking stretch.opened later sessions.2

-- Over sessions that follow one another the ring goes on where it was: of any two sectors the one
-- was erased at most once more often than the other, in all of them together.
abbrev pub SessionsWearEvenly : Type 0
SessionsWearEvenly =
    (device : Device) (stretch : Stretch) (later : List Stretch)
    (sessions : Sessions device (stretch ∷ later)) → EndWorking device (stretch ∷ later) sessions
    → let start = sessions.1.session.start.index in
    (erases : List ℕ)
    × ErasedInSessions start.sectors start.first device (stretch ∷ later) sessions erases
    × ((j k : ℕ) → j < start.sectors → k < start.sectors
    → erases_over start.sectors start.first erases j
    ≤ erases_over start.sectors start.first erases k + 1)

pub record RunsWearEvenly : Type 0 where
  pub each : EachRunWearsEvenly
  pub all : SessionsWearEvenly
