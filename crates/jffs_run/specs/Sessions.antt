-- Sessions that follow one another on one device.
use Rattle.std.specs.Prelude.{◌≡◌, ◌⊎◌, ℕ, true, List, [], ◌∷◌, map, Ok, Option}
use Rattle.jffs_tree.specs.State.{State}
use Rattle.jffs_tree.specs.Origin.{state_in}
use Rattle.jffs_flash.specs.Device.{Device}
use Rattle.jffs_flash.specs.Wear.{Wear}
use Rattle.jffs_log.specs.Scan.{Scanned}
use Rattle.jffs_log.specs.ScanFound.{scan_of}
use Rattle.jffs_core.specs.CoreState.{CoreState}
use Rattle.jffs_core.specs.declared.answer.Answer.{Answer}
use Rattle.jffs_core.specs.Past.{IsFresh}
use Rattle.jffs_core.specs.Done.{ScanFinds}
use Rattle.jffs_serve.specs.Replies.{Reply, answer_in}
use Rattle.jffs_text.specs.declared.script.Writer.{Writer}
use Rattle.jffs_run.specs.Account.{Account}
use Rattle.jffs_run.specs.Headline.{IsRun}
use Rattle.jffs_run.specs.declared.fault.RunWhy.{RunWhy}
use Rattle.jffs_run.specs.Faults.{AskedBy, IsGivenUp, LeftByTurns, Rest}
use Rattle.jffs_run.specs.Done.{done_by_all, IsDoneToo}
use Rattle.jffs_run.specs.Opened.{IsOpenedAs}

-- The device was mounted, and is left as a core left it after some turns.
pub record HadSession (given left : Device) : Type 0 where
  pub start : CoreState
  pub fresh : IsFresh given start
  pub turns : LeftByTurns start left

-- What a session makes of a state: the granted requests are done, in the order of their answers;
-- and where the device failed, perhaps the one that was answered Device.
abbrev pub Makes : {given left : Device} → HadSession given left → State → State → Type 0
Makes session s t = (t ≡ done_by_all s session.turns.replies)
    ⊎ (session.turns.core.failed ≡ true
    × IsDoneToo session.turns.replies (done_by_all s session.turns.replies) t)

-- the devices have the same sizes and the same bytes
pub record HoldSame (a b : Device) : Type 0 where
  pub sectors_are : b.sectors ≡ a.sectors
  pub sizes_are : b.sector_size ≡ a.sector_size
  pub images_are : b.image ≡ a.image

-- a device as a session was given it, as it left it, and as it was opened then
pub record Stretch : Type 0 where
  pub given : Device
  pub left : Device
  pub opened : Device

-- a session, and how its device was opened after it
pub record HadStretch (s : Stretch) : Type 0 where
  pub session : HadSession s.given s.left
  pub opens : IsOpenedAs s.given s.left session.turns.core s.opened

-- One session after another, each on the device as it was opened after the one before it.
abbrev pub Sessions : Device → List Stretch → Type 0
Sessions device [] = Unit {0}
Sessions device (s ∷ later) = HoldSame device s.given × HadStretch s × Sessions s.opened later

-- the device as it was opened after the last of them
abbrev pub left_last : Device → List Stretch → Device
left_last device [] = device
left_last device (s ∷ later) = left_last s.opened later

-- what all of them make of a state, one after another
abbrev pub MakeAll : (device : Device) (stretches : List Stretch) → Sessions device stretches
    → State → State → Type 0
MakeAll device [] sessions s t = t ≡ s
MakeAll device (stretch ∷ later) sessions s t = (between : State)
    × Makes sessions.1.session s between × MakeAll stretch.opened later sessions.2 between t

-- After any number of sessions a scan finds what they made of the state that a scan found at first.
abbrev pub SessionsAreDone : Type 0
SessionsAreDone =
    (device : Device) (stretches : List Stretch) (sessions : Sessions device stretches)
    (first : Scanned) → scan_of device ≡ Ok first
    → ScanFinds (MakeAll device stretches sessions (state_in first.tree))
    (left_last device stretches).sectors (left_last device stretches).sector_size
    (left_last device stretches).image

-- the session is that of these replies, from one core to the other
pub record IsThatOf (start : CoreState) (replies : List Reply) (core : CoreState)
    {given left : Device} (session : HadSession given left) : Type 0 where
  pub starts : session.start ≡ start
  pub replies_are : session.turns.replies ≡ replies
  pub core_is : session.turns.core ≡ core

-- A run over a device that was mounted is a session, that of its own replies and its own core.
abbrev pub RunsAreSessions : Type 0
RunsAreSessions = (before : Device) (start : CoreState) (account : Account) → IsFresh before start
    → (run : IsRun start account)
    → (session : HadSession before account.device)
    × IsThatOf start run.replies run.core session

-- the session is that of these answers, which this script asks for
pub record IsOfAnswers (script : List Writer) (rounds : Option ℕ) (answers : List Answer)
    {given left : Device} (session : HadSession given left) : Type 0 where
  pub asked : AskedBy script rounds session.turns.replies
  pub answers_are : answers ≡ map answer_in session.turns.replies

-- So is a run that was given up, that of its answers, unless the device didn't mount: then it holds
-- what it held, and nothing was answered.
abbrev pub FaultsEndSessions : Type 0
FaultsEndSessions = (script : List Writer) (rounds : Option ℕ) (before : Device) (wear : Wear)
    (why : RunWhy) (rest : Rest) → IsGivenUp script rounds before wear why rest
    → (HoldSame before rest.device × (rest.answers ≡ []))
    ⊎ ((session : HadSession before rest.device) × IsOfAnswers script rounds rest.answers session)
