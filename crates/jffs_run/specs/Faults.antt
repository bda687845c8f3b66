-- What a run that was given up did, and what it leaves of the device that it was given.
use Rattle.std.specs.Prelude.{◌≡◌, ◌≢◌, ◌⊎◌, ℕ, ◌+◌, ◌<◌, List, [], ◌∷◌, length, map, take}
use Rattle.std.specs.Prelude.{Option, Some}
use Rattle.jffs_flash.specs.Device.{Device}
use Rattle.jffs_flash.specs.Wear.{Wear}
use Rattle.jffs_flash.specs.declared.flash.Flash as Flash
use Rattle.jffs_tree.specs.declared.wish.Wish.TheVariants.{Unmount}
use Rattle.jffs_line.specs.Requests.{of, request, IsNumbered}
use Rattle.jffs_line.specs.declared.hand.TheConstants.{CLEANER, CONTROL}
use Rattle.jffs_node.specs.declared.node.Node.{Node}
use Rattle.jffs_log.specs.LogIndex.{HasSizes}
use Rattle.jffs_log.specs.ScanFound.{IsRefused}
use Rattle.jffs_log.specs.declared.scanning.ScanWhy.{ScanWhy}
use Rattle.jffs_core.specs.CoreState.{CoreState}
use Rattle.jffs_core.specs.declared.answer.Answer.{Answer}
use Rattle.jffs_core.specs.Past.{Represents, IsFresh, IsLeftBy}
use Rattle.jffs_serve.specs.Replies.{Reply, answer_in}
use Rattle.jffs_serve.specs.Chain.{RunsTo}
use Rattle.jffs_serve.specs.Answered.{ErasesSince}
use Rattle.jffs_serve.specs.Stopping.{StopsAtFirst}
use Rattle.jffs_text.specs.declared.script.Writer.{Writer}
use Rattle.jffs_text.specs.Wishes.{wishes_of}
use Rattle.jffs_run.specs.Numbered.{numbered}
use Rattle.jffs_run.specs.Ends.{commands_at, AskForCopies}
use Rattle.jffs_run.specs.Headline.{requests_in}
use Rattle.jffs_run.specs.declared.fault.RunFault.{RunFault}
use Rattle.jffs_run.specs.declared.fault.RunWhy.{RunWhy}
use Rattle.jffs_run.specs.declared.fault.RunWhy.TheVariants.{Mount, Index, Line}

-- What a run that was given up hands back: the device, what that counts of its wear, and the
-- answers that were given.
pub record Rest : Type 0 where
  pub device : Device
  pub wear : Wear
  pub answers : List Answer

-- what a core hands back
pub record IsLeftWith (core : CoreState) (rest : Rest) : Type 0 where
  pub left : IsLeftBy core rest.device
  pub worn : rest.wear ≡ core.wear
  pub given : rest.answers ≡ core.answers

-- The device is as a core left it that was in this state at first: it answered these requests in a
-- chain of turns, on a device of the same sizes, with so many erases at most.
pub record LeftByTurns (start : CoreState) (device : Device) : Type 0 where
  pub replies : List Reply
  pub core : CoreState
  pub left : IsLeftBy core device
  pub sizes : HasSizes start.index.sectors start.index.sector_size core.index
  pub erases : ErasesSince start (length replies) core
  pub lawful : (mounted past : List Node) → Represents mounted past start
      → RunsTo start core mounted past replies

-- Only what this script asks for was answered: of each writer the first of its commands, numbered
-- 1, 2, 3, ..; of the cleaner copies alone, numbered so, and nothing where it is given no rounds;
-- of the control one Unmount at most, and of nobody else anything. The first answer to an Unmount
-- is the last.
pub record AskedBy (script : List Writer) (rounds : Option ℕ) (replies : List Reply) : Type 0 where
  pub writers : (slot : ℕ) → slot < length script
      → of (slot + 1) (requests_in replies)
      ≡ numbered (slot + 1) 1
      (take (length (of (slot + 1) (requests_in replies))) (wishes_of (commands_at script slot)))
  pub cleaner : AskForCopies rounds (of CLEANER (requests_in replies))
  pub counted : IsNumbered (of CLEANER (requests_in replies))
  pub control : (of CONTROL (requests_in replies) ≡ [])
      ⊎ (of CONTROL (requests_in replies) ≡ request CONTROL 1 Unmount ∷ [])
  pub others : (sender : ℕ) → ((slot : ℕ) → slot < length script → sender ≢ slot + 1)
      → sender ≢ CLEANER → sender ≢ CONTROL → of sender (requests_in replies) ≡ []
  pub stops : StopsAtFirst replies

-- A run of this script, of a core that was in this state at first, was given up, not for Mount: it
-- answered only what the script asks for, and nothing where there was no line or no index. Its
-- answers are those, and the device is worn as that core counts.
pub record LeftByRun (script : List Writer) (rounds : Option ℕ) (start : CoreState) (why : RunWhy)
    (rest : Rest) : Type 0 where
  pub named : why ≢ Mount
  pub turns : LeftByTurns start rest.device
  pub worn : rest.wear ≡ turns.core.wear
  pub answers_are : rest.answers ≡ map answer_in turns.replies
  pub asked : AskedBy script rounds turns.replies
  pub unserved : (why ≡ Index) ⊎ (why ≡ Line) → turns.replies ≡ []

-- The device doesn't mount, and is as scanning left it; nothing was answered.
pub record DoesNotMount (before : Device) (wear : Wear) (rest : Rest) : Type 0 where
  pub reason : ScanWhy
  pub refused : IsRefused before reason rest.device
  pub worn : rest.wear ≡ wear
  pub none : rest.answers ≡ []

-- A device of this wear was mounted, and is as the core that mounted it left it.
pub record WasMounted (script : List Writer) (rounds : Option ℕ) (before : Device) (wear : Wear)
    (why : RunWhy) (rest : Rest) : Type 0 where
  pub start : CoreState
  pub fresh : IsFresh before start
  pub worn : start.wear ≡ wear
  pub left : LeftByRun script rounds start why rest

-- A fault is named Mount where the device doesn't mount, and has another name where it was mounted.
abbrev pub IsGivenUp : List Writer → Option ℕ → Device → Wear → RunWhy → Rest → Type 0
IsGivenUp script rounds before wear why rest =
    ((why ≡ Mount) × DoesNotMount before wear rest)
    ⊎ WasMounted script rounds before wear why rest

module _ {F : Type 0} (g : Flash.Ghosts F) where
  -- The fault hands back the device and answers, which are so for its reason.
  pub record GivesBack (IsSo : RunWhy → Rest → Type 0) (fault : RunFault F) : Type 0 where
    pub flash : F
    pub back : fault.flash ≡ Some flash
    pub so : IsSo fault.why (record {
      device = g.device flash;
      wear = g.wear flash;
      answers = fault.answers.items;
    })
