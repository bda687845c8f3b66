-- What a run leaves on its device.
use Rattle.std.specs.Prelude.{◌≡◌, true, false, List, ◌++◌, Ok}
use Rattle.jffs_node.specs.declared.node.Node.{Node}
use Rattle.jffs_tree.specs.Origin.{state_in}
use Rattle.jffs_log.specs.Image.{past_of}
use Rattle.jffs_log.specs.Scan.{Scanned}
use Rattle.jffs_line.specs.declared.request.Request.{Request}
use Rattle.jffs_core.specs.CoreState.{CoreState}
use Rattle.jffs_core.specs.History.{contents}
use Rattle.jffs_core.specs.Finding.{FindsWith}
use Rattle.jffs_core.specs.Run.{IsLawful}
use Rattle.jffs_serve.specs.ChainLaws.{volume_of, any_failure, IsRequested}
use Rattle.jffs_serve.specs.Replies.{Reply}
use Rattle.jffs_flash.specs.Device.{Device}
use Rattle.jffs_log.specs.ScanFound.{scan_of}
use Rattle.jffs_core.specs.Past.{IsFresh}
use Rattle.jffs_run.specs.Account.{Account}
use Rattle.jffs_run.specs.Headline.{IsRun, requests_in}
use Rattle.jffs_run.specs.Opened.{IsOpenedAs}

-- From the log that was mounted, the answers are lawful for the requests; and a scan of the image
-- finds what the fresh nodes appended since made of it.
pub record LeavesContents (start : CoreState) (mounted : List Node) (requests : List Request)
    (account : Account) : Type 0 where
  pub after : List Node
  pub lawful : IsLawful (volume_of start) mounted requests account.answers after
  pub added : List Node
  pub since : after ≡ added ++ mounted
  pub scanned : Scanned
  pub found : scan_of account.device ≡ Ok scanned
  pub state_is : state_in scanned.tree ≡ contents mounted added

-- The same where the device failed: once it is opened the scan finds that, or what the node of the
-- request that was answered Device makes of it.
pub record LeavesHistory (start : CoreState) (mounted : List Node) (replies : List Reply)
    (account : Account) (opened : Device) : Type 0 where
  pub after : List Node
  pub lawful : IsLawful (volume_of start) mounted (requests_in replies) account.answers after
  pub finds : FindsWith (IsRequested (volume_of start) replies after) mounted after
      opened.sectors opened.sector_size opened.image

-- A run from a mount on, over a device that works, leaves the contents.
abbrev pub RunsLeaveContents : Type 0
RunsLeaveContents = (before : Device) (start : CoreState) (account : Account)
    (fresh : IsFresh before start) (run : IsRun start account)
    → run.core.failed ≡ false
    → LeavesContents start (past_of fresh.scanned.log) (requests_in run.replies) account

-- Over a device that failed it leaves the state before the request that was in hand, or that after
-- it.
abbrev pub FailedRunsLeaveHistory : Type 0
FailedRunsLeaveHistory =
    (before : Device) (start : CoreState) (account : Account) (opened : Device)
    (fresh : IsFresh before start) (run : IsRun start account)
    → run.core.failed ≡ true → IsOpenedAs before account.device run.core opened
    → LeavesHistory start (past_of fresh.scanned.log) run.replies account opened

-- Where the device's count of faults is at the end what it was at the mount, nothing was answered
-- Device or Failed, and the run leaves the contents.
abbrev pub RunsWithoutFaults : Type 0
RunsWithoutFaults = (before : Device) (start : CoreState) (account : Account)
    (fresh : IsFresh before start) (run : IsRun start account)
    → account.device.faults ≡ before.faults
    → (any_failure account.answers ≡ false)
    × LeavesContents start (past_of fresh.scanned.log) (requests_in run.replies) account
