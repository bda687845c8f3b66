-- What a scan finds after the answer Device, of a request and of a cleaning.
use Rattle.std.specs.Prelude.{◌≡◌, ◌⊎◌, ℕ, List, ◌++◌, Ok}
use Rattle.jffs_node.specs.declared.node.Node.{Node}
use Rattle.jffs_tree.specs.State.{apply}
use Rattle.jffs_tree.specs.Origin.{state_in}
use Rattle.jffs_tree.specs.declared.wish.Outcome.TheVariants.{Refused}
use Rattle.jffs_tree.specs.declared.wish.Cause.TheVariants.{Device}
use Rattle.jffs_line.specs.declared.request.Request.{Request}
use Rattle.jffs_log.specs.Volume.{split}
use Rattle.jffs_log.specs.Scan.{Scanned, scan}
use Rattle.jffs_core.specs.CoreState.{CoreState}
use Rattle.jffs_core.specs.History.{contents}
use Rattle.jffs_core.specs.Step.{IsNodeFor}
use Rattle.jffs_core.specs.Past.{Represents, IsOpened}
use Rattle.jffs_core.specs.Answering.{Answers, turn_of}
use Rattle.jffs_core.specs.Cleaning.{Stops}

-- A scan finds what the fresh nodes since the mount made of the mounted state, or what one node of
-- this kind makes of that.
pub record FindsWith (One : Node → Type 0) (mounted past : List Node) (count len : ℕ)
    (image : List ℕ) : Type 0 where
  pub scanned : Scanned
  pub found : scan len (split count len image) ≡ Ok scanned
  pub added : List Node
  pub since : past ≡ added ++ mounted
  pub state_is : (state_in scanned.tree ≡ contents mounted added)
      ⊎ ((n : Node) × One n × (state_in scanned.tree ≡ apply (contents mounted added) n))

-- After the answer Device a scan finds the state before the request, or that which the request's own
-- node makes of it.
abbrev pub DeviceScansFind : Type 0
DeviceScansFind =
    (mounted past : List Node) (old new : CoreState) (q : Request) (image : List ℕ)
    → Represents mounted past old
    → (answered : Answers mounted past old new q (Refused Device)) → IsOpened new image
    → FindsWith (IsNodeFor (turn_of past old new) q answered.after) mounted past new.index.sectors
    new.index.sector_size image

-- After a cleaning that stopped with Device a scan finds the state before it: the history that is
-- left, or that and one own copy more, makes no other.
abbrev pub StoppedScansFind : Type 0
StoppedScansFind =
    (mounted past : List Node) (old new : CoreState) (image : List ℕ) → Represents mounted past old
    → Stops mounted past Device old new → IsOpened new image
    → FindsWith (λ n. ⊥) mounted past new.index.sectors new.index.sector_size image
