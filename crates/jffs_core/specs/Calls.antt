-- What stands after a call of a core.
use Rattle.std.specs.Prelude.{◌≡◌, ℕ, ◌+◌, ◌<◌, ◌≤◌, true, false, List, [], ◌∷◌, None}
use Rattle.jffs_node.specs.declared.node.Node.{Node}
use Rattle.jffs_node.specs.Record.{record_len}
use Rattle.jffs_tree.specs.declared.wish.Cause.{Cause}
use Rattle.jffs_tree.specs.declared.wish.Cause.TheVariants.{VersionsSpent, Memory, NoSpace, Device}
use Rattle.jffs_log.specs.Room.{next_version}
use Rattle.jffs_log.specs.LogIndex.{layout_in}
use Rattle.jffs_core.specs.CoreState.{CoreState}
use Rattle.jffs_core.specs.History.{IsOwnCopy}
use Rattle.jffs_core.specs.Past.{RepresentsWorking, HasFailed, OrOneMore}

-- the bytes that are programmed for these nodes: each record once, and its gate once more
abbrev pub written : List Node → ℕ
written [] = 0
written (n ∷ nodes) = record_len n + 1 + written nodes

-- From one history to another the device programmed no more, by its own count, than what is written
-- for the nodes between.
abbrev pub ProgramsOnce : List Node → List Node → CoreState → CoreState → Type 0
ProgramsOnce past after old new = new.wear.bytes + written past ≤ old.wear.bytes + written after

-- The core had the one history and works with the other, and no call of the device failed.
pub record WorksOn (past after : List Node) (old new : CoreState) : Type 0 where
  pub works : new.failed ≡ false
  pub faults : new.faults ≡ old.faults
  pub programs : ProgramsOnce past after old new
  pub represents : RepresentsWorking after new

-- A call of the device failed, and so has the core, perhaps with a node of this kind in hand.
pub record FailsIn (InHand : Node → Type 0) (past after : List Node) (old new : CoreState) : Type 0
  where
    pub fails : new.failed ≡ true
    pub faults : old.faults < new.faults
    pub programs : OrOneMore InHand after (λ found. ProgramsOnce past found old new)
    pub left : HasFailed InHand after new

-- what stands where a call was refused with this cause, with a node of this kind in hand
abbrev pub RefusedWith : (Node → Type 0) → Cause → List Node → List Node → CoreState → CoreState
    → Type 0
RefusedWith InHand VersionsSpent past after old new =
    WorksOn past after old new × (next_version after ≡ None)
RefusedWith InHand Memory past after old new = WorksOn past after old new
RefusedWith InHand NoSpace past after old new = WorksOn past after old new
RefusedWith InHand Device past after old new = FailsIn InHand past after old new
RefusedWith InHand _ past after old new = ⊥

-- the same of a call that makes no nodes but own copies
abbrev pub RefusedAt : Cause → List Node → List Node → CoreState → CoreState → Type 0
RefusedAt cause past after old new = RefusedWith (IsOwnCopy after) cause past after old new

-- where two sectors were erased, two are
abbrev pub KeepsTwo : CoreState → CoreState → Type 0
KeepsTwo old new =
    2 ≤ (layout_in old.image old.index).erased → 2 ≤ (layout_in new.image new.index).erased
