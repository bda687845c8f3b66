-- What follows from a chain of turns.
use Rattle.std.specs.Prelude.{◌≡◌, ◌⊎◌, ◌<◌, ◌≤◌, Bool, true, false, List, ◌∷◌, ◌++◌, map, Contains}
use Rattle.std.specs.Prelude.{Ok}
use Rattle.std.specs.List.{list_all, list_any}
use Rattle.jffs_node.specs.declared.node.Node.{Node}
use Rattle.jffs_node.specs.Record.{is_fresh}
use Rattle.jffs_tree.specs.declared.wish.Cause.TheVariants.{NoSpace, Device, Failed}
use Rattle.jffs_tree.specs.declared.wish.NewNode.{NewNode}
use Rattle.jffs_tree.specs.declared.wish.Wish.TheVariants.{Unmount}
use Rattle.jffs_tree.specs.declared.wish.Outcome.TheVariants.{Refused}
use Rattle.jffs_tree.specs.Decide.{with}
use Rattle.jffs_log.specs.LogIndex.{HasSizes, layout_in}
use Rattle.jffs_log.specs.Room.{weight, heavy}
use Rattle.jffs_core.specs.CoreState.{CoreState}
use Rattle.jffs_core.specs.History.{IsOwnCopy}
use Rattle.jffs_core.specs.Past.{Represents, HasFailed}
use Rattle.jffs_core.specs.Run.{IsLawful, OnlyCopies, is_failure}
use Rattle.jffs_core.specs.Step.{Volume, Turn, IsNodeFor, HadNoRoom, decision}
use Rattle.jffs_core.specs.Answering.{keeps_two, turn_of}
use Rattle.jffs_core.specs.Calls.{KeepsTwo, ProgramsOnce}
use Rattle.jffs_core.specs.Erases.{UsesDevice}
use Rattle.jffs_core.specs.declared.answer.Answer.{Answer}
use Rattle.jffs_serve.specs.Replies.{Reply, AllReply, answer_in}
use Rattle.jffs_serve.specs.Chain.{IsReplied, Chain, RunsTo, after_reply}

-- the sizes of the device
abbrev pub volume_of : CoreState → Volume
volume_of c = record { sectors = c.index.sectors; sector_size = c.index.sector_size }

-- at least two sectors are erased
abbrev pub HasTwo : CoreState → Type 0
HasTwo c = 2 ≤ (layout_in c.image c.index).erased

-- whether two erased sectors stay erased over all of these answers
abbrev pub all_keep_two : List Reply → Bool
all_keep_two replies = list_all (λ (r : Reply). keeps_two r.step.outcome) replies

-- an answer of these tells of a failure
abbrev pub any_failure : List Answer → Bool
any_failure answers = list_any (λ (a : Answer). is_failure a.outcome) answers

-- the node that was decided for one of these requests, the one that was answered Device, after
-- copies alone
pub record IsRequested (volume : Volume) (replies : List Reply) (after : List Node) (n : Node) :
    Type 0 where
  pub reply : Reply
  pub among : Contains replies reply
  pub device : reply.step.outcome ≡ Refused Device
  pub turn : Turn
  pub same_volume : turn.volume ≡ volume
  pub copies : OnlyCopies turn.past after
  pub node : IsNodeFor turn reply.request after n

-- What a chain tells of the core at its end: it represents the history, on a device of the same
-- sizes. Two erased sectors stay so, but for an answer that may not keep them. While the core
-- works, sectors were erased in turn, no more was programmed than the records of the nodes since
-- the start take, and the count of faults is the same; it has risen where the core failed
-- meanwhile. Where an answer tells of a failure, the core has failed. A core that fails meanwhile
-- has nothing else in hand than an own copy, or the node of the request that was answered Device.
pub record EndsSo (mounted past : List Node) (start core : CoreState) (replies : List Reply)
    (after : List Node) : Type 0 where
  pub sizes : HasSizes start.index.sectors start.index.sector_size core.index
  pub stands : Represents mounted after core
  pub two : all_keep_two replies ≡ true → core.failed ≡ false → KeepsTwo start core
  pub device : UsesDevice start core
  pub programs : core.failed ≡ false → ProgramsOnce past after start core
  pub works : core.failed ≡ false → core.faults ≡ start.faults
  pub faults : start.failed ≡ false → core.failed ≡ true → start.faults < core.faults
  pub failed : any_failure (map answer_in replies) ≡ true → core.failed ≡ true
  pub in_hand : start.failed ≡ false → core.failed ≡ true
      → HasFailed (λ n. IsOwnCopy after n ⊎ IsRequested (volume_of start) replies after n) after
      core

abbrev pub ChainsEndSo : Type 0
ChainsEndSo = (mounted past after : List Node) (start core : CoreState) (replies : List Reply)
    → Represents mounted past start → Chain mounted past start replies core after
    → EndsSo mounted past start core replies after

-- One turn of a chain, with what was before it and what came after it.
pub record Within (mounted past : List Node) (start : CoreState) (before : List Reply) (r : Reply)
    (later : List Reply) (core : CoreState) (after : List Node) : Type 0 where
  pub taken : List Node
  pub was : CoreState
  pub now : CoreState
  pub so_far : Chain mounted past start before was taken
  pub replied : IsReplied mounted taken was r now
  pub rest : Chain mounted (after_reply replied) now later core after

-- A chain splits at each of its replies.
abbrev pub ChainsSplit : Type 0
ChainsSplit = (mounted past after : List Node) (start core : CoreState) (before later : List Reply)
    (r : Reply)
    → Chain mounted past start (before ++ r ∷ later) core after
    → Within mounted past start before r later core after

-- The answers that a session has given are a lawful run of the requests.
abbrev pub RepliesAreLawful : Type 0
RepliesAreLawful =
    (start core : CoreState) (mounted past : List Node) (replies : List Reply) → AllReply replies
    → (run : RunsTo start core mounted past replies)
    → IsLawful (volume_of start) past (map (λ (r : Reply). r.request) replies)
    (map answer_in replies) run.after

-- Where the device's count of faults didn't rise, no answer is Device or Failed.
abbrev pub FailuresAreFaults : Type 0
FailuresAreFaults =
    (start core : CoreState) (mounted past : List Node) (replies : List Reply)
    → Represents mounted past start → RunsTo start core mounted past replies
    → start.failed ≡ false → core.faults ≡ start.faults
    → any_failure (map answer_in replies) ≡ false

-- A request is answered Failed exactly where the core had failed when it was taken, and no other
-- answer follows one that tells of a failure.
abbrev pub FailedAnswersFailed : Type 0
FailedAnswersFailed =
    (mounted past after : List Node) (start core : CoreState) (replies : List Reply) (r : Reply)
    → start.failed ≡ true → Chain mounted past start replies core after → Contains replies r
    → r.step.outcome ≡ Refused Failed

-- A request is answered NoSpace only where its node had no room at that very turn.
abbrev pub NoRoomAtTheTurn : Type 0
NoRoomAtTheTurn = (mounted taken : List Node) (was now : CoreState) (r : Reply)
    → IsReplied mounted taken was r now → r.step.outcome ≡ Refused NoSpace
    → (n : NewNode) × HadNoRoom (turn_of taken was now) r.request n

-- Where two sectors are erased when the request is taken, a fresh node is answered NoSpace only
-- where the live records weigh the stated share.
abbrev pub NoSpaceIsHeavyThen : Type 0
NoSpaceIsHeavyThen = (mounted taken : List Node) (was now : CoreState) (r : Reply) (n : NewNode)
    → IsReplied mounted taken was r now → HasTwo was → r.step.outcome ≡ Refused NoSpace
    → decision (turn_of taken was now) r.request ≡ Ok n → is_fresh (with n 0 0 0) ≡ true
    → heavy was.index.sectors was.index.sector_size ≤ weight taken

-- And an Unmount is never answered so.
abbrev pub UnmountsHaveSpaceThen : Type 0
UnmountsHaveSpaceThen = (mounted taken : List Node) (was now : CoreState) (r : Reply)
    → IsReplied mounted taken was r now → HasTwo was → r.request.wish ≡ Unmount
    → r.step.outcome ≡ Refused NoSpace → ⊥

-- Where two sectors were erased at first, and each reply kept them, a fresh node is answered
-- NoSpace only where the live records weigh the stated share.
abbrev pub NoSpaceIsHeavy : Type 0
NoSpaceIsHeavy = (mounted past taken : List Node) (start was now : CoreState) (before : List Reply)
    (r : Reply) (n : NewNode)
    → Represents mounted past start → Chain mounted past start before was taken → HasTwo start
    → all_keep_two before ≡ true
    → IsReplied mounted taken was r now → r.step.outcome ≡ Refused NoSpace
    → decision (turn_of taken was now) r.request ≡ Ok n → is_fresh (with n 0 0 0) ≡ true
    → heavy start.index.sectors start.index.sector_size ≤ weight taken

-- And an Unmount is never answered so.
abbrev pub UnmountsHaveSpace : Type 0
UnmountsHaveSpace =
    (mounted past taken : List Node) (start was now : CoreState) (before : List Reply) (r : Reply)
    → Represents mounted past start → Chain mounted past start before was taken → HasTwo start
    → all_keep_two before ≡ true
    → IsReplied mounted taken was r now → r.request.wish ≡ Unmount
    → r.step.outcome ≡ Refused NoSpace → ⊥
