-- A lawful run: requests and their answers, from one history to another.
use Rattle.std.specs.Prelude.{◌≡◌, ◌≢◌, Bool, true, false, List, [], ◌∷◌, ◌++◌}
use Rattle.jffs_node.specs.declared.node.Node.{Node}
use Rattle.jffs_tree.specs.declared.wish.Outcome.{Outcome}
use Rattle.jffs_tree.specs.declared.wish.Outcome.TheVariants.{Closed, Refused}
use Rattle.jffs_tree.specs.declared.wish.Cause.TheVariants as causes
use Rattle.jffs_line.specs.declared.request.Request.{Request}
use Rattle.jffs_core.specs.declared.answer.Answer.{Answer}
use Rattle.jffs_core.specs.History.{AreOwnCopies, Grows}
use Rattle.jffs_core.specs.Step.{Volume, Turn, IsStep}

-- only own copies were added between two requests
pub record OnlyCopies (past after : List Node) : Type 0 where
  pub copies : List Node
  pub true_copies : AreOwnCopies past copies
  pub joined : after ≡ copies ++ past

-- one request, taken after such copies
pub record IsAnswered (volume : Volume) (past : List Node) (q : Request) (a : Answer)
    (after : List Node) : Type 0 where
  pub turn : Turn
  pub same_volume : turn.volume ≡ volume
  pub between : OnlyCopies past turn.past
  pub writer : a.writer ≡ q.writer
  pub seq : a.seq ≡ q.seq
  pub step : IsStep turn q a.outcome after

-- a device fault, and what comes after it
abbrev pub is_failure : Outcome → Bool
is_failure (Refused causes.Device) = true
is_failure (Refused causes.Failed) = true
is_failure _ = false

-- what an answer says of the next one
pub record MayPrecede (a b : Answer) : Type 0 where
  pub not_closed : a.outcome ≢ Closed
  pub failed_stays : is_failure a.outcome ≡ true → b.outcome ≡ Refused causes.Failed

-- each next to the one before
abbrev pub IsInOrder : List Answer → Type 0
IsInOrder [] = Unit {0}
IsInOrder (a ∷ []) = Unit {0}
IsInOrder (a ∷ b ∷ answers) = MayPrecede a b × IsInOrder (b ∷ answers)

-- as many answers as requests, each lawful at its turn
abbrev pub AreAnswered : Volume → List Node → List Request → List Answer → List Node → Type 0
AreAnswered volume past [] [] after = OnlyCopies past after
AreAnswered volume past (q ∷ requests) (a ∷ answers) after =
    (middle : List Node) × IsAnswered volume past q a middle
    × AreAnswered volume middle requests answers after
AreAnswered volume past _ _ after = ⊥

-- none after Closed, and a failed core stays failed
pub record IsLawful (volume : Volume) (past : List Node) (requests : List Request)
    (answers : List Answer) (after : List Node) : Type 0 where
  pub each : AreAnswered volume past requests answers after
  pub in_order : IsInOrder answers

-- the next answer may follow these
abbrev pub MayFollowAll : List Answer → Answer → Type 0
MayFollowAll [] b = Unit {0}
MayFollowAll (a ∷ []) b = MayPrecede a b
MayFollowAll (a ∷ c ∷ answers) b = MayFollowAll (c ∷ answers) b

-- A run may go on by one request, where it isn't over.
abbrev pub RunsGoOn : Type 0
RunsGoOn = (volume : Volume) (past middle after : List Node) (requests : List Request)
    (answers : List Answer) (q : Request) (a : Answer)
    → IsLawful volume past requests answers middle → MayFollowAll answers a
    → IsAnswered volume middle q a after
    → IsLawful volume past (requests ++ q ∷ []) (answers ++ a ∷ []) after

-- A lawful run only adds fresh nodes, unmount nodes and true copies.
abbrev pub LawfulRunsGrow : Type 0
LawfulRunsGrow =
    (volume : Volume) (past after : List Node) (requests : List Request) (answers : List Answer)
    → IsLawful volume past requests answers after → Grows past after
