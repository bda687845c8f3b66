-- What one taken request may be answered.
use Rattle.std.specs.Prelude.{◌≡◌, ◌⊎◌, ◌↔◌, ℕ, zero, suc, ◌≤◌, Bool, true, false, ◌&&◌, ◌||◌, List}
use Rattle.std.specs.Prelude.{[], ◌∷◌, ◌++◌, length, Some, None, Ok, Err, Result, IsTrue}
use Rattle.jffs_node.specs.declared.node.Node.{Node}
use Rattle.jffs_node.specs.Record.{is_fresh, is_unmount, record_len}
use Rattle.jffs_tree.specs.declared.wish.Cause.{Cause}
use Rattle.jffs_tree.specs.declared.wish.Cause.TheVariants as causes
use Rattle.jffs_tree.specs.declared.wish.Outcome.{Outcome}
use Rattle.jffs_tree.specs.declared.wish.Outcome.TheVariants.{Appended, Copied, Closed, Refused}
use Rattle.jffs_tree.specs.declared.wish.NewNode.{NewNode}
use Rattle.jffs_tree.specs.Decide.{decide, with, is_copy_wish, is_unmount_wish}
use Rattle.jffs_line.specs.declared.request.Request.{Request}
use Rattle.jffs_log.specs.declared.room.Room.{Room}
use Rattle.jffs_log.specs.declared.room.Room.TheVariants as rooms
use Rattle.jffs_log.specs.Room.{has_room, limits, next_version, weight, heavy}
use Rattle.jffs_log.specs.Cleaning.{GcState, oldest_records, copies_have_room, cleaned}
use Rattle.jffs_log.specs.Cleaning.{fresh_has_room, room_made, used}
use Rattle.jffs_log.specs.Work.{live_and_free}
use Rattle.jffs_core.specs.History.{HasNextVersion, IsOwnCopy, AreOwnCopies}

pub record Volume : Type 0 where
  pub sectors : ℕ
  pub sector_size : ℕ

-- What stands when a request is taken, and what befalls the call. The log is there sector by
-- sector, the oldest first.
pub record Turn : Type 0 where
  pub volume : Volume
  pub past : List Node
  pub log : List (List Node)
  pub free : ℕ
  pub erased : ℕ
  pub clean : Bool
  pub failed : Bool
  pub device_faulted : Bool

-- the decision on the request, and the node that it gives
abbrev pub decision : Turn → Request → Result NewNode Cause
decision t q = decide t.past (limits t.volume.sector_size t.past) q.wish

abbrev pub node_of : NewNode → Request → ℕ → Node
node_of n q version = with n version q.writer q.seq

-- the node that was decided for the request, with the version that comes next
pub record IsNodeFor (t : Turn) (q : Request) (after : List Node) (n : Node) : Type 0 where
  pub new : NewNode
  pub decided : decision t q ≡ Ok new
  pub is : n ≡ node_of new q n.version
  pub next : HasNextVersion after n

-- the node that is written while the request is answered: a copy made besides, or its own
abbrev pub IsInHand : Turn → Request → List Node → Node → Type 0
IsInHand t q after n = IsOwnCopy after n ⊎ IsNodeFor t q after n

-- an Unmount of a clean log takes no node
abbrev pub takes_no_node : Turn → Request → Bool
takes_no_node t q = is_unmount_wish q.wish && t.clean

abbrev pub room_of : NewNode → Room
room_of n = elim (is_unmount n.kind) [ true ↦ rooms.Unmount | false ↦ rooms.Fresh ]

abbrev pub had_room : Turn → NewNode → Bool
had_room t n = has_room (room_of n) (record_len (with n 0 0 0)) t.free t.erased

-- when the request was taken, its node had no room
pub record HadNoRoom (t : Turn) (q : Request) (n : NewNode) : Type 0 where
  pub decided : decision t q ≡ Ok n
  pub none : had_room t n ≡ false

-- Room can be made for a fresh record of `len` bytes by at most so many cleanings, in each of which
-- all copies have room.
abbrev pub room_can_be_made : ℕ → ℕ → ℕ → GcState → Bool
room_can_be_made sector_size len zero s = fresh_has_room len s
room_can_be_made sector_size len (suc left) s =
    fresh_has_room len s
    || (copies_have_room sector_size (oldest_records s.log.sectors) s
    && room_can_be_made sector_size len left (cleaned sector_size s))

-- the session that the request was taken in
abbrev pub session_of : Turn → GcState
session_of t =
    record { past = t.past; log = record { sectors = t.log; free = t.free; erased = t.erased } }

-- whether the node has room, or gets it where each sector of the log is cleaned once at most
abbrev pub gets_room : Turn → NewNode → Bool
gets_room t n =
    room_can_be_made t.volume.sector_size (record_len (with n 0 0 0)) (length t.log) (session_of t)

-- the history once the node has room, with the copies that were made for it
abbrev pub past_with_room : Turn → NewNode → List Node
past_with_room t n =
    (room_made t.volume.sector_size (record_len (with n 0 0 0)) (length t.log) (session_of t)).past

-- and it is a fresh node, for which room is made by copies
abbrev pub MakesRoom : Turn → Request → Type 0
MakesRoom t q = (n : NewNode) × HadNoRoom t q n × (is_fresh (with n 0 0 0) ≡ true)

-- The outcome comes only here. `copies` were made besides, `own` is what it added. Memory comes
-- only where a node was decided on, and NoSpace for a fresh node only where no room can be made.
abbrev pub RefusedBy : Cause → Turn → Request → List Node → Type 0
RefusedBy causes.Failed t q copies = IsTrue t.failed × (copies ≡ [])
RefusedBy causes.VersionsSpent t q copies =
    (takes_no_node t q ≡ false)
    × (((decision t q ≡ Err causes.VersionsSpent) × (copies ≡ []))
    ⊎ (MakesRoom t q × (next_version (copies ++ t.past) ≡ None)))
RefusedBy causes.Memory t q copies =
    (takes_no_node t q ≡ false) × ((n : NewNode) × (decision t q ≡ Ok n))
RefusedBy causes.NoSpace t q copies =
    (takes_no_node t q ≡ false)
    × ((n : NewNode) × HadNoRoom t q n
    × (is_fresh (with n 0 0 0) ≡ true → 2 ≤ t.erased
    → heavy t.volume.sectors t.volume.sector_size ≤ weight t.past)
    × (is_fresh (with n 0 0 0) ≡ true → gets_room t n ≡ false))
RefusedBy causes.Device t q copies = IsTrue t.device_faulted
RefusedBy cause t q copies =
    (takes_no_node t q ≡ false) × (decision t q ≡ Err cause) × (copies ≡ [])

-- A fresh node was decided on and added, with room that it had or that these copies made.
pub record IsAppended (inode version : ℕ) (t : Turn) (q : Request) (copies own : List Node) :
    Type 0 where
  pub new : NewNode
  pub decided : decision t q ≡ Ok new
  pub fresh : is_fresh (with new 0 0 0) ≡ true
  pub inode_is : new.inode ≡ inode
  pub next : next_version (copies ++ t.past) ≡ Some version
  pub added : own ≡ node_of new q version ∷ []
  pub room : gets_room t new ≡ true
  pub made : copies ++ t.past ≡ past_with_room t new

-- The copy that was asked for was added, and none besides it.
pub record IsCopied (version : ℕ) (t : Turn) (q : Request) (copies own : List Node) : Type 0 where
  pub wish : is_copy_wish q.wish ≡ true
  pub new : NewNode
  pub decided : decision t q ≡ Ok new
  pub none : copies ≡ []
  pub next : next_version t.past ≡ Some version
  pub added : own ≡ node_of new q version ∷ []
  pub room : had_room t new ≡ true

-- An unmount node was added to a log that didn't end with one.
pub record IsUnmounted (t : Turn) (q : Request) (own : List Node) : Type 0 where
  pub unclean : t.clean ≡ false
  pub new : NewNode
  pub version : ℕ
  pub decided : decision t q ≡ Ok new
  pub next : next_version t.past ≡ Some version
  pub added : own ≡ node_of new q version ∷ []
  pub room : had_room t new ≡ true

-- The session is over: the log was clean, or an unmount node was added.
pub record IsClosed (t : Turn) (q : Request) (copies own : List Node) : Type 0 where
  pub wish : is_unmount_wish q.wish ≡ true
  pub none : copies ≡ []
  pub node : (IsTrue t.clean × (own ≡ [])) ⊎ IsUnmounted t q own

abbrev pub OutcomeIs : Outcome → Turn → Request → List Node → List Node → Type 0
OutcomeIs (Appended inode version) t q copies own = IsAppended inode version t q copies own
OutcomeIs (Copied version) t q copies own = IsCopied version t q copies own
OutcomeIs Closed t q copies own = IsClosed t q copies own
OutcomeIs (Refused cause) t q copies own = RefusedBy cause t q copies × (own ≡ [])

abbrev pub newest_is_unmount : List Node → Bool
newest_is_unmount [] = false
newest_is_unmount (n ∷ past) = is_unmount n.kind

-- One answered request: from the history when it was taken to the history after.
pub record IsStep (t : Turn) (q : Request) (o : Outcome) (after : List Node) : Type 0 where
  pub copies : List Node
  pub own : List Node
  pub joined : after ≡ own ++ copies ++ t.past
  pub copies_are_true : AreOwnCopies t.past copies
  pub copies_make_room : (copies ≡ []) ⊎ MakesRoom t q
  pub copies_are_little : used copies ≤ live_and_free (session_of t)
  pub clean_is_so : t.clean ≡ true → newest_is_unmount t.past ≡ true
  pub failed_says_so : IsTrue t.failed ↔ (o ≡ Refused causes.Failed)
  pub outcome : OutcomeIs o t q copies own
