-- The history of a core: the nodes that the mount found, and every node appended since, the newest
-- first. Nothing is taken out of it.
use Rattle.std.specs.Prelude.{◌≡◌, ◌⊎◌, true, List, [], ◌∷◌, ◌++◌, filter, Some}
use Rattle.jffs_node.specs.declared.node.Node.{Node}
use Rattle.jffs_node.specs.Record.{is_fresh, is_unmount}
use Rattle.jffs_inodes.specs.Held.{Entry}
use Rattle.jffs_tree.specs.State.{State, apply, state_of_past}
use Rattle.jffs_tree.specs.Origin.{IsTrueCopy}
use Rattle.jffs_log.specs.Room.{next_version}

-- several nodes applied, the newest of them first in the list
abbrev pub apply_all : State → List Node → State
apply_all s [] = s
apply_all s (n ∷ nodes) = apply (apply_all s nodes) n

-- What the fresh nodes since the mount make of the mounted state, in the order of their versions.
abbrev pub contents : List Node → List Node → State
contents mounted added = apply_all (state_of_past mounted) (filter is_fresh added)

-- the node has the version that comes next
abbrev pub HasNextVersion : List Node → Node → Type 0
HasNextVersion past n = next_version past ≡ Some n.version

-- a copy that the log side made besides a request's node: true where it stands
abbrev pub IsOwnCopy : List Node → Node → Type 0
IsOwnCopy past c =
    (c.writer ≡ 0) × (c.seq ≡ 0) × HasNextVersion past c × ((e : Entry) × IsTrueCopy past c e)

-- copies one after another, the newest first
abbrev pub AreOwnCopies : List Node → List Node → Type 0
AreOwnCopies past [] = Unit {0}
AreOwnCopies past (c ∷ copies) = AreOwnCopies past copies × IsOwnCopy (copies ++ past) c

-- what may be added to a history
abbrev pub MayFollow : List Node → Node → Type 0
MayFollow past n =
    (is_fresh n ≡ true) ⊎ ((is_unmount n.kind ≡ true) ⊎ ((e : Entry) × IsTrueCopy past n e))

-- each of these may follow the nodes before it
abbrev pub IsGrown : List Node → List Node → Type 0
IsGrown past [] = Unit {0}
IsGrown past (n ∷ added) = IsGrown past added × MayFollow (added ++ past) n

-- one history goes on as another
pub record Grows (past after : List Node) : Type 0 where
  pub added : List Node
  pub joined : after ≡ added ++ past
  pub grown : IsGrown past added

-- What the fresh nodes make is what all nodes make.
abbrev pub ContentsAreState : Type 0
ContentsAreState =
    (mounted added : List Node) → IsGrown mounted added
    → contents mounted added ≡ state_of_past (added ++ mounted)
