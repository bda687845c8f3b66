-- Laws over the definitions. The lists of nodes have the newest first.
use Rattle.std.specs.Prelude.{◌≡◌, ℕ, ◌<◌, true, false, List, ◌∷◌, ◌++◌, Some, None, IsSome, IsTrue}
use Rattle.std.specs.Prelude.{get_or, Ok}
use Rattle.std.specs.List.{AllByRecursion}
use Rattle.std.specs.Option.{option_map_or}
use Rattle.jffs_node.specs.declared.node.Node.{Node}
use Rattle.jffs_node.specs.Record.{is_lawful}
use Rattle.jffs_tree.specs.declared.wish.Limits.{Limits}
use Rattle.jffs_tree.specs.declared.wish.NewNode.{NewNode}
use Rattle.jffs_tree.specs.declared.wish.Wish.{Wish}
use Rattle.jffs_tree.specs.declared.wish.Wish.TheVariants.{Copy}
use Rattle.jffs_tree.specs.Check.{keeps_kind, keeps_offsets, makes_tree}
use Rattle.jffs_tree.specs.After.{keeps_kind_in, tree_after}
use Rattle.jffs_inodes.specs.Inodes.{keeps_offsets_in}
use Rattle.jffs_tree.specs.Decide.{decide, decide_on, with, cleaning_copy}
use Rattle.jffs_inodes.specs.Held.{Entry, bytes_of}
use Rattle.jffs_tree.specs.State.{at, state_of_past}
use Rattle.jffs_tree.specs.Origin.{IsTrueCopy, is_live, newest, size_in, origin, origin_offset}
use Rattle.jffs_tree.specs.Origin.{tree_of, entry}

-- A true copy changes no state.
abbrev pub TrueCopiesKeepState : Type 0
TrueCopiesKeepState =
    (past : List Node) (c : Node) (e : Entry) → IsTrueCopy past c e
    → state_of_past (c ∷ past) ≡ state_of_past past

-- none of these is live
abbrev pub NoneLive : List Node → List Node → Type 0
NoneLive past nodes = AllByRecursion (λ n. is_live past n.version ≡ false) nodes

-- each byte under a newest node that states no size was written by a node
abbrev pub BytesHaveOrigins : List Node → Type 0
BytesHaveOrigins past =
    (i : ℕ) (n : Node) (p : ℕ) → newest past i ≡ Some n → n.size ≡ None → p < size_in past i
    → IsSome (origin past i p)

-- Without its oldest nodes, none of them live, a log makes the same state.
abbrev pub ErasingKeepsState : Type 0
ErasingKeepsState =
    (recent oldest : List Node) → NoneLive (recent ++ oldest) oldest
    → BytesHaveOrigins (recent ++ oldest) → state_of_past recent ≡ state_of_past (recent ++ oldest)

-- And the same tree: the same last writers and newest nodes, and so the same live versions.
abbrev pub ErasingKeepsTree : Type 0
ErasingKeepsTree =
    (recent oldest : List Node) → NoneLive (recent ++ oldest) oldest
    → BytesHaveOrigins (recent ++ oldest) → tree_of recent ≡ tree_of (recent ++ oldest)

-- Its bytes have origins as before.
abbrev pub ErasingKeepsOrigins : Type 0
ErasingKeepsOrigins =
    (recent oldest : List Node) → NoneLive (recent ++ oldest) oldest
    → BytesHaveOrigins (recent ++ oldest) → BytesHaveOrigins recent

-- The byte at each offset is the byte of its origin, or 0 where it has none.
abbrev pub BytesComeFromOrigins : Type 0
BytesComeFromOrigins = (past : List Node) (i p : ℕ) → p < size_in past i
    → get_or (bytes_of (at (state_of_past past) i)) p 0
    ≡ option_map_or (λ n. get_or n.bytes (origin_offset past i p) 0) (origin past i p) 0

-- The tree of one node more is the tree after that node.
abbrev pub TreesStepByNodes : Type 0
TreesStepByNodes = (past : List Node) (n : Node) → tree_after (tree_of past) n ≡ tree_of (n ∷ past)

-- A tree tests a lawful node, before it is applied, as its nodes do.
abbrev pub TreesTestAsNodes : Type 0
TreesTestAsNodes = (past : List Node) (n : Node) → IsTrue (is_lawful n)
    → (keeps_kind_in (tree_of past) n ≡ keeps_kind past n)
    × (keeps_offsets_in (tree_of past) n ≡ keeps_offsets past n)

-- A tree decides as its nodes do.
abbrev pub DecidesByTree : Type 0
DecidesByTree =
    (past : List Node) (limits : Limits) (wish : Wish)
    → decide_on (tree_of past) limits wish ≡ decide past limits wish

-- A copy that is accepted is true.
abbrev pub AcceptedCopiesAreTrue : Type 0
AcceptedCopiesAreTrue =
    (past : List Node) (limits : Limits) (source parent : ℕ) (name : List ℕ) (offset : ℕ)
    (bytes : List ℕ) (n : NewNode) (version writer seq : ℕ)
    → decide past limits (Copy source parent name offset bytes) ≡ Ok n
    → (e : Entry) × IsTrueCopy past (with n version writer seq) e

-- The rules of a tree give what erasing needs.
abbrev pub RulesGiveOrigins : Type 0
RulesGiveOrigins = (past : List Node) → makes_tree past ≡ true → BytesHaveOrigins past

-- Without its oldest nodes, none of them live, a log that keeps the rules makes the same tree and
-- keeps them.
abbrev pub ErasingKeepsRules : Type 0
ErasingKeepsRules =
    (recent oldest : List Node) → NoneLive (recent ++ oldest) oldest
    → makes_tree (recent ++ oldest) ≡ true
    → (tree_of recent ≡ tree_of (recent ++ oldest)) × (makes_tree recent ≡ true)

-- The copy that cleaning makes of a node whose inode is present is true.
abbrev pub CleaningCopiesAreTrue : Type 0
CleaningCopiesAreTrue =
    (past : List Node) (n : Node) (e : Entry) (version : ℕ) → entry past n.inode ≡ Some e
    → IsTrueCopy past (with (cleaning_copy (state_of_past past) n) version 0 0) e
