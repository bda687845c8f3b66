-- What a call does to the tree of a core.
use Rattle.std.specs.Prelude.{◌≡◌, true, false, Option, Some, None}
use Rattle.jffs_node.specs.declared.node.Node.{Node}
use Rattle.jffs_tree.specs.State.{apply}
use Rattle.jffs_inodes.specs.Inodes.{Tree}
use Rattle.jffs_tree.specs.Origin.{state_in}
use Rattle.jffs_tree.specs.After.{can_apply}
use Rattle.jffs_core.specs.CoreState.{CoreState}

-- the node may be applied to the one tree, and the other has the state that it makes; without a
-- node both have the same
abbrev pub TakesNode : Tree → Option Node → Tree → Type 0
TakesNode old None new = state_in new ≡ state_in old
TakesNode old (Some n) new = (can_apply old n ≡ true) × (state_in new ≡ apply (state_in old) n)

-- A core that works did so before, and its tree took in the node that was appended for the answer.
-- One that failed appended none.
pub record TellsNode (old new : CoreState) (node : Option Node) : Type 0 where
  pub none : new.failed ≡ true → node ≡ None
  pub worked : new.failed ≡ false → old.failed ≡ false
  pub taken : new.failed ≡ false → TakesNode old.tree node new.tree

-- a core that works did so before, and has the same tree
abbrev pub KeepsTree : CoreState → CoreState → Type 0
KeepsTree old new = new.failed ≡ false → (old.failed ≡ false) × (new.tree ≡ old.tree)
