-- A mounted volume with one owner.
use Rattle.jffs_node.specs.declared.node.Node.{Node}
use Rattle.jffs_tree.specs.State.{State}
use Rattle.jffs_tree.specs.Origin.{state_in}
use Rattle.jffs_tree.specs.declared.wish.Limits.{Limits}
use Rattle.std.specs.Prelude.{List}
use Rattle.jffs_core.specs.CoreState.{CoreState}
use Rattle.jffs_core.specs.Past.{Represents}

-- The core, and the numbers that came next when it was mounted.
pub record SessionState : Type 0 where
  pub core : CoreState
  pub begun : Limits

-- the files and directories that a core has which works
abbrev pub files : CoreState → State
files c = state_in c.tree

-- Some log was mounted, and the core represents it and the history since.
pub record IsMounted (c : CoreState) : Type 0 where
  pub mounted : List Node
  pub past : List Node
  pub represents : Represents mounted past c
