-- What the publisher of a session shows of its core.
use Rattle.std.specs.Prelude.{◌≡◌, true, false, Option, Some, None}
use Rattle.jffs_inodes.specs.Inodes.{Tree}
use Rattle.jffs_tree.specs.Origin.{state_in}
use Rattle.jffs_core.specs.CoreState.{CoreState}
use Rattle.jffs_index.specs.declared.publisher.Publisher.{Publisher}
use Rattle.jffs_index.specs.Shown.{Shown, after_step, fits}
use Rattle.jffs_index.specs.Histories.{view_of}
use Rattle.jffs_index.specs.Ends.{all_put}
use Rattle.jffs_serve.specs.declared.session.PendingStep.{PendingStep}
use Rattle.jffs_serve.specs.declared.session.PendingStep.TheVariants.{Unput, Unpublished}
use Rattle.jffs_serve.specs.declared.session.Session.{Session}

-- the tree has the state of the core's tree, unless the core has failed
abbrev pub ShowsCore : Tree → CoreState → Type 0
ShowsCore tree core = core.failed ≡ false → state_in tree ≡ state_in core.tree

-- what was put shows the core, once the unsent step is put too; and that step may be put
abbrev pub IsShown : Option PendingStep → Shown → CoreState → Type 0
IsShown None shown core = ShowsCore shown.tree core
IsShown (Some (Unput step ending)) shown core =
    (fits shown step ≡ true) × ShowsCore (after_step shown step).tree core
IsShown (Some (Unpublished ending)) shown core = ShowsCore shown.tree core

module _ {F W : Type 0} where
  -- A session can be served over a publisher: what was put shows the core.
  pub record CanServe (session : Session F) (publisher : Publisher W) : Type 0 where
    pub shown : IsShown session.unsent (view_of (all_put publisher)) session.core
