-- What cleaning and erasing come to.
use Rattle.std.specs.Prelude.{List, ℕ, Result, Ok, Err}
use Rattle.jffs_node.specs.declared.node.Node.{Node}
use Rattle.jffs_tree.specs.declared.wish.Cause.{Cause}
use Rattle.jffs_core.specs.declared.cleaning.Cleaned.{Cleaned}
use Rattle.jffs_core.specs.CoreState.{CoreState}
use Rattle.jffs_core.specs.Past.{Represents}
use Rattle.jffs_core.specs.Cleaning.{Cleans, Stops, ErasesDead, ErasingStopped}

-- the core cleaned its oldest sector and answered this, in whatever history it had
abbrev pub Cleaning : Result Cleaned Cause → CoreState → CoreState → Type 0
Cleaning (Ok done) old new =
    (mounted past : List Node) → Represents mounted past old → Cleans mounted past done old new
Cleaning (Err cause) old new =
    (mounted past : List Node) → Represents mounted past old → Stops mounted past cause old new

-- the core erased dead sectors and answered this, in whatever history it had
abbrev pub Erasing : Result ℕ Cause → CoreState → CoreState → Type 0
Erasing (Ok count) old new =
    (mounted past : List Node) → Represents mounted past old → ErasesDead mounted past count old new
Erasing (Err cause) old new = ErasingStopped cause old new
