-- What the core says of a cleaning and of an erase, by its answer.
use Rattle.std.proofs.Common.{ℕ, List, IfOk, IfErr, Result, Ok, Err}
use Rattle.jffs_node.specs.declared.node.Node.{Node}
use Rattle.jffs_tree.specs.declared.wish.Cause.{Cause}
use Rattle.jffs_core.specs.declared.cleaning.Cleaned.{Cleaned}
use Rattle.jffs_core.specs.CoreState.{CoreState}
use Rattle.jffs_core.specs.Past.{Represents}
use Rattle.jffs_core.specs.Cleaning.{Cleans, Stops, ErasesDead, ErasingStopped}
use Rattle.jffs_session.specs.Cleaned.{Cleaning, Erasing}

module _ (old new : CoreState) where
  pub cleaning : (r : Result Cleaned Cause) → IfOk r (λ done. (mounted past : List Node) → Represents mounted past old → Cleans mounted past done old new)
      → IfErr r (λ cause. (mounted past : List Node) → Represents mounted past old → Stops mounted past cause old new) → Cleaning r old new
  cleaning (Ok done) cleaned stopped = cleaned
  cleaning (Err cause) cleaned stopped = stopped

  pub erasing : (r : Result ℕ Cause) → IfOk r (λ count. (mounted past : List Node) → Represents mounted past old → ErasesDead mounted past count old new)
      → IfErr r (λ cause. ErasingStopped cause old new) → Erasing r old new
  erasing (Ok count) erased stopped = erased
  erasing (Err cause) erased stopped = stopped
