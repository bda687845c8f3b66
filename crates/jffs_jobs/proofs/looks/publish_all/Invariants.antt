use Rattle.std.proofs.Common.{◌≡◌}
use Rattle.jffs_index.specs.Histories.{view_of}
use Rattle.jffs_index.specs.Ends.{all_put}
use Rattle.jffs_jobs.proofs.looks.publish_all.Given as goal

-- the tree is that of all that was put
abbrev pub invariant-loop-step : goal.invariant-loop-step
invariant-loop-step g l = l.source.tree ≡ (view_of (all_put l.source.publisher)).tree
