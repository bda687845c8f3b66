use Rattle.std.proofs.Common.{◌≡◌}
use Rattle.jffs_index.specs.Histories.{view_of}
use Rattle.jffs_index.specs.Ends.{all_put, publisher_index}
use Rattle.jffs_index_tests.proofs.tests.follower.request_all.Given as goal

abbrev pub invariant-loop-wish : goal.invariant-loop-wish
invariant-loop-wish g l = (l.source.tree ≡ (view_of (all_put l.source.publisher)).tree) × (publisher_index l.source.publisher ≡ publisher_index l.fn.source.publisher)
