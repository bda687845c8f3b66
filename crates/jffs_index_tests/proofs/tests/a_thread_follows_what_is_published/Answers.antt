use Rattle.jffs_index_tests.proofs.tests.a_thread_follows_what_is_published.Goals as goal

pub follow-requires-clause-tree : goal.follow-requires-clause-tree
follow-requires-clause-tree g c κs = c.in_ok-source.ensures.tree
