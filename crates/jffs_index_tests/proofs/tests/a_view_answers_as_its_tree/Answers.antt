use Rattle.jffs_index_tests.proofs.tests.a_view_answers_as_its_tree.Goals as goal

pub move_about-requires : goal.move_about-requires
move_about-requires g c = c.in_ok-source.ensures.tree
