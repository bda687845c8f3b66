use Rattle.std.proofs.Common.{refl}
use Rattle.jffs_core_tests.proofs.tests.examples.examples_are_stepped.Goals as goal

pub returns-clause-filled : goal.returns-clause-filled
returns-clause-filled c = record { weight = refl }
