use Rattle.jffs_log.proofs.begun.Doomed.{dooms_are_healable, dooms_go_on, erases_go_on}
use Rattle.jffs_log.proofs.begun.Healed.{erases_are_healed, lawful_stay}
use Rattle.jffs_log.proofs.laws.erases_are_healed.Goals as goal

pub returns-clause-healed : goal.returns-clause-healed
returns-clause-healed c = erases_are_healed

pub returns-clause-doomed : goal.returns-clause-doomed
returns-clause-doomed c = dooms_are_healable

pub returns-clause-doomed_again : goal.returns-clause-doomed_again
returns-clause-doomed_again c = dooms_go_on

pub returns-clause-erased_again : goal.returns-clause-erased_again
returns-clause-erased_again c = erases_go_on

pub returns-clause-lawful : goal.returns-clause-lawful
returns-clause-lawful c = lawful_stay
