use Rattle.jffs_core.proofs.mounted_core.Core.open.Goals as goal

pub returns-clause-opened : goal.returns-clause-opened
returns-clause-opened g c = c.of_log.ensures.fresh _ c.in_ok-healed.ensures.found
