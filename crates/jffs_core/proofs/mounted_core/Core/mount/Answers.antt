use Rattle.jffs_core.proofs.mounted_core.Core.mount.Goals as goal

pub returns-clause-mounted : goal.returns-clause-mounted
returns-clause-mounted g c = c.of_log.ensures.fresh _ c.in_ok-scan.ensures.found
