use Rattle.std.proofs.Common.{arith}
use Rattle.jffs_log.specs.ScanFound.{nodes_held}
use Rattle.jffs_log.proofs.scans.ScanNumbers.{rises, lasts, inode_one}
use Rattle.jffs_log.proofs.folding.GreatestNumbers.of.Goals as goal

pub loop-sector-init : goal.loop-sector-init
loop-sector-init c =
    let nodes = nodes_held c.args.held.now in
    let one = inode_one nodes in
    record { rise = rises nodes c.requires; version = lasts nodes; inode = omega arith; least = omega arith }
