-- A mount reads each byte once at most.
use Rattle.std.proofs.Common.{subst, arith}
use Rattle.jffs_log.specs.declared.scanning.ScanWhy.{ScanWhy}
use Rattle.jffs_log.specs.ScanFound.{IsCause, scan_of}
use Rattle.jffs_core.specs.Mounts.{MountsReadOnce}

pub mounts_read_once : MountsReadOnce
mounts_read_once left given after cause refused once can is =
    let rose = subst (λ (w : ScanWhy). IsCause w given.faults after.faults (scan_of given)) is refused.cause in
    let spent = once rose in
    let one = can spent.offset spent.from spent.below in
    let none = spent.none in
    omega arith
