use Rattle.std.proofs.Common.{refl, sym, ap}
use Rattle.jffs_flash.specs.Device.{Device}
use Rattle.jffs_core.proofs.scans.Mounting.{found_index, found_fresh}
use Rattle.jffs_core.proofs.mounted_core.Core.of_log.Goals as goal

pub invariant_of-result : goal.invariant_of-result
invariant_of-result g c = found_index c.requires.0 _ _ _ _ c.requires.1

pub returns-clause-fresh : goal.returns-clause-fresh
returns-clause-fresh g c = λ device m.
    let same = sym m.device_is in
    found_fresh device _ m.found
    (record { sizes = m.found.sizes; image_is = ap (λ (d : Device). d.image) same; faults_are = ap (λ (d : Device). d.faults) same; failed_erases_are = ap (λ (d : Device). d.failed_erases) same })
    m.works m.no_erase_failed refl c.new.ensures.items
