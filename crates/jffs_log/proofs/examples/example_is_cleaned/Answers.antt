use Rattle.std.proofs.Common.{refl}
use Rattle.jffs_log.specs.RoomRows.{records, full}
use Rattle.jffs_log.proofs.scans.MountedLog.{each_known, among_reversed}
use Rattle.jffs_log.proofs.examples.example_is_cleaned.Goals as goal

pub returns : goal.returns
returns c = record {
  sound = record {
    history = refl;
    known = each_known full.past full.log.sectors (λ n a. among_reversed n records a);
    stands = (refl, (refl, (refl, tt)));
    tail = refl;
    counted = refl;
  };
  history = refl;
  weighs = refl;
  bound = refl;
  copies = refl;
  turn = refl;
  none = refl;
  holds = refl;
  left = refl;
}
