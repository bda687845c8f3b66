use Rattle.std.proofs.Common.{refl}
use Rattle.jffs_log.specs.RoomRows.{rewrites, two_live}
use Rattle.jffs_log.proofs.scans.MountedLog.{each_known, among_reversed}
use Rattle.jffs_log.proofs.examples.example_is_copied_again.Goals as goal

pub returns : goal.returns
returns c = record {
  sound = record {
    history = refl;
    known = each_known two_live.past two_live.log.sectors (λ n a. among_reversed n rewrites a);
    stands = (refl, (refl, tt));
    tail = refl;
    counted = refl;
  };
  live = refl;
  none = refl;
  turn = refl;
  first = refl;
  room = refl;
  many = refl;
  bytes = refl;
  holds = refl;
}
