-- Anything may be in flight at first.
use Rattle.std.proofs.Common.{refl}
use Rattle.jffs_file.specs.Flying.{any_flight}
use Rattle.jffs_file.proofs.Ordering.{order_unknown}
use Rattle.jffs_file.proofs.flash.FileFlash.on_medium.Goals as goal

pub returns-clause-ordered : goal.returns-clause-ordered
returns-clause-ordered g c = rw c.new-flash.ensures (order_unknown c.args.held (g.S.Store.past c.args.store) any_flight refl)
