-- What the senders of a run had accepted, in either form of the line.
use Rattle.std.specs.Prelude.{ℕ, List}
use Rattle.jffs_line.specs.declared.request.Request.{Request}
use Rattle.jffs_line.specs.contracts.rings.RingHandHand.TheImpl as ring
use Rattle.jffs_line.specs.contracts.shared.SharedHandHand.TheImpl as shared
use Rattle.jffs_run.specs.declared.outcome.AcceptedBy.{AcceptedBy}
use Rattle.jffs_run.specs.declared.outcome.AcceptedBy.TheVariants.{Shared, Rings}
use Rattle.jffs_line.specs.Settling.{all_hands}
use Rattle.jffs_run.specs.Ends.{accepted_by}

abbrev pub accepted_of : AcceptedBy → ℕ → List Request
accepted_of (Shared hands) sender =
    accepted_by shared.ghosts sender (all_hands hands.value)
accepted_of (Rings hands) sender =
    accepted_by ring.ghosts sender (all_hands hands.value)
