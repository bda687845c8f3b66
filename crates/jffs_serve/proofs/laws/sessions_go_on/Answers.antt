use Rattle.jffs_serve.proofs.Replying.{sessions_go_on}
use Rattle.jffs_serve.proofs.Stopping.{stops_along}
use Rattle.jffs_serve.proofs.laws.sessions_go_on.Goals as goal

pub returns : goal.returns
returns c = record { replies = sessions_go_on; stops = stops_along }
