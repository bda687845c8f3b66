use Rattle.std.proofs.Common.{◌≡◌, ℕ, ap, ◌∙◌, ltb}
use Rattle.jffs_log.proofs.rooms.Weighed.{records_few}
use Rattle.jffs_log.proofs.begun.Found.{live_is}
use Rattle.jffs_log.proofs.healing.has_live.Goals as goal

pub count_in-requires : goal.count_in-requires
count_in-requires g c = records_few _ _ _ _ _ _ _ _ _ c.in-Ok.ensures.found.index

pub returns-in-Ok-clause-live : goal.returns-in-Ok-clause-live
returns-in-Ok-clause-live g c = ap (ltb 0) c.count_in.ensures ∙ live_is _ _ c.args.sector _ _ _ _ _ c.in-Ok.ensures.found
