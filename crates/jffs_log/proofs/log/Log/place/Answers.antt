use Rattle.std.proofs.Common.{true, false, rules}
use Rattle.jffs_log.proofs.Seen.{room_seen}
use Rattle.jffs_log.proofs.log.Log.place.Goals as goal

pub returns-then-tail_need-from-clause-exact : goal.returns-then-tail_need-from-clause-exact
returns-then-tail_need-from-clause-exact g c = room_seen _ _ c.args.room c.args.len true c.self.view_is c.self.invariant (search rules)

pub returns-then-erased_need-index-clause-exact : goal.returns-then-erased_need-index-clause-exact
returns-then-erased_need-index-clause-exact g c = room_seen _ _ c.args.room c.args.len true c.self.view_is c.self.invariant (search rules)

pub returns-else-erased_need-index-clause-exact : goal.returns-else-erased_need-index-clause-exact
returns-else-erased_need-index-clause-exact g c = room_seen _ _ c.args.room c.args.len false c.self.view_is c.self.invariant (search rules)
