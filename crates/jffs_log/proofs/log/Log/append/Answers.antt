use Rattle.std.proofs.Common.{subst}
use Rattle.std.proofs.lemmas.Result.{on_ok_weaker}
use Rattle.jffs_node.specs.Record.{record_len}
use Rattle.jffs_log.specs.Place.{IsPlace}
use Rattle.jffs_log.proofs.log.Log.append.Goals as goal
use Rattle.jffs_log.proofs.log.Log.append.Goals.{In-Some}

-- the log puts the record at the place that was found
found : (g : _) (c : In-Some g) → IsPlace c.args.room (record_len c.args.node.now) c.args.self.now.index c.in-Some.place
found g c = subst (λ k. IsPlace c.args.room k c.args.self.now.index c.in-Some.place) c.record_len.ensures c.in-Some.ensures.here

pub write_at-requires-clause-may : goal.write_at-requires-clause-may
write_at-requires-clause-may g c = record {
  room = c.args.room;
  may = c.requires.may;
  is_place = found g (goal.at.write_at-requires-clause-may g c).In-Some;
}

pub returns-clause-done : goal.returns-clause-done
returns-clause-done g c =
    on_ok_weaker c.write_at.result (λ done. done c.args.room (found g (goal.at.returns-clause-done g c).In-Some)) c.write_at.ensures.done
