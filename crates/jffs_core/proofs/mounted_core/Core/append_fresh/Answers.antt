use Rattle.jffs_tree.specs.declared.wish.Outcome.TheVariants.{Appended}
use Rattle.jffs_log.specs.declared.room.Room.TheVariants as rooms
use Rattle.jffs_core.proofs.answers.Refusing.{works_past, put_programs}
use Rattle.jffs_core.proofs.answers.Asked.{fresh_may, fresh_room}
use Rattle.jffs_core.proofs.answers.Stepping.{answers_same, fresh_put_keeps, put_now, put_stopped}
use Rattle.jffs_core.proofs.mounted_core.Core.append_fresh.Goals as goal

pub append-requires-clause-follows : goal.append-requires-clause-follows
append-requires-clause-follows g c =
    let d = c.requires.decided in
    (d.past, d.known, fresh_may d.past _ c.args.request.now c.args.node.now d.known d c.requires.fresh)

pub returns-in-Ok-clause-acted : goal.returns-in-Ok-clause-acted
returns-in-Ok-clause-acted g c = λ past known.
    let d = c.requires.decided in
    let q = c.args.request.now in
    let n = c.args.node.now in
    let h = c.in-Ok.ensures.done in
    answers_same past _ _ q c.appended.result (Appended n.inode n.version) n c.appended.ensures
    (put_now past _ _ q c.requires.working known n d c.requires.fresh h.had_room h.works h.faults (fresh_put_keeps n _ _ h) (put_programs n past c.args.self.now c.append.new.self h.programs)
    (works_past _ _ h.works (h.represents past known (fresh_may past _ q n known d c.requires.fresh))))

pub returns-in_default-clause-acted : goal.returns-in_default-clause-acted
returns-in_default-clause-acted g c = λ past known.
    let d = c.requires.decided in
    let q = c.args.request.now in
    let n = c.args.node.now in
    put_stopped past _ _ q c.requires.working known rooms.Fresh n _ d (fresh_room past _ q n known d c.requires.fresh)
    (fresh_may past _ q n known d c.requires.fresh) c.in-Err.ensures.refused (λ is f. c.in_default.not-NoSpace is)
