use Rattle.std.proofs.lemmas.Result.{err_from_is_err_and}
use Rattle.jffs_log.specs.declared.room.Room.TheVariants as rooms
use Rattle.jffs_core.proofs.answers.Asked.{unmount_may, unmount_room, unmount_old}
use Rattle.jffs_core.proofs.answers.Stepping.{put_unmount, put_stopped}
use Rattle.jffs_core.proofs.mounted_core.Core.append_unmount.Goals as goal

pub append-requires-clause-follows : goal.append-requires-clause-follows
append-requires-clause-follows g c =
    let d = c.requires.decided in
    (d.past, d.known, unmount_may d.past _ c.args.request.now c.args.node.now d.known d c.requires.unmounts)

pub returns-clause-acted : goal.returns-clause-acted
returns-clause-acted g c = λ past known.
    let d = c.requires.decided in
    put_unmount past _ _ c.args.request.now c.requires.working known c.args.node.now d c.requires.unmounts (unmount_room past _ c.args.request.now c.args.node.now known d c.requires.unmounts)
    (unmount_may past _ c.args.request.now c.args.node.now known d c.requires.unmounts) c.in_ok-append.ensures.done

pub returns-in_err-append-clause-acted : goal.returns-in_err-append-clause-acted
returns-in_err-append-clause-acted g c = let p = err_from_is_err_and c.from_residual.result c.from_residual.ensures.1 in rw (p.1, p.2) λ past known.
    let d = c.requires.decided in
    let q = c.args.request.now in
    let n = c.args.node.now in
    let u = c.requires.unmounts in
    put_stopped past _ _ q c.requires.working known rooms.Unmount n _ d (unmount_room past _ q n known d u)
    (unmount_may past _ q n known d u) c.in_err-append.ensures.refused (λ is f. unmount_old past _ q n known d u f)
