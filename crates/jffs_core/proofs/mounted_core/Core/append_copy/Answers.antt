use Rattle.std.proofs.lemmas.Result.{err_from_is_err_and}
use Rattle.jffs_log.specs.declared.room.Room.TheVariants as rooms
use Rattle.jffs_core.proofs.answers.Asked.{copy_may, copy_room, copy_old}
use Rattle.jffs_core.proofs.answers.Stepping.{put_copy, put_stopped}
use Rattle.jffs_core.proofs.mounted_core.Core.append_copy.Goals as goal

pub append-requires-clause-follows : goal.append-requires-clause-follows
append-requires-clause-follows g c =
    let d = c.requires.decided in
    (d.past, d.known, copy_may d.past _ c.args.request.now c.args.node.now d.known d c.requires.copies)

pub returns-clause-acted : goal.returns-clause-acted
returns-clause-acted g c = λ past known.
    let d = c.requires.decided in
    put_copy past _ _ c.args.request.now c.requires.working known c.args.node.now d c.requires.copies (copy_room past _ c.args.request.now c.args.node.now known d c.requires.copies)
    (copy_may past _ c.args.request.now c.args.node.now known d c.requires.copies) c.in_ok-append.ensures.done

pub returns-in_err-append-clause-acted : goal.returns-in_err-append-clause-acted
returns-in_err-append-clause-acted g c = let p = err_from_is_err_and c.from_residual.result c.from_residual.ensures.1 in rw (p.1, p.2) λ past known.
    let d = c.requires.decided in
    let q = c.args.request.now in
    let n = c.args.node.now in
    let k = c.requires.copies in
    put_stopped past _ _ q c.requires.working known rooms.Fresh n _ d (copy_room past _ q n known d k)
    (copy_may past _ q n known d k) c.in_err-append.ensures.refused (λ is f. copy_old past _ q n known d k f)
