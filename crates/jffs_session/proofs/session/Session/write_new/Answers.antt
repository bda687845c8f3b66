-- The new file is made, or taken back.
use Rattle.std.proofs.Common.{refl}
use Rattle.jffs_session.specs.Session.{files}
use Rattle.jffs_session.specs.PutEnds.{put_at}
use Rattle.jffs_session.proofs.Endings.{makes_stopped}
use Rattle.jffs_session.proofs.session.Session.write_new.Goals as goal

pub returns-in-Err-clause-written : goal.returns-in-Err-clause-written
returns-in-Err-clause-written g c =
    let p = put_at c.args.paths.path.now c.args.paths.unfinished.now c.args.bytes.now (files c.args.self.now.core) in
    c.stop.ensures.left c.args.self.now.core p c.requires.mounted c.requires.works refl refl c.requires.may.free
    (makes_stopped p c.args.self.now.core c.make_file.new.self.core c.in-Err.cause refl c.in-Err.ensures.made)
