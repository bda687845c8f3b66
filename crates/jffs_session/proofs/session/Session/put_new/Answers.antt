-- The new file is renamed, or taken back.
use Rattle.std.proofs.Common.{refl}
use Rattle.jffs_session.specs.Session.{files}
use Rattle.jffs_session.specs.PutEnds.{put_at}
use Rattle.jffs_session.proofs.Endings.{new_done, new_stopped}
use Rattle.jffs_session.proofs.session.Session.put_new.Goals as goal

pub returns-in-Ok-clause-ends : goal.returns-in-Ok-clause-ends
returns-in-Ok-clause-ends g c =
    let w = c.in_default.ensures.written in
    new_done c.args.paths.path.now c.args.paths.unfinished.now c.args.bytes.now c.args.self.now.core c.write_new.new.self.core c.requires.mounted c.requires.works c.in_default.ensures.mounted w.0
    c.requires.may w.1 c.requires.nothing c.rename.new.self.core tt c.in-Ok.ensures.renamed

pub returns-in-Err-rename-clause-ends : goal.returns-in-Err-rename-clause-ends
returns-in-Err-rename-clause-ends g c =
    let w = c.in_default.ensures.written in
    let p = put_at c.args.paths.path.now c.args.paths.unfinished.now c.args.bytes.now (files c.args.self.now.core) in
    c.stop.ensures.left c.args.self.now.core p c.requires.mounted c.requires.works refl refl c.requires.may.free
    (new_stopped c.args.paths.path.now c.args.paths.unfinished.now c.args.bytes.now c.args.self.now.core c.write_new.new.self.core c.requires.mounted c.requires.works c.in_default.ensures.mounted w.0
    c.requires.may w.1 c.requires.nothing c.rename.new.self.core c.in-Err-rename.cause c.in-Err-rename.ensures.renamed)
