-- The old file is removed, and the new one renamed.
use Rattle.std.proofs.Common.{refl}
use Rattle.jffs_session.specs.Session.{files}
use Rattle.jffs_session.specs.PutEnds.{put_at}
use Rattle.jffs_session.proofs.Endings.{remove_stopped, replaced_done, stays_alone}
use Rattle.jffs_session.proofs.session.Session.replace.Goals as goal

pub returns-in-Err-remove-clause-ends : goal.returns-in-Err-remove-clause-ends
returns-in-Err-remove-clause-ends g c =
    let w = c.in_default.ensures.written in
    let p = put_at c.args.paths.path.now c.args.paths.unfinished.now c.args.bytes.now (files c.args.self.now.core) in
    c.stop.ensures.left c.args.self.now.core p c.requires.mounted c.requires.works refl refl c.requires.may.free
    (remove_stopped c.args.paths.path.now c.args.paths.unfinished.now c.args.bytes.now c.args.self.now.core c.write_new.new.self.core c.requires.mounted c.requires.works c.in_default.ensures.mounted w.0
    c.requires.may w.1 c.requires.file c.remove.new.self.core c.in-Err-remove.cause c.in-Err-remove.ensures.removed)

pub returns-in-Ok-clause-ends : goal.returns-in-Ok-clause-ends
returns-in-Ok-clause-ends g c =
    let w = c.in_default.ensures.written in
    replaced_done c.args.paths.path.now c.args.paths.unfinished.now c.args.bytes.now c.args.self.now.core c.write_new.new.self.core c.requires.mounted c.requires.works c.in_default.ensures.mounted w.0
    c.requires.may w.1 c.requires.file c.remove.new.self.core c.remove.ensures.mounted c.in_default-remove.ensures.removed c.rename.new.self.core tt c.in-Ok.ensures.renamed

pub returns-in-Err-rename-clause-ends : goal.returns-in-Err-rename-clause-ends
returns-in-Err-rename-clause-ends g c =
    let w = c.in_default.ensures.written in
    stays_alone c.args.paths.path.now c.args.paths.unfinished.now c.args.bytes.now c.args.self.now.core c.write_new.new.self.core c.requires.mounted c.requires.works c.in_default.ensures.mounted w.0
    c.requires.may w.1 c.requires.file c.remove.new.self.core c.remove.ensures.mounted c.in_default-remove.ensures.removed c.rename.new.self.core c.in-Err-rename.cause c.left.result c.in-Err-rename.ensures.renamed
    c.left.ensures.known c.left.ensures.unseen
