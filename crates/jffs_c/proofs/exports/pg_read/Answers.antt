-- The reason is that of the volume behind the handle.
use Rattle.std.proofs.Common.{◌≡◌, Ok, subst}
use Rattle.jffs_c.specs.declared.volume.Volume.{Volume}
use Rattle.jffs_c.specs.Blocked.{looks_blocked}
use Rattle.jffs_c.specs.Seen.{IsUnread}
use Rattle.jffs_c.proofs.exports.pg_read.Goals as goal

pub returns-in-Err-clause-why : goal.returns-in-Err-clause-why
returns-in-Err-clause-why c = λ may _. record {
  code = c.in-Err.code;
  number = c.number-in-Err.ensures;
  so =
      subst (λ (volume : Volume). looks_blocked volume.phase ≡ Ok tt → IsUnread c.args.path.now volume c.in-Err.code)
      c.volume.ensures.value c.in-Err.ensures.why may;
}
