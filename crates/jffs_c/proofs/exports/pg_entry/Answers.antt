-- The reason is that of the volume behind the handle.
use Rattle.std.proofs.Common.{◌≡◌, Ok, subst, length}
use Rattle.jffs_c.specs.declared.volume.Volume.{Volume}
use Rattle.jffs_c.specs.Blocked.{looks_blocked}
use Rattle.jffs_c.specs.Seen.{IsUntold}
use Rattle.jffs_c.proofs.exports.pg_entry.Goals as goal

pub returns-in-Err-clause-why : goal.returns-in-Err-clause-why
returns-in-Err-clause-why c = λ may _. record {
  code = c.in-Err.code;
  number = c.number-in-Err.ensures;
  so =
      subst (λ (volume : Volume). looks_blocked volume.phase ≡ Ok tt → IsUntold c.args.path.now volume c.args.number (length c.args.name.now) c.in-Err.code)
      c.volume.ensures.value c.in-Err.ensures.why may;
}
