-- The second line after the first.
use Rattle.std.proofs.lemmas.Result.{on_ok_weaker}
use Rattle.std.proofs.KnownBytes.{Appends-trans}
use Rattle.jffs_manage.proofs.looking.write_lines.Goals as goal

pub returns : goal.returns
returns g c =
    on_ok_weaker c.writeln-2.result (Appends-trans _ _ _ _ _ c.in_ok-writeln.ensures.bytes) c.writeln-2.ensures.bytes
